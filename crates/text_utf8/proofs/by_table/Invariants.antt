-- The loop's invariant: the machine has read the bytes before the loop's. Assumes nothing.
use Rattle.text_utf8.proofs.Machine.{Reaches}
use Rattle.text_utf8.proofs.by_table.Given as goal

abbrev pub invariant-loop-b : goal.invariant-loop-b
invariant-loop-b l = Reaches l.s l.b-index l.state
