-- The loop's invariant: the first i bytes agree. Assumes nothing.
use Rattle.text.specs.Bytes.{read}
use Rattle.text.proofs.Same.{Agree}
use Rattle.text.proofs.begins_so.Given as goal

abbrev pub invariant-loop-i : goal.invariant-loop-i
invariant-loop-i l = Agree (read l.case) l.pattern l.s l.i
