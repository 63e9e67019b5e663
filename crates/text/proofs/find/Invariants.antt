-- The loop's invariant: the pattern stands at none of the first i places. Assumes nothing.
use Rattle.text.proofs.Sought.{Sought}
use Rattle.text.proofs.find.Given as goal

abbrev pub invariant-loop-i : goal.invariant-loop-i
invariant-loop-i l = Sought l.pattern l.s l.i
