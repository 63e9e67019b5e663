-- The run goes on through whole blocks, and to the end where the last block is of the run. Else the loop finds the place; its invariant: the
-- bytes up to i are of the run. Assumes nothing.
use Rattle.text.specs.Private.{in_run, Counted}
use Rattle.text.proofs.run_end.Given as goal

abbrev pub invariant-loop-i : goal.invariant-loop-i
invariant-loop-i l = Counted (in_run l.run (l.lo, l.hi)) l.s l.from l.i
