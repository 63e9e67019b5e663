-- The loop's invariant: the least of the first k bytes. Assumes nothing.
use Rattle.text.specs.Private.{Least}
use Rattle.text.proofs.least_short.Given as goal

abbrev pub invariant-loop-k : goal.invariant-loop-k
invariant-loop-k l = Least l.s l.other 0 l.k 255 l.z
