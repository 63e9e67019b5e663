-- The loop's invariant: the flags of the first k bytes of the block are gathered. Assumes nothing.
use Rattle.text.specs.Private.{in_run}
use Rattle.text.proofs.Flags.{Gathered}
use Rattle.text.proofs.block.Given as goal

abbrev pub invariant-loop-k : goal.invariant-loop-k
invariant-loop-k l = Gathered (in_run l.run (l.lo, l.hi)) l.s l.i l.k l.z
