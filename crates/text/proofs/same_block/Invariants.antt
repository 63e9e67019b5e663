-- As `block`, of the flags of two texts. Assumes nothing.
use Rattle.text.specs.Private.{differences, alike}
use Rattle.text.proofs.Flags.{Gathered}
use Rattle.text.proofs.same_block.Given as goal

abbrev pub invariant-loop-k : goal.invariant-loop-k
invariant-loop-k l = Gathered alike (differences l.other l.s) l.i l.k l.z
