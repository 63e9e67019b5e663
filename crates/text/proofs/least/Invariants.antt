-- The loop's invariant: the least of the first k bytes of the block. Assumes nothing.
use Prim.Native.Nat.{◌+◌}
use Rattle.text.specs.Private.{Least}
use Rattle.text.proofs.least.Given as goal

abbrev pub invariant-loop-k : goal.invariant-loop-k
invariant-loop-k l = Least l.s l.other l.i (l.i + l.k) l.most l.z
