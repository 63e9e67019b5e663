-- The loop's invariant: where no flag is set, the first k bytes of the block are right after the two before. Assumes nothing.
use Prim.Native.Nat.{◌+◌}
use mathlib.Core.Path.{◌≡◌}
use Rattle.text_utf8.specs.Private.{Plain}
use Rattle.text_utf8.proofs.block.Given as goal

abbrev pub invariant-loop-k : goal.invariant-loop-k
invariant-loop-k l = l.z ≡ 0 → Plain l.s l.i (l.i + l.k)
