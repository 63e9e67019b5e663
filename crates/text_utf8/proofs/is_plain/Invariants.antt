-- The loop's invariant: the bytes behind the first two are right after the two before, up to a place. The last block takes in the others.
-- The measure is what is left. Assumes nothing.
use Prim.Native.Nat.{◌+◌, ◌-◌, ◌≤◌}
use mathlib.Core.Path.{◌≡◌}
use lib.ListN.{length}
use Rattle.text_utf8.specs.Private.{Plain}
use Rattle.text_utf8.proofs.is_plain.Given as goal

abbrev pub invariant-loop-i : goal.invariant-loop-i
invariant-loop-i l = (l.n ≡ length l.s) × Plain l.s 0 l.i × (l.i + 2 ≤ length l.s)

abbrev pub decreases-loop-i : goal.decreases-loop-i
decreases-loop-i l = l.n - l.i
