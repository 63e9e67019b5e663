-- By the length: byte by byte, or by two blocks, by four, or by a loop over four at a time and the last four. The loop's invariant: the least
-- of the first i bytes. The measure is what is left. Assumes nothing.
use Prim.Native.Nat.{◌-◌, ◌≤◌}
use mathlib.Core.Path.{◌≡◌}
use lib.ListN.{length}
use Rattle.text.specs.Private.{Least}
use Rattle.text.proofs.least_of.Given as goal

abbrev pub invariant-loop-i : goal.invariant-loop-i
invariant-loop-i l = (l.n ≡ length l.s) × Least l.s l.other 0 l.i 255 l.z × (l.i ≤ length l.s)

abbrev pub decreases-loop-i : goal.decreases-loop-i
decreases-loop-i l = l.n - l.i
