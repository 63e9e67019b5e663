-- The loop's invariant: the segments that are counted and the NULs from at on are all. The measure is what is left. Assumes nothing.
use Prim.Native.Nat.{◌+◌, ◌-◌, ◌≤◌}
use mathlib.Core.Path.{◌≡◌}
use lib.ListN.{length, drop}
use Rattle.std.specs.Prelude.{count_by}
use Rattle.lookup_why.proofs.Counted.{nul}
use Rattle.lookup_why.proofs.count_in.Given as goal

abbrev pub invariant-loop-at : goal.invariant-loop-at
invariant-loop-at l = (l.count + count_by nul (drop l.at l.translation) ≡ count_by nul l.translation + 1) × (l.at ≤ length l.translation)

abbrev pub decreases-loop-at : goal.decreases-loop-at
decreases-loop-at l = length l.translation - l.at
