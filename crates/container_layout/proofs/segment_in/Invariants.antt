-- The loop's invariant: the segment sought is one of those from at on, of which the first ends at end. Assumes nothing.
use Prim.Native.Nat.{◌+◌, ◌-◌, ◌≤◌}
use mathlib.Core.Path.{◌≡◌}
use lib.ListN.{length, drop}
use Rattle.text.specs.Bytes.{place}
use Rattle.container_layout.proofs.Segments.{Sought}
use Rattle.container_layout.proofs.segment_in.Given as goal

abbrev pub invariant-loop-passed : goal.invariant-loop-passed
invariant-loop-passed l =
    (l.at ≤ length l.translation) × Sought l.translation l.start l.form (l.form - l.passed) l.at × (l.end ≡ l.at + place 0 (drop l.at l.translation))
