-- The loop's invariant: the last count is that of the pieces from at on, or else the one found. The measure is what is left. Assumes nothing.
use Prim.Native.Nat.{◌≤◌, ◌-◌}
use lib.ListN.{length}
use Rattle.header_forms.proofs.Pieces.{Met}
use Rattle.header_forms.proofs.form_count.Given as goal

abbrev pub invariant-loop-found : goal.invariant-loop-found
invariant-loop-found l = (l.at ≤ length l.v) × Met l.v l.at l.found

abbrev pub decreases-loop-found : goal.decreases-loop-found
decreases-loop-found l = length l.v - l.at
