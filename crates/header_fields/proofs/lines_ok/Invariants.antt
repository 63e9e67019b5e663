-- The loop's invariant: the lines before at are fields or empty. The measure is what is left. Assumes nothing.
use Prim.Native.Nat.{◌≤◌, ◌-◌}
use lib.ListN.{length}
use Rattle.header_fields.specs.Fields.{line_ok}
use Rattle.header_fields.proofs.Lines.{Passed}
use Rattle.header_fields.proofs.lines_ok.Given as goal

abbrev pub invariant-loop-at : goal.invariant-loop-at
invariant-loop-at l = (l.at ≤ length l.h) × Passed line_ok 10 l.h l.at

abbrev pub decreases-loop-at : goal.decreases-loop-at
decreases-loop-at l = length l.h - l.at
