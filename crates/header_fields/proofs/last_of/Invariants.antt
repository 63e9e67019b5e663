-- The loop's invariant: the last field is that of the pieces from at on, or else the one found. The measure is what is left. Assumes nothing.
use Prim.Native.Nat.{◌≤◌, ◌-◌}
use lib.ListN.{length}
use Rattle.text_trim.specs.Trim.{chars_of, white_space}
use Rattle.header_fields.specs.Fields.{named}
use Rattle.header_fields.proofs.Places.{Met}
use Rattle.header_fields.proofs.last_of.Given as goal

abbrev pub invariant-loop-names : goal.invariant-loop-names
invariant-loop-names l = (l.at ≤ length l.s) × Met (named (chars_of l.names) white_space l.x l.name) l.c l.s l.at l.found

abbrev pub decreases-loop-names : goal.decreases-loop-names
decreases-loop-names l = length l.s - l.at
