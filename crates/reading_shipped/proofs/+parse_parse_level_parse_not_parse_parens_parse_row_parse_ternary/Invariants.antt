-- What falls from call to call in the cycle of the reading: five for each byte, and the rank of the function: `parse` hands a text of the
-- same length to `parse_parens`, this to `parse_level`, this to `parse_row`, this to `parse_ternary`; every other call has fewer bytes.
use Prim.Native.Nat.{◌+◌, ◌*◌}
use lib.ListN.{length}
use Rattle.reading_shipped.proofs.+parse_parse_level_parse_not_parse_parens_parse_row_parse_ternary.Given as goal

abbrev pub decreases-parse : goal.decreases-parse
decreases-parse l = 5 * length l.s.now + 4

abbrev pub decreases-parse_level : goal.decreases-parse_level
decreases-parse_level l = 5 * length l.s.now + 2

abbrev pub decreases-parse_not : goal.decreases-parse_not
decreases-parse_not l = 5 * length l.s.now

abbrev pub decreases-parse_parens : goal.decreases-parse_parens
decreases-parse_parens l = 5 * length l.s.now + 3

abbrev pub decreases-parse_row : goal.decreases-parse_row
decreases-parse_row l = 5 * length l.s.now + 1

abbrev pub decreases-parse_ternary : goal.decreases-parse_ternary
decreases-parse_ternary l = 5 * length l.s.now
