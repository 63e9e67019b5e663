-- `row_of`: the rows passed have no match, so the first with one is found from the rows that are left.
use Prim.Native.Nat.{◌+◌}
use mathlib.Core.Path.{◌≡◌}
use lib.ListN.{drop}
use Rattle.reading_levels.specs.Levels.{rows, row_of}
use Rattle.reading_levels.proofs.row_of.Given as goal

abbrev pub invariant-loop-row : goal.invariant-loop-row
invariant-loop-row l = row_of rows l.s ≡ l.row + row_of (drop l.row rows) l.s
