-- The loop's invariant: the sum is that of the cells before i, all of which lie in the file. Assumes nothing.
use mathlib.Core.Path.{◌≡◌}
use Rattle.container_cost.specs.Cost.{lengths, capped}
use Rattle.container_cost.proofs.table_lengths.Given as goal

abbrev pub invariant-loop-i : goal.invariant-loop-i
invariant-loop-i l = l.sum ≡ capped (lengths l.big l.file l.table l.i)
