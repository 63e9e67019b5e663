-- The loop's invariant: the NULs of the bytes that were met are counted. Assumes nothing.
use mathlib.Core.Path.{◌≡◌}
use lib.ListN.{take}
use Rattle.std.specs.Prelude.{count_by}
use Rattle.lookup_why.proofs.Counted.{nul}
use Rattle.lookup_why.proofs.nuls_in.Given as goal

abbrev pub invariant-loop-b : goal.invariant-loop-b
invariant-loop-b l = l.nuls ≡ count_by nul (take l.b-index l.block)
