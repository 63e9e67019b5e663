-- `end_of`: the fold over the whole is the fold over the rest, with level and index as they are (Scanned).
use Prim.Native.Nat.{◌≤◌, ◌+◌}
use mathlib.Core.Path.{◌≡◌}
use lib.ListN.{drop}
use Rattle.reading_scan.specs.Scan.{end_from}
use Rattle.reading_scan.proofs.end_of.Given as goal

abbrev pub invariant-loop-ch : goal.invariant-loop-ch
invariant-loop-ch l =
    (l.level ≤ l.ch-index + 1) × (l.index ≤ l.ch-index + 2) × (end_from l.s 1 2 ≡ end_from (drop l.ch-index l.s) l.level l.index)
