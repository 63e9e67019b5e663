-- `index_of`: what is sought in the whole text is sought in the rest of it, with the counters as they are (Scanned). The counters
-- stay below the bytes passed.
use Prim.Native.Nat.{◌≤◌}
use mathlib.Core.Path.{◌≡◌}
use lib.ListN.{drop}
use Rattle.reading_scan.specs.Scan.{index_of, index_from}
use Rattle.reading_scan.proofs.index_of.Given as goal

abbrev pub invariant-loop-i : goal.invariant-loop-i
invariant-loop-i l = (l.n ≤ l.i) × (l.opened ≤ l.i) × (l.closed ≤ l.i) × (index_of l.pat l.s ≡ index_from l.pat (drop l.i l.s) l.i l.n l.opened l.closed)
