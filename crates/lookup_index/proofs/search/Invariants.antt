-- Slot after slot, to the first that is empty or names an entry with the key. Assumes nothing.
use Prim.Native.Nat.{◌-◌}
use Rattle.lookup_scan.specs.Keys.{bytes_of}
use Rattle.lookup_index.proofs.Searched.{Searched}
use Rattle.lookup_index.proofs.search.Given as goal

abbrev pub invariant-loop-passed : goal.invariant-loop-passed
invariant-loop-passed l = Searched l.file l.t l.slots (bytes_of l.fn.key) l.p (l.m - l._passed)
