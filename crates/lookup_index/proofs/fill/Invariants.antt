-- The slots are cleared, and the entries go in by index. Assumes nothing.
use lib.ListN.{length}
use Rattle.lookup_index.proofs.Filled.{Filled}
use Rattle.lookup_index.proofs.fill.Given as goal

abbrev pub invariant-loop-i : goal.invariant-loop-i
invariant-loop-i l = Filled l.file l.t (length l.initial.slots) l.slots l.i
