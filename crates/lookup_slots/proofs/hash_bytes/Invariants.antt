-- Byte after byte. Assumes nothing.
use Rattle.lookup_slots.proofs.Hashed.{Hashed}
use Rattle.lookup_slots.proofs.hash_bytes.Given as goal

abbrev pub invariant-loop-b : goal.invariant-loop-b
invariant-loop-b l = Hashed l.start l.s l.h l.b-index
