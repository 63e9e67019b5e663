-- Pairs, fours, eights. Assumes nothing.
use Rattle.lookup_slots.proofs.Fields.{polys}
use Rattle.lookup_slots.proofs.poly.Goals as goal

pub returns : goal.returns
returns c = polys c.evens.ensures c.evens-2.ensures c.halves.ensures c.halves-2.ensures
