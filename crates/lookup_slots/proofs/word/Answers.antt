-- Byte after byte. Assumes nothing.
use Rattle.lookup_slots.proofs.Fields.{eight_is}
use Rattle.lookup_slots.proofs.word.Goals as goal

pub returns : goal.returns
returns c = eight_is c.from.ensures c.from-2.ensures c.from-3.ensures c.from-4.ensures c.from-5.ensures c.from-6.ensures c.from-7.ensures c.from-8.ensures
