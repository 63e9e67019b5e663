-- Byte by byte. Assumes nothing.
use Rattle.lookup_slots.proofs.Lowest.{lesser, lowers}
use Rattle.lookup_slots.proofs.least_at.Goals as goal

pub returns : goal.returns
returns c =
    lowers c.args.s.now c.args.i (lesser _ _ c.min.ensures) (lesser _ _ c.min-2.ensures) (lesser _ _ c.min-3.ensures) (lesser _ _ c.min-4.ensures) (lesser _ _ c.min-5.ensures) (lesser _ _ c.min-6.ensures)
    (lesser _ _ c.min-7.ensures) (lesser _ _ c.min-8.ensures)
