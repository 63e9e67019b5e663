-- The library's least power of two. Assumes nothing.
use Rattle.lookup_slots.proofs.Grown.{next_used}
use Rattle.lookup_slots.proofs.used_by.Goals as goal

pub returns : goal.returns
returns c =
    let e = c.next_power_of_two.ensures in
    next_used c.args.count e.power e.lower_bound e.upper_bound
