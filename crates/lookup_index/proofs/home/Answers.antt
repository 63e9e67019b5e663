-- The low bits of the hash. Assumes nothing.
use Rattle.lookup_index.proofs.Lent.{power_mask}
use Rattle.lookup_index.proofs.home.Goals as goal

pub returns : goal.returns
returns c = power_mask c.args.h c.requires
