use Rattle.lookup_slots.proofs.Hashed.{hashed_more, hashed_end}
use Rattle.lookup_slots.proofs.hash_bytes.Goals as goal

pub loop-b-preserved : goal.loop-b-preserved
loop-b-preserved c = hashed_more _ _ c.loop-b.invariant c.loop-b-test.true c.from.ensures

pub returns : goal.returns
returns c = hashed_end _ _ c.loop-b.invariant c.loop-b-test.false
