-- The key is taken part after part. Assumes nothing.
use Rattle.lookup_index.proofs.Searched.{hash_key}
use Rattle.lookup_index.proofs.hash_of.Goals as goal

pub returns : goal.returns
returns c = hash_key c.args.key c.before_id-h.ensures c.hash_from.ensures
