-- Context and byte 4, or nothing. Assumes nothing.
use Rattle.lookup_index.proofs.Searched.{hash_nothing, hash_context}
use Rattle.lookup_index.proofs.before_id.Goals as goal

pub returns-in_default : goal.returns-in_default
returns-in_default c = hash_nothing c.args.key c.in_default.is

pub returns : goal.returns
returns c = hash_context c.args.key c.in-Some.is c.hash_from-h.ensures
