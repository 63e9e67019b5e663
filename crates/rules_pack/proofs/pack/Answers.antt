-- `rules_pack::pack` meets its contract: the nodes are packed into arrays of zeros.
use Rattle.rules_pack.proofs.Laws.{from_blank}
use Rattle.rules_pack.proofs.pack.Goals as goal

pub returns-clause-nodes : goal.returns-clause-nodes
returns-clause-nodes c = (from_blank c.pack_tree.ensures.packed).0

pub returns-clause-count : goal.returns-clause-count
returns-clause-count c = (from_blank c.pack_tree.ensures.packed).1
