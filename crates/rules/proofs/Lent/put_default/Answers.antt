-- The one node is put where packing puts that of n != 1. Assumes nothing.
use mathlib.Core.Path.{refl}
use Rattle.rules.specs.Pack.{pack, nodes, packed_size}
use Rattle.rules.proofs.Stored.{default_node, blank_is}
use Rattle.rules.proofs.Lent.put_default.Goals as goal

pub returns-clause-nodes : goal.returns-clause-nodes
unfolding packed_size pack nodes
returns-clause-nodes c = default_node c.put.ensures.put blank_is

pub returns-clause-count : goal.returns-clause-count
unfolding packed_size pack nodes
returns-clause-count c = refl
