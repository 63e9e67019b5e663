-- `rules_pack::pack_tree` meets its contract: each return is what the nodes at the place and its operands' places pack to, and its operands, which
-- lie below it, were packed before it.
use Rattle.rules_pack.proofs.+pack_tree.Given as goal

abbrev pub decreases-pack_tree : goal.decreases-pack_tree
decreases-pack_tree l = l.at
