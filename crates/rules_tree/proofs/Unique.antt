-- Each public function's promise fixes its result: any two results that it allows on the same input are equal. `Post` is the promise as the check reads it
-- from the source.
use mathlib.Core.Path.{sym, ◌∙◌}
use Rattle.promise.proofs.One.{One}
use Rattle.rules_tree.proofs.is_tree.Reads as is_tree_lem
use Rattle.rules_tree.proofs.is_tree.Kinds as is-tree-kinds
use Rattle.rules_tree.proofs.base.Reads as base
use Rattle.rules_tree.proofs.base.Kinds as base-kinds
use Rattle.rules_tree.proofs.Runs.{one_base}

pub is_tree_one : One 1 is-tree-kinds.ps is-tree-kinds.r is_tree_lem.Post
is_tree_one κs a u v x y p q = p ∙ sym q

pub base_one : One 1 base-kinds.ps base-kinds.r base.Post
base_one κs a u v x y p q = one_base p q
