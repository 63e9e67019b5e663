-- `rules_range::rating_of` meets its contract: a pool that passes the tree test can be walked from its root, and the walk gives the range.
use mathlib.Core.Path.{sym}
use Rattle.rules.specs.Pool.{pool_in}
use Rattle.rules.proofs.Trees.{sound, told}
use Rattle.rules.proofs.Answers.{rates, rated_none}
use Rattle.rules_range.proofs.Ranges.{range_of_lem, none_of}
use Rattle.rules_range.proofs.rating_of.Goals as goal

pub returns-then-not-is_tree : goal.returns-then-not-is_tree
returns-then-not-is_tree c = sym (rated_none (pool_in c.args.rule.nodes) c.args.rule.count c.args.rule.root (told (pool_in c.args.rule.nodes) c.args.rule.count c.args.rule.root c.is_tree.ensures c.if-not-is_tree.true))

pub rate-low-requires : goal.rate-low-requires
rate-low-requires c = sound _ _ _ (told (pool_in c.args.rule.nodes) c.args.rule.count c.args.rule.root c.is_tree.ensures c.if-not-is_tree.false)

pub returns-then-high-low : goal.returns-then-high-low
returns-then-high-low c = rates _ _ _ (told (pool_in c.args.rule.nodes) c.args.rule.count c.args.rule.root c.is_tree.ensures c.if-not-is_tree.false) c.rate-low.ensures (none_of _ _ c.if-high-low.true)

pub returns : goal.returns
returns c = rates _ _ _ (told (pool_in c.args.rule.nodes) c.args.rule.count c.args.rule.root c.is_tree.ensures c.if-not-is_tree.false) c.rate-low.ensures (range_of_lem _ _ c.if-high-low.false)
