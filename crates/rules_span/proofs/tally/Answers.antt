-- The tree is tested first, then the span; a refusal leaves the figures cleared. Assumes nothing.
use mathlib.Core.Path.{refl}
use native.Mathlib.Omega.{arith}
use Rattle.rules.specs.Pool.{pool_in}
use Rattle.rules.proofs.Trees.{sound, told}
use Rattle.rules_span.proofs.Figures.{no_tree, below, long, counted}
use Rattle.rules_span.proofs.tally.Goals as goal

pub returns-then-not-is_tree : goal.returns-then-not-is_tree
returns-then-not-is_tree c = let h = no_tree _ _ _ _ _ (told (pool_in c.args.rule.nodes) c.args.rule.count c.args.rule.root c.is_tree.ensures c.if-not-is_tree.true) in record { answer = h.0; figures = h.1 }

pub returns-then-b-a : goal.returns-then-b-a
returns-then-b-a c = let h = below _ _ _ _ _ (told (pool_in c.args.rule.nodes) c.args.rule.count c.args.rule.root c.is_tree.ensures c.if-not-is_tree.false) c.if-b-a.true in record { answer = h.0; figures = h.1 }

pub returns-then-b-a-gt999999 : goal.returns-then-b-a-gt999999
returns-then-b-a-gt999999 c = let h = long _ _ _ _ _ (told (pool_in c.args.rule.nodes) c.args.rule.count c.args.rule.root c.is_tree.ensures c.if-not-is_tree.false) c.if-b-a.false c.if-b-a-gt999999.true in record { answer = h.0; figures = h.1 }

pub count-requires : goal.count-requires
count-requires c = record { sound = sound _ _ _ (told (pool_in c.args.rule.nodes) c.args.rule.count c.args.rule.root c.is_tree.ensures c.if-not-is_tree.false); few = (omega arith, omega arith); blank = refl }

pub returns : goal.returns
returns c = let h = counted _ _ _ _ _ (told (pool_in c.args.rule.nodes) c.args.rule.count c.args.rule.root c.is_tree.ensures c.if-not-is_tree.false) c.if-b-a.false c.if-b-a-gt999999.false c.count.ensures in record { answer = h.0; figures = h.1 }
