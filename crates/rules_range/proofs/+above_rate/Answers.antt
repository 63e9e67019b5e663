use mathlib.Core.Path.{sym, ◌∙◌}
use native.Mathlib.Omega.{arith}
use Rattle.rules.specs.Pool.{pool_in, value, ternary_node}
use Rattle.rules.proofs.Trees.{before_in, first_in, second_in}
use Rattle.rules_tree.proofs.Runs.{low, down_to, inside, falls_to, leaf_first, leaf_last}
use Rattle.rules_range.proofs.Ranges.{moved, range_of_lem, none_of, any_condition, rate_two, rate_no_condition, rate_chosen, rate_three}
use Prim.Native.Nat.{◌+◌}
use Rattle.rules_range.proofs.+above_rate.Goals as goal

pub above-rate-first-requires : goal.above-rate-first-requires
above-rate-first-requires t c = falls_to c.requires.sound c.decreases (first_in c.requires.sound c.if-code-lt-OP.false) c.place.ensures

pub above-returns-then-code-lt-CHOICE : goal.above-returns-then-code-lt-CHOICE
above-returns-then-code-lt-CHOICE t c = let P = pool_in c.args.nodes.now in record { is = λ g. rate_two P c.args.at (before_in c.requires.sound c.requires.above) g (first_in c.requires.sound c.if-code-lt-OP.false) (moved P c.rate-first.ensures c.place.ensures) c.if-code-lt-OP.false c.if-code-lt-CHOICE.true c.binary.ensures }

pub above-returns-then-h-first : goal.above-returns-then-h-first
above-returns-then-h-first t c = let P = pool_in c.args.nodes.now in record { is = λ g. rate_no_condition P c.args.at (before_in c.requires.sound c.requires.above) g (first_in c.requires.sound c.if-code-lt-OP.false) (moved P c.rate-first.ensures c.place.ensures) c.if-code-lt-CHOICE.false (second_in c.requires.sound) (none_of _ _ c.if-h-first.true) c.ends.ensures }

pub above-returns-then-code-lt-TERNARY : goal.above-returns-then-code-lt-TERNARY
above-returns-then-code-lt-TERNARY t c = let P = pool_in c.args.nodes.now in record { is = λ g. rate_chosen P c.args.at (before_in c.requires.sound c.requires.above) g (first_in c.requires.sound c.if-code-lt-OP.false) (moved P c.rate-first.ensures c.place.ensures) c.if-code-lt-CHOICE.false c.if-code-lt-TERNARY.true (range_of_lem (value P c.args.at) (value P c.args.at) (omega arith)) (c.either.ensures ∙ sym (any_condition _ _ _ _ c.if-h-first.false)) }

pub above-rate-second-requires : goal.above-rate-second-requires
above-rate-second-requires t c = falls_to c.requires.sound c.decreases (second_in c.requires.sound c.if-code-lt-TERNARY.false) c.place-2.ensures

pub above-returns : goal.above-returns
above-returns t c = let P = pool_in c.args.nodes.now in record { is = λ g. rate_three P c.args.at (before_in c.requires.sound c.requires.above) g (first_in c.requires.sound c.if-code-lt-OP.false) (moved P c.rate-first.ensures c.place.ensures) c.if-code-lt-TERNARY.false (second_in c.requires.sound c.if-code-lt-TERNARY.false) (moved P c.rate-second.ensures c.place-2.ensures) (c.either-2.ensures ∙ sym (any_condition _ _ _ _ c.if-h-first.false)) }

pub rate-above-low-requires : goal.rate-above-low-requires
rate-above-low-requires t c = (omega (arith, c.decreases), (down_to c.requires (omega arith), low _ (ternary_node + 1) (c.base-leaf_at.ensures.run.all _ (omega arith) (omega arith))))

pub rate-base-leaf_at-requires : goal.rate-base-leaf_at-requires
rate-base-leaf_at-requires t c = (inside c.requires, leaf_first c.requires)

pub rate-leaf-low-requires-clause-leaf : goal.rate-leaf-low-requires-clause-leaf
rate-leaf-low-requires-clause-leaf t c = leaf_last c.requires c.base-leaf_at.ensures
