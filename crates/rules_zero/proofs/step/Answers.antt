-- `rules_zero::step` meets its contract: each return is a step by the tests that led there. Assumes nothing.
use mathlib.Core.Path.{refl}
use native.Mathlib.Omega.{arith}
use Rattle.rules.specs.Pool.{pool_in}
use Rattle.rules.proofs.Trees.{before_in, first_in, second_in, down}
use Rattle.rules_zero.proofs.Steps.{step_settled, step_both}
use Rattle.rules_zero.proofs.step.Goals as goal

pub value_at-requires : goal.value_at-requires
value_at-requires c = (down c.requires refl (first_in c.requires c.if-code-lt-OP.false) c.place-first.ensures).1

pub returns-then-settles : goal.returns-then-settles
returns-then-settles c = step_settled (pool_in c.args.nodes) c.args.n c.args.at c.if-code-lt-OP.false c.place-first.ensures c.value_at.ensures c.in-Some.is c.if-code-lt-CHOICE.true c.settles.ensures c.if-settles.true

pub returns-then-code-lt-CHOICE : goal.returns-then-code-lt-CHOICE
returns-then-code-lt-CHOICE c = step_both (pool_in c.args.nodes) c.args.n c.args.at c.if-code-lt-OP.false c.place-first.ensures c.value_at.ensures c.in-Some.is c.if-code-lt-CHOICE.true c.settles.ensures c.if-settles.false c.without-then-code-lt-CHOICE.ensures

pub without-requires-2 : goal.without-requires-2
without-requires-2 c = (down c.requires refl (second_in c.requires c.if-code-lt-TERNARY.false) c.place.ensures).1

pub overflow_sub-last : goal.overflow_sub-last
overflow_sub-last c = omega (arith, before_in c.requires c.if-code-lt-NOT.false)
