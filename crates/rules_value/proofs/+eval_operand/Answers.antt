use mathlib.Core.Path.{refl}
use native.Mathlib.Omega.{arith}
use Rattle.rules.proofs.Operators.{named}
use Rattle.rules.proofs.Trees.{before_in, first_in, second_in}
use Rattle.rules_tree.proofs.Runs.{inside, falls_to, leaf_first}
use Rattle.rules_value.proofs.Values.{lower, topped, moved, at_leaf, at_no, at_chosen, at_yes, at_settled, at_both}
use Rattle.rules_value.proofs.+eval_operand.Goals as goal

pub eval-returns-then-code-lt-NOT : goal.eval-returns-then-code-lt-NOT
eval-returns-then-code-lt-NOT t c = at_leaf _ _ _ c.if-code-lt-NOT.true c.small.ensures c.leaf.ensures

pub eval-overflow_sub-at : goal.eval-overflow_sub-at
eval-overflow_sub-at t c = omega (arith, before_in c.requires c.if-code-lt-NOT.false)

pub eval-base-base-requires : goal.eval-base-base-requires
eval-base-base-requires t c = (omega (arith, inside c.requires), leaf_first c.requires)

pub eval-operand-x-requires : goal.eval-operand-x-requires
eval-operand-x-requires t c = falls_to c.requires c.decreases (omega (arith, c.base-base.ensures.run.below, before_in c.requires c.if-code-lt-NOT.false)) refl

pub eval-up-requires : goal.eval-up-requires
eval-up-requires t c = record { sound = c.requires; run = topped (before_in c.requires c.if-code-lt-NOT.false) c.base-base.ensures.run c.if-code-lt-NOT.false c.if-code-lt-OP.true }

pub eval-returns-then-code-lt-OP : goal.eval-returns-then-code-lt-OP
eval-returns-then-code-lt-OP t c = c.up.ensures.gives c.args.n _ c.operand-x.ensures

pub eval-place-requires : goal.eval-place-requires
eval-place-requires t c = (inside c.requires, omega arith)

pub eval-operand-x-requires-2 : goal.eval-operand-x-requires-2
eval-operand-x-requires-2 t c = falls_to c.requires c.decreases (first_in c.requires c.if-code-lt-OP.false) c.place.ensures

pub eval-overflow_sub-at-then-x-eq0 : goal.eval-overflow_sub-at-then-x-eq0
eval-overflow_sub-at-then-x-eq0 t c = omega (arith, before_in c.requires c.if-code-lt-NOT.false)

pub eval-eval-requires : goal.eval-eval-requires
eval-eval-requires t c = lower (falls_to c.requires c.decreases (before_in c.requires c.if-code-lt-NOT.false) refl)

pub eval-returns-then-x-eq0 : goal.eval-returns-then-x-eq0
eval-returns-then-x-eq0 t c = at_no _ _ _ (before_in c.requires c.if-code-lt-NOT.false) (first_in c.requires c.if-code-lt-OP.false) (moved _ _ _ c.operand-x-2.ensures c.place.ensures) c.if-code-ge-CHOICE.true (second_in c.requires) c.if-x-eq0.true c.eval.ensures

pub eval-bounds-nodes-at-then-code-lt-TERNARY : goal.eval-bounds-nodes-at-then-code-lt-TERNARY
eval-bounds-nodes-at-then-code-lt-TERNARY t c = inside c.requires

pub eval-returns-then-code-lt-TERNARY : goal.eval-returns-then-code-lt-TERNARY
eval-returns-then-code-lt-TERNARY t c = at_chosen _ _ _ (before_in c.requires c.if-code-lt-NOT.false) (first_in c.requires c.if-code-lt-OP.false) (moved _ _ _ c.operand-x-2.ensures c.place.ensures) c.if-code-ge-CHOICE.true c.if-code-lt-TERNARY.true c.if-x-eq0.false refl

pub eval-place-requires-then-code-ge-CHOICE : goal.eval-place-requires-then-code-ge-CHOICE
eval-place-requires-then-code-ge-CHOICE t c = (inside c.requires, omega arith)

pub eval-eval-requires-then-code-ge-CHOICE : goal.eval-eval-requires-then-code-ge-CHOICE
eval-eval-requires-then-code-ge-CHOICE t c = lower (falls_to c.requires c.decreases (second_in c.requires c.if-code-lt-TERNARY.false) c.place-then-code-ge-CHOICE.ensures)

pub eval-returns-then-code-ge-CHOICE : goal.eval-returns-then-code-ge-CHOICE
eval-returns-then-code-ge-CHOICE t c = at_yes _ _ _ (before_in c.requires c.if-code-lt-NOT.false) (first_in c.requires c.if-code-lt-OP.false) (moved _ _ _ c.operand-x-2.ensures c.place.ensures) c.if-code-lt-TERNARY.false (second_in c.requires c.if-code-lt-TERNARY.false) c.if-x-eq0.false (moved _ _ _ c.eval-then-code-ge-CHOICE.ensures c.place-then-code-ge-CHOICE.ensures)

pub eval-apply-requires : goal.eval-apply-requires
eval-apply-requires t c = named _ (omega arith)

pub eval-returns-then-settles : goal.eval-returns-then-settles
eval-returns-then-settles t c = at_settled _ _ _ (before_in c.requires c.if-code-lt-NOT.false) (first_in c.requires c.if-code-lt-OP.false) (moved _ _ _ c.operand-x-2.ensures c.place.ensures) c.if-code-lt-OP.false c.if-code-ge-CHOICE.false c.settles.ensures c.if-settles.true c.apply.ensures

pub eval-overflow_sub-at-2 : goal.eval-overflow_sub-at-2
eval-overflow_sub-at-2 t c = omega (arith, before_in c.requires c.if-code-lt-NOT.false)

pub eval-eval-y-requires : goal.eval-eval-y-requires
eval-eval-y-requires t c = lower (falls_to c.requires c.decreases (before_in c.requires c.if-code-lt-NOT.false) refl)

pub eval-apply-requires-2 : goal.eval-apply-requires-2
eval-apply-requires-2 t c = named _ (omega arith)

pub eval-returns : goal.eval-returns
eval-returns t c = at_both _ _ _ (before_in c.requires c.if-code-lt-NOT.false) (first_in c.requires c.if-code-lt-OP.false) (moved _ _ _ c.operand-x-2.ensures c.place.ensures) c.if-code-lt-OP.false c.if-code-ge-CHOICE.false c.settles.ensures c.if-settles.false c.eval-y.ensures c.apply-2.ensures

pub operand-bounds-nodes-at : goal.operand-bounds-nodes-at
operand-bounds-nodes-at t c = inside c.requires

pub operand-returns-then-code-lt-NOT : goal.operand-returns-then-code-lt-NOT
operand-returns-then-code-lt-NOT t c = at_leaf _ _ _ c.if-code-lt-NOT.true c.small.ensures c.leaf.ensures
