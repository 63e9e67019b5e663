-- `rules_operators::apply` meets its contract: each return is the definition at the operator that the tests before it leave.
use Rattle.std.specs.Prelude.{Some}
use Rattle.std.proofs.Common.{sym, refl, ap, ◌∙◌, arith, eq-eqb, ne_eqb}
use Rattle.rules.specs.Value.{binary, truth_v}
use Rattle.rules.specs.Operator.{op_of, op_at}
use Rattle.rules.proofs.Operators.{op_at_lem}
use Rattle.rules_operators.proofs.Operators.{low_cmp, high_calc, is_div, by_zero}
use Rattle.rules_operators.proofs.Given.{applied_number, applied_zero}
use Rattle.rules_operators.proofs.apply.Goals as goal

pub returns-then-op-lt-AND : goal.returns-then-op-lt-AND
unfolding binary
returns-then-op-lt-AND c = applied_number λ op e.
    let k = low_cmp _ op e c.if-op-lt-AND.true in
    rw k.is (ap Some (sym (c.truth.ensures ∙ rw (c.compares.ensures.is k.which (rw k.is at e)))))

pub returns-then-x-eq0 : goal.returns-then-x-eq0
unfolding binary op_of op_at
returns-then-x-eq0 c = applied_number λ op e. rw (op_at_lem _ 6 e c.if-op-eq-AND.true refl, eq-eqb _ _ c.if-x-eq0.true)

pub returns-then-op-eq-AND : goal.returns-then-op-eq-AND
unfolding binary op_of op_at truth_v
returns-then-op-eq-AND c = applied_number λ op e. rw (op_at_lem _ 6 e c.if-op-eq-AND.true refl, ne_eqb _ _ c.if-x-eq0.false) (ap Some (sym c.truth-then-op-eq-AND.ensures))

pub returns-then-x-eq0-2 : goal.returns-then-x-eq0-2
unfolding binary op_of op_at truth_v
returns-then-x-eq0-2 c = applied_number λ op e. rw (op_at_lem _ 7 e c.if-op-eq-OR.true refl, eq-eqb _ _ c.if-x-eq0-2.true) (ap Some (sym c.truth-then-x-eq0-2.ensures))

pub returns-then-op-eq-OR : goal.returns-then-op-eq-OR
unfolding binary op_of op_at
returns-then-op-eq-OR c = applied_number λ op e. rw (op_at_lem _ 7 e c.if-op-eq-OR.true refl, ne_eqb _ _ c.if-x-eq0-2.false)

pub returns-then-op-ge-PLUS : goal.returns-then-op-ge-PLUS
unfolding binary
returns-then-op-ge-PLUS c = applied_number λ op e.
    let k = high_calc _ op e c.if-op-ge-PLUS.true in
    rw k.is (ap Some (sym (c.calculates.ensures.is k.which (rw k.is at e))))

pub returns-then-y-eq0 : goal.returns-then-y-eq0
returns-then-y-eq0 c = applied_zero (λ op e. rw c.if-y-eq0.true (by_zero c.args.op op _ e (omega arith) c.if-op-ge-PLUS.false)) refl refl

pub returns-then-op-eq-MODULO : goal.returns-then-op-eq-MODULO
unfolding binary op_of op_at
returns-then-op-eq-MODULO c = applied_number λ op e. rw (op_at_lem _ 8 e c.if-op-eq-MODULO.true refl, ne_eqb _ _ c.if-y-eq0.false)

pub returns : goal.returns
unfolding binary
returns c = applied_number λ op e. rw (is_div c.args.op op e (omega arith) c.if-op-ge-PLUS.false c.if-op-eq-MODULO.false, ne_eqb _ _ c.if-y-eq0.false)
