-- `rules_range::ranged` meets its contract: below %'s number every operator yields a truth, from +'s on it is calculated, and between are % and /.
use mathlib.Core.Path.{refl}
use borrow.Author.Tests.{ne_eqb}
use Rattle.rules.specs.Range.{op_range}
use Rattle.rules.specs.Operator.{op_of, op_at}
use Rattle.rules.proofs.Operators.{op_at_lem}
use Rattle.rules_operators.proofs.Operators.{high_calc, is_div}
use Rattle.rules_range.proofs.ranged.Goals as goal

pub returns-then-op-ge-PLUS : goal.returns-then-op-ge-PLUS
returns-then-op-ge-PLUS c = record { is = λ op e. let k = high_calc _ op e c.if-op-ge-PLUS.true in rw k.is (c.calculated.ensures.is k.which (rw k.is at e)) }

pub returns-then-op-eq-MODULO : goal.returns-then-op-eq-MODULO
unfolding op_range op_of op_at
returns-then-op-eq-MODULO c = record { is = λ op e. rw (op_at_lem _ 8 e c.if-op-eq-MODULO.true refl, ne_eqb _ _ c.if-l-eq0.false, c.min.ensures) }

pub returns : goal.returns
unfolding op_range
returns c = record { is = λ op e. rw (is_div c.args.op op e c.if-op-lt-MODULO.false c.if-op-ge-PLUS.false c.if-op-eq-MODULO.false, ne_eqb _ _ c.if-l-eq0.false) }
