-- `rules_value::leaf` meets its contract: each return is the value of the tree that the tests before it leave.
use mathlib.Core.Path.{refl}
use native.Mathlib.Omega.{arith}
use Rattle.rules.proofs.Operators.{named}
use Rattle.rules_value.proofs.Values.{is_count, is_int, is_op, is_rest}
use Rattle.rules_value.proofs.leaf.Goals as goal

pub returns-then-code-eq-N : goal.returns-then-code-eq-N
returns-then-code-eq-N c = is_count _ _ _ _ c.if-code-eq-N.true refl

pub returns-then-code-lt-N_OP : goal.returns-then-code-lt-N_OP
returns-then-code-lt-N_OP c = is_int _ _ _ _ c.if-code-eq-N.false c.if-code-lt-N_OP.true refl

pub apply-requires : goal.apply-requires
apply-requires c = named _ (omega arith)

pub returns-then-code-lt-REST_OP : goal.returns-then-code-lt-REST_OP
returns-then-code-lt-REST_OP c = is_op _ _ _ _ c.if-code-lt-N_OP.false c.if-code-lt-REST_OP.true c.apply.ensures

pub apply-x-requires : goal.apply-x-requires
apply-x-requires c = named _ (omega arith)

pub apply-requires-2 : goal.apply-requires-2
apply-requires-2 c = named _ (omega (arith, c.requires))

pub returns : goal.returns
returns c = is_rest _ _ _ _ c.if-code-lt-REST_OP.false c.requires c.apply-x.ensures c.apply-2.ensures
