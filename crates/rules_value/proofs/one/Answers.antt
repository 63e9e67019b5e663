-- `rules_value::one` meets its contract: each return is the value of the tree that the tests before it leave.
use mathlib.Core.Path.{refl}
use native.Mathlib.Omega.{arith}
use Rattle.rules.specs.Pool.{pool_in, code, pair_op}
use Rattle.rules.proofs.Operators.{named}
use Rattle.rules.proofs.Trees.{before_in}
use Rattle.rules_tree.proofs.Runs.{low, high}
use Rattle.rules_value.proofs.Values.{at_nay, at_other, at_value, at_one}
use Rattle.rules_value.proofs.one.Goals as goal

pub returns-then-code-eq-NOT : goal.returns-then-code-eq-NOT
returns-then-code-eq-NOT c = record { gives = λ n b g. at_nay _ _ _ (before_in c.requires.sound (low _ pair_op c.requires.one)) g c.if-code-eq-NOT.true c.truth.ensures }

pub returns-then-x-eq0 : goal.returns-then-x-eq0
returns-then-x-eq0 c = record { gives = λ n b g. at_other _ _ _ (before_in c.requires.sound (low _ pair_op c.requires.one)) g (omega (arith, low (code (pool_in c.args.nodes) c.args.at) pair_op c.requires.one, c.if-code-eq-NOT.false)) c.if-code-lt-VALUE_OP.true c.if-x-eq0.true c.small.ensures }

pub returns-then-code-lt-VALUE_OP : goal.returns-then-code-lt-VALUE_OP
returns-then-code-lt-VALUE_OP c = record { gives = λ n b g. at_value _ _ _ (before_in c.requires.sound (low _ pair_op c.requires.one)) g (omega (arith, low (code (pool_in c.args.nodes) c.args.at) pair_op c.requires.one, c.if-code-eq-NOT.false)) c.if-code-lt-VALUE_OP.true c.if-x-eq0.false refl }

pub apply-requires : goal.apply-requires
apply-requires c = named _ (omega (arith, high (code (pool_in c.args.nodes) c.args.at) pair_op c.requires.one))

pub returns : goal.returns
returns c = record { gives = λ n b g. at_one _ _ _ (before_in c.requires.sound (low _ pair_op c.requires.one)) g c.if-code-lt-VALUE_OP.false (high _ pair_op c.requires.one) c.apply.ensures }
