-- `rules_range::one` meets its contract: each return is the range of the tree that the tests before it leave.
use Prim.Native.Nat.{◌-◌, ◌<◌}
use mathlib.Core.Path.{sym, ◌∙◌}
use native.Mathlib.Omega.{arith}
use Rattle.rules.specs.Pool.{pool_in, value}
use Rattle.rules.proofs.Trees.{before_in}
use Rattle.rules_range.proofs.Ranges.{range_of_lem, any_condition, nay_of, picked_of, rate_nay, rate_picked, rate_one}
use Rattle.rules_range.proofs.one.Goals as goal

pub returns-then-code-eq-NOT : goal.returns-then-code-eq-NOT
returns-then-code-eq-NOT c = let lower : c.args.at - 1 < c.args.at = before_in c.requires.sound c.requires.one.0 in record { is = λ g. rate_nay (pool_in c.args.nodes.now) c.args.at lower g c.if-code-eq-NOT.true (nay_of c.if-h-low.false c.ends.ensures) }

pub returns-then-code-lt-VALUE_OP : goal.returns-then-code-lt-VALUE_OP
returns-then-code-lt-VALUE_OP c = let P = pool_in c.args.nodes.now in let lower : c.args.at - 1 < c.args.at = before_in c.requires.sound c.requires.one.0 in record { is = λ g. rate_picked P c.args.at lower g c.requires.one.0 c.if-code-eq-NOT.false c.if-code-lt-VALUE_OP.true (range_of_lem (value P c.args.at) (value P c.args.at) (omega arith)) (picked_of c.field-m.ensures) (c.either.ensures ∙ sym (any_condition c.args.low c.args.high.now _ _ c.if-h-low.false)) }

pub returns : goal.returns
returns c = let P = pool_in c.args.nodes.now in let lower : c.args.at - 1 < c.args.at = before_in c.requires.sound c.requires.one.0 in record { is = λ g. rate_one P c.args.at lower g c.if-code-lt-VALUE_OP.false c.requires.one.1 (range_of_lem (value P c.args.at) (value P c.args.at) (omega arith)) c.binary.ensures }
