-- `rules_operators::calculates` meets its contract: an arm's number picks the operator, and one of no other number is *.
use Rattle.std.proofs.Common.{◌≡◌, arith}
use mathlib.Core.Option.{some}
use Rattle.rules.specs.Tree.{calc, plus, minus}
use Rattle.rules.specs.Value.{calculated}
use Rattle.rules.specs.Operator.{op_of, op_at}
use Rattle.rules_operators.proofs.Operators.{same_calc, calc_rest, differs}
use Rattle.rules_operators.proofs.calculates.Goals as goal

pub returns-in-10 : goal.returns-in-10
unfolding op_of op_at calculated
returns-in-10 c = record { is = λ k e. let d : some (calc plus) ≡ some (calc k) = rw c.in-10.is at e in rw (← same_calc d) }

pub returns-in-11 : goal.returns-in-11
unfolding op_of op_at calculated
returns-in-11 c = record { is = λ k e. let d : some (calc minus) ≡ some (calc k) = rw c.in-11.is at e in rw (← same_calc d) (differs _ _ (omega arith)) }

pub returns-in_default : goal.returns-in_default
unfolding op_of op_at calculated
returns-in_default c = record { is = λ k e. rw (calc_rest c.args.op k e (omega arith) (omega arith)) }
