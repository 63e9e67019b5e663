-- `rules_operators::compares` meets its contract: an arm's number picks the comparison, and a comparison of no other number is ==.
use Rattle.std.proofs.Common.{◌≡◌, arith}
use mathlib.Core.Option.{some}
use Rattle.rules.specs.Tree.{cmp, ne, ge, le, gt, lt}
use Rattle.rules.specs.Operator.{op_of, op_at}
use Rattle.rules_operators.proofs.Operators.{same_cmp, cmp_rest}
use Rattle.rules_operators.proofs.compares.Goals as goal

pub returns-in-1 : goal.returns-in-1
unfolding op_of op_at
returns-in-1 c = record { is = λ k e. let d : some (cmp ne) ≡ some (cmp k) = rw c.in-1.is at e in rw (← same_cmp d) }

pub returns-in-2 : goal.returns-in-2
unfolding op_of op_at
returns-in-2 c = record { is = λ k e. let d : some (cmp ge) ≡ some (cmp k) = rw c.in-2.is at e in rw (← same_cmp d) }

pub returns-in-3 : goal.returns-in-3
unfolding op_of op_at
returns-in-3 c = record { is = λ k e. let d : some (cmp le) ≡ some (cmp k) = rw c.in-3.is at e in rw (← same_cmp d) }

pub returns-in-4 : goal.returns-in-4
unfolding op_of op_at
returns-in-4 c = record { is = λ k e. let d : some (cmp gt) ≡ some (cmp k) = rw c.in-4.is at e in rw (← same_cmp d) }

pub returns-in-5 : goal.returns-in-5
unfolding op_of op_at
returns-in-5 c = record { is = λ k e. let d : some (cmp lt) ≡ some (cmp k) = rw c.in-5.is at e in rw (← same_cmp d) }

pub returns-in_default : goal.returns-in_default
returns-in_default c = record { is = λ k e. rw (cmp_rest c.args.op k e (omega arith) (omega arith) (omega arith) (omega arith) (omega arith)) }
