-- `rules_operators::settles` meets its contract: only && and || are settled by their left operand.
use Rattle.std.proofs.Common.{sym, arith}
use Rattle.rules.specs.Operator.{op_of, op_at}
use Rattle.rules_operators.specs.Operator.{settled}
use Rattle.rules_operators.proofs.Operators.{settled_rest}
use Rattle.rules_operators.proofs.settles.Goals as goal

pub returns-in-6 : goal.returns-in-6
unfolding settled op_of op_at
returns-in-6 c = rw c.in-6.is

pub returns-in-7 : goal.returns-in-7
unfolding settled op_of op_at
returns-in-7 c = rw c.in-7.is

pub returns-in_default : goal.returns-in_default
returns-in_default c = sym (settled_rest c.args.op c.args.x (omega arith) (omega arith))
