-- `rules_value::value_at` meets its contract: the flag decides. Assumes nothing.
use mathlib.Core.Path.{sym}
use Rattle.rules_operators.proofs.Given.{fails_as, is_as}
use Rattle.rules_value.proofs.value_at.Goals as goal

pub returns-then-zero : goal.returns-then-zero
returns-then-zero c = sym (fails_as _ c.operand-x.ensures c.if-zero.true)

pub returns-else-zero : goal.returns-else-zero
returns-else-zero c = sym (is_as _ c.operand-x.ensures c.if-zero.false)
