-- `rules_value::eval` and `operand` meet their contract: the tree at a place is made of the trees at its operands' places, which lie below it, so
-- the place is the measure, and each return is the definition of the value at the tests that led there.
use Prim.Native.Nat.{◌+◌, ◌*◌}
use Rattle.rules_value.proofs.+eval_operand.Given as goal

abbrev pub decreases-eval : goal.decreases-eval
decreases-eval l = 2 * l.at

abbrev pub decreases-operand : goal.decreases-operand
decreases-operand l = 2 * l.at + 1
