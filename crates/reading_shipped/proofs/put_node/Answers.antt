-- `put_node`: `put` at the places before the operands' ends.
use mathlib.Core.Path.{◌∙◌}
use Rattle.reading_shipped.proofs.put_node.Goals as goal

pub returns-clause-put : goal.returns-clause-put
returns-clause-put c = c.put.ensures.put ∙ rw (c.before-2.ensures, c.before-3.ensures)
