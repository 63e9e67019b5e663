-- `rules_text::put_tail` meets its contract: the code tells which parts are put.
use Rattle.rules.specs.Pool.{pool_in}
use Rattle.rules_text.proofs.Texts.{tail_pick}
use Rattle.rules_text.proofs.put_tail.Goals as goal

pub returns-then-code-lt-VALUE_OP : goal.returns-then-code-lt-VALUE_OP
returns-then-code-lt-VALUE_OP c = tail_pick (pool_in c.args.nodes.now) c.args.p c.if-code-eq-NOT.false c.if-code-lt-VALUE_OP.true c.put-then-code-lt-VALUE_OP.ensures c.put_number.ensures c.put-then-code-lt-VALUE_OP-2.ensures c.field.ensures c.put_number-then-code-lt-VALUE_OP.ensures c.put-then-code-lt-VALUE_OP-3.ensures
