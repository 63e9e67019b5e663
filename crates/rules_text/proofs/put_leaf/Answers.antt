-- `rules_text::put_leaf` meets its contract: the code tells which parts are put.
use Rattle.rules.specs.Pool.{pool_in}
use Rattle.rules_text.proofs.Nodes.{n_op_lem, rest_op_lem}
use Rattle.rules_text.proofs.Texts.{put_count, put_integer, put_n, put_rest, put_binary}
use Rattle.rules_text.proofs.put_leaf.Goals as goal

pub returns-then-code-eq-N : goal.returns-then-code-eq-N
returns-then-code-eq-N c = put_count (pool_in c.args.nodes.now) c.args.p c.if-code-eq-N.true c.put.ensures

pub returns-then-code-lt-N_OP : goal.returns-then-code-lt-N_OP
returns-then-code-lt-N_OP c = put_integer (pool_in c.args.nodes.now) c.args.p c.if-code-eq-N.false c.if-code-lt-N_OP.true c.put_number.ensures

pub returns-then-code-lt-REST_OP : goal.returns-then-code-lt-REST_OP
returns-then-code-lt-REST_OP c = let P = pool_in c.args.nodes.now in put_binary P c.args.p (n_op_lem P c.args.p c.if-code-lt-N_OP.false c.if-code-lt-REST_OP.true) c.put-2.ensures (put_n c.put-then-code-lt-REST_OP.ensures) c.put_value.ensures

pub returns : goal.returns
returns c = let P = pool_in c.args.nodes.now in put_binary P c.args.p (rest_op_lem P c.args.p c.if-code-lt-REST_OP.false c.requires.leaf) c.put-2.ensures (put_rest c.field.ensures c.put_rest.ensures) c.put_value-2.ensures
