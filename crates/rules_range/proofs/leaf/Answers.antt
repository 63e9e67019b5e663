-- `rules_range::leaf` meets its contract: each return is the range of the tree that the tests before it leave.
use native.Mathlib.Omega.{arith}
use Rattle.rules.specs.Pool.{pool_in, value}
use Rattle.rules_range.proofs.Ranges.{range_of_lem, rate_op, rate_rest}
use Rattle.rules_range.proofs.leaf.Goals as goal

pub returns-then-code-lt-REST_OP : goal.returns-then-code-lt-REST_OP
returns-then-code-lt-REST_OP c = let P = pool_in c.args.nodes.now in rate_op P c.args.at (range_of_lem (value P c.args.at) (value P c.args.at) (omega arith)) c.if-code-lt-N_OP.false c.if-code-lt-REST_OP.true c.binary.ensures

pub returns : goal.returns
returns c = let P = pool_in c.args.nodes.now in rate_rest P c.args.at (range_of_lem (value P c.args.at) (value P c.args.at) (omega arith)) c.if-code-lt-REST_OP.false c.requires.leaf c.field.ensures c.rest-k.ensures c.binary-2.ensures
