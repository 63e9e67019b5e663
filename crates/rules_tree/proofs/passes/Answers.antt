use mathlib.Core.Path.{◌≡◌}
use mathlib.Core.List.{[]}
use native.Mathlib.Omega.{arith}
use Rattle.rules.specs.Pool.{pool}
use Rattle.rules_tree.proofs.Marks.{none_passed, one_passed, stopped, passed}
use Rattle.rules_tree.proofs.passes.Goals as goal

pub loop-p-init : goal.loop-p-init
loop-p-init c = none_passed (pool c.args.codes.now c.args.places.now []) c.requires.2

pub is_node-requires : goal.is_node-requires
is_node-requires c = record { room = (omega arith, omega arith); before = (c.loop-p.invariant.whole, c.loop-p.invariant.marked) }

pub loop-p-preserved : goal.loop-p-preserved
loop-p-preserved c = one_passed (pool c.args.codes.now c.args.places.now []) _ c.loop-p.invariant c.is_node.ensures c.if-not-is_node.false

pub returns-then-not-is_node : goal.returns-then-not-is_node
returns-then-not-is_node c = stopped (pool c.args.codes.now c.args.places.now []) c.args.count _ c.loop-p-test.true c.is_node.ensures c.if-not-is_node.true

pub returns : goal.returns
returns c = let e : c.loop-p.p ≡ c.args.count = omega arith in passed (pool c.args.codes.now c.args.places.now []) c.args.count (rw e at c.loop-p.invariant)
