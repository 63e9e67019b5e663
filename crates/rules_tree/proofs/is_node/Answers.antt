-- `rules_tree::is_node` meets its contract: the place before and the operands in the fields that the code uses are taken one after the other,
-- and each return is the answer at those that were. Past the last code that is known there is none.
use mathlib.Core.List.{[]}
use Prim.Native.Nat.{◌-◌}
use lib.ListN.{length-set}
use native.Mathlib.Omega.{arith}
use Rattle.rules.specs.Pool.{pool}
use Rattle.rules.proofs.Trees.{some_fields}
use Rattle.rules_tree.proofs.Marks.{before_taken, one_more, leaf, first, unknown, refused, one_operand, two_operands, third_decides}
use Rattle.rules_tree.proofs.is_node.Goals as goal

pub returns-then-code-lt-NOT : goal.returns-then-code-lt-NOT
returns-then-code-lt-NOT c = leaf (pool c.args.codes.now c.args.places.now []) c.args.p c.if-code-lt-NOT.true c.requires.before.1

pub returns-then-p-eq0 : goal.returns-then-p-eq0
returns-then-p-eq0 c = first (pool c.args.codes.now c.args.places.now []) c.args.p c.if-p-eq0.true c.if-code-lt-NOT.false

pub returns-then-code-lt-OP : goal.returns-then-code-lt-OP
returns-then-code-lt-OP c = one_operand (pool c.args.codes.now c.args.places.now []) c.args.p c.if-code-lt-NOT.false c.if-code-lt-OP.true (before_taken (pool c.args.codes.now c.args.places.now []) c.args.p (omega arith) c.requires.room.1 c.requires.before.0 c.requires.before.1)

pub returns-then-not-takes : goal.returns-then-not-takes
returns-then-not-takes c = refused (pool c.args.codes.now c.args.places.now []) c.args.p 0 c.if-code-lt-NOT.false (some_fields _ c.if-code-lt-OP.false) (before_taken (pool c.args.codes.now c.args.places.now []) c.args.p (omega arith) c.requires.room.1 c.requires.before.0 c.requires.before.1) c.takes.ensures c.if-not-takes.true

pub returns-then-code-lt-TERNARY : goal.returns-then-code-lt-TERNARY
returns-then-code-lt-TERNARY c = let P = pool c.args.codes.now c.args.places.now [] in two_operands P c.args.p c.if-code-lt-OP.false c.if-code-lt-TERNARY.true (one_more P c.args.p 0 (before_taken (pool c.args.codes.now c.args.places.now []) c.args.p (omega arith) c.requires.room.1 c.requires.before.0 c.requires.before.1) c.takes.ensures c.if-not-takes.false)

pub returns-then-code-ne-TERNARY : goal.returns-then-code-ne-TERNARY
returns-then-code-ne-TERNARY c = unknown (pool c.args.codes.now c.args.places.now []) c.args.p (omega (arith, c.if-code-lt-TERNARY.false, c.if-code-ne-TERNARY.true))

pub takes-requires-2 : goal.takes-requires-2
takes-requires-2 c = (omega arith, omega arith, omega (arith, c.takes.auto.marks, (length-set c.args.marks.now (c.args.p - 1) 1), c.requires.room.1))

pub returns : goal.returns
returns c = let P = pool c.args.codes.now c.args.places.now [] in third_decides P c.args.p _ c.if-code-ne-TERNARY.false (one_more P c.args.p 0 (before_taken (pool c.args.codes.now c.args.places.now []) c.args.p (omega arith) c.requires.room.1 c.requires.before.0 c.requires.before.1) c.takes.ensures c.if-not-takes.false) c.takes-2.ensures
