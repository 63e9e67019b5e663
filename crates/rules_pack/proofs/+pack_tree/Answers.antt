use mathlib.Core.Path.{refl}
use native.Mathlib.Omega.{arith}
use Rattle.rules.specs.Pool.{pool_in, tree_of}
use Rattle.rules.proofs.Stored.{packed_pos}
use Rattle.rules_pack.proofs.Laws.{last_in_lem, left_in, mid_in, binary, lower, inside, high, is_var, is_int, is_nay, is_three, is_chosen, is_picked, is_two, is_op, is_rest, is_one, size_leaf, size_one, size_two, size_three, past, cond_room, done_leaf, done_one, done_two, done_three, call}
use Rattle.rules_pack.proofs.+pack_tree.Goals as goal

pub put-requires : goal.put-requires
put-requires t c = omega (arith, c.requires.room, size_leaf (is_var c.requires.plain c.if-code-eq-N.true))

pub returns-then-code-eq-N-clause-packed : goal.returns-then-code-eq-N-clause-packed
returns-then-code-eq-N-clause-packed t c = done_leaf (is_var c.requires.plain c.if-code-eq-N.true) c.put.ensures.put refl

pub bounds-nodes-at : goal.bounds-nodes-at
bounds-nodes-at t c = high c.requires.plain

pub put-requires-then-code-eq-INTEGER : goal.put-requires-then-code-eq-INTEGER
put-requires-then-code-eq-INTEGER t c = omega (arith, c.requires.room, packed_pos (tree_of (pool_in c.args.nodes.now) c.args.at))

pub returns-then-code-eq-INTEGER-clause-packed : goal.returns-then-code-eq-INTEGER-clause-packed
returns-then-code-eq-INTEGER-clause-packed t c = done_leaf (is_int c.requires.plain c.if-code-eq-INTEGER.true refl) c.put-then-code-eq-INTEGER.ensures.put refl

pub overflow_sub-at : goal.overflow_sub-at
overflow_sub-at t c = omega (arith, last_in_lem c.requires.plain c.if-code-eq-N.false c.if-code-eq-INTEGER.false)

pub pack_tree-n-requires : goal.pack_tree-n-requires
pack_tree-n-requires t c = call c.requires.plain c.decreases (last_in_lem c.requires.plain c.if-code-eq-N.false c.if-code-eq-INTEGER.false) refl (omega (arith, c.requires.room, size_one (is_nay c.requires.plain c.if-code-eq-NOT.true refl)))

pub put-requires-then-code-eq-NOT : goal.put-requires-then-code-eq-NOT
put-requires-then-code-eq-NOT t c = omega (arith, c.requires.room, size_one (is_nay c.requires.plain c.if-code-eq-NOT.true refl), c.pack_tree-n.ensures.packed.end)

pub overflow_add-result-then-code-eq-NOT : goal.overflow_add-result-then-code-eq-NOT
overflow_add-result-then-code-eq-NOT t c = omega (arith, c.requires.room, size_one (is_nay c.requires.plain c.if-code-eq-NOT.true refl), c.pack_tree-n.ensures.packed.end)

pub returns-then-code-eq-NOT-clause-packed : goal.returns-then-code-eq-NOT-clause-packed
returns-then-code-eq-NOT-clause-packed t c = done_one (is_nay c.requires.plain c.if-code-eq-NOT.true refl) c.pack_tree-n.ensures.packed c.put-then-code-eq-NOT.ensures.put refl

pub place-first-requires : goal.place-first-requires
place-first-requires t c = (high c.requires.plain, omega arith)

pub place-second-requires : goal.place-second-requires
place-second-requires t c = (high c.requires.plain, omega arith)

pub number_of-requires : goal.number_of-requires
number_of-requires t c = inside c.requires.plain (mid_in c.requires.plain c.if-code-eq-TERNARY.true) c.place-second.ensures

pub pack_tree-m-requires : goal.pack_tree-m-requires
pack_tree-m-requires t c = call c.requires.plain c.decreases (left_in c.requires.plain c.if-code-eq-N.false c.if-code-eq-INTEGER.false c.if-code-eq-NOT.false) c.place-first.ensures (omega (arith, c.requires.room, cond_room c.requires.plain c.if-code-eq-TERNARY.true c.place-first.ensures))

pub pack_tree-l-requires : goal.pack_tree-l-requires
pack_tree-l-requires t c = call c.requires.plain c.decreases (mid_in c.requires.plain c.if-code-eq-TERNARY.true) c.place-second.ensures (omega (arith, c.requires.room, size_three (is_three c.requires.plain c.if-code-eq-TERNARY.true c.place-first.ensures c.place-second.ensures refl c.number_of.ensures c.in_default.is), c.pack_tree-m.ensures.packed.end))

pub overflow_sub-at-in_default : goal.overflow_sub-at-in_default
overflow_sub-at-in_default t c = omega (arith, last_in_lem c.requires.plain c.if-code-eq-N.false c.if-code-eq-INTEGER.false)

pub pack_tree-n-requires-in_default : goal.pack_tree-n-requires-in_default
pack_tree-n-requires-in_default t c = call c.requires.plain c.decreases (last_in_lem c.requires.plain c.if-code-eq-N.false c.if-code-eq-INTEGER.false) refl (omega (arith, c.requires.room, size_three (is_three c.requires.plain c.if-code-eq-TERNARY.true c.place-first.ensures c.place-second.ensures refl c.number_of.ensures c.in_default.is), c.pack_tree-m.ensures.packed.end, c.pack_tree-l.ensures.packed.end))

pub before-requires : goal.before-requires
before-requires t c = (omega (arith, past c.pack_tree-m.ensures.packed), omega (arith, c.requires.room, size_three (is_three c.requires.plain c.if-code-eq-TERNARY.true c.place-first.ensures c.place-second.ensures refl c.number_of.ensures c.in_default.is), c.pack_tree-m.ensures.packed.end))

pub before-requires-in_default : goal.before-requires-in_default
before-requires-in_default t c = (omega (arith, past c.pack_tree-l.ensures.packed), omega (arith, c.requires.room, size_three (is_three c.requires.plain c.if-code-eq-TERNARY.true c.place-first.ensures c.place-second.ensures refl c.number_of.ensures c.in_default.is), c.pack_tree-m.ensures.packed.end, c.pack_tree-l.ensures.packed.end))

pub put-requires-in_default : goal.put-requires-in_default
put-requires-in_default t c = omega (arith, c.requires.room, size_three (is_three c.requires.plain c.if-code-eq-TERNARY.true c.place-first.ensures c.place-second.ensures refl c.number_of.ensures c.in_default.is), c.pack_tree-m.ensures.packed.end, c.pack_tree-l.ensures.packed.end, c.pack_tree-n-in_default.ensures.packed.end)

pub overflow_add-result-in_default : goal.overflow_add-result-in_default
overflow_add-result-in_default t c = omega (arith, c.requires.room, size_three (is_three c.requires.plain c.if-code-eq-TERNARY.true c.place-first.ensures c.place-second.ensures refl c.number_of.ensures c.in_default.is), c.pack_tree-m.ensures.packed.end, c.pack_tree-l.ensures.packed.end, c.pack_tree-n-in_default.ensures.packed.end)

pub returns-in_default-clause-packed : goal.returns-in_default-clause-packed
returns-in_default-clause-packed t c = done_three (is_three c.requires.plain c.if-code-eq-TERNARY.true c.place-first.ensures c.place-second.ensures refl c.number_of.ensures c.in_default.is) c.pack_tree-m.ensures.packed c.pack_tree-l.ensures.packed c.pack_tree-n-in_default.ensures.packed c.before-in_default.ensures c.before-in_default-2.ensures c.put-in_default.ensures.put refl

pub overflow_sub-at-then-code-eq-TERNARY : goal.overflow_sub-at-then-code-eq-TERNARY
overflow_sub-at-then-code-eq-TERNARY t c = omega (arith, last_in_lem c.requires.plain c.if-code-eq-N.false c.if-code-eq-INTEGER.false)

pub small_of-requires : goal.small_of-requires
small_of-requires t c = inside c.requires.plain (last_in_lem c.requires.plain c.if-code-eq-N.false c.if-code-eq-INTEGER.false) refl

pub overflow_sub-at-in_default-small_of : goal.overflow_sub-at-in_default-small_of
overflow_sub-at-in_default-small_of t c = omega (arith, last_in_lem c.requires.plain c.if-code-eq-N.false c.if-code-eq-INTEGER.false)

pub pack_tree-n-requires-in_default-small_of : goal.pack_tree-n-requires-in_default-small_of
pack_tree-n-requires-in_default-small_of t c = call c.requires.plain c.decreases (last_in_lem c.requires.plain c.if-code-eq-N.false c.if-code-eq-INTEGER.false) refl (omega (arith, c.requires.room, size_two (is_chosen c.requires.plain c.if-code-eq-TERNARY.true c.place-first.ensures c.place-second.ensures refl c.number_of.ensures c.in-Some.is c.small_of.ensures c.in_default-small_of.is), c.pack_tree-m.ensures.packed.end))

pub before-requires-in_default-small_of : goal.before-requires-in_default-small_of
before-requires-in_default-small_of t c = (omega (arith, past c.pack_tree-m.ensures.packed), omega (arith, c.requires.room, size_two (is_chosen c.requires.plain c.if-code-eq-TERNARY.true c.place-first.ensures c.place-second.ensures refl c.number_of.ensures c.in-Some.is c.small_of.ensures c.in_default-small_of.is), c.pack_tree-m.ensures.packed.end))

pub put-requires-in_default-small_of : goal.put-requires-in_default-small_of
put-requires-in_default-small_of t c = omega (arith, c.requires.room, size_two (is_chosen c.requires.plain c.if-code-eq-TERNARY.true c.place-first.ensures c.place-second.ensures refl c.number_of.ensures c.in-Some.is c.small_of.ensures c.in_default-small_of.is), c.pack_tree-m.ensures.packed.end, c.pack_tree-n-in_default-small_of.ensures.packed.end)

pub overflow_add-result-in_default-small_of : goal.overflow_add-result-in_default-small_of
overflow_add-result-in_default-small_of t c = omega (arith, c.requires.room, size_two (is_chosen c.requires.plain c.if-code-eq-TERNARY.true c.place-first.ensures c.place-second.ensures refl c.number_of.ensures c.in-Some.is c.small_of.ensures c.in_default-small_of.is), c.pack_tree-m.ensures.packed.end, c.pack_tree-n-in_default-small_of.ensures.packed.end)

pub returns-in_default-small_of-clause-packed : goal.returns-in_default-small_of-clause-packed
returns-in_default-small_of-clause-packed t c = done_two (is_chosen c.requires.plain c.if-code-eq-TERNARY.true c.place-first.ensures c.place-second.ensures refl c.number_of.ensures c.in-Some.is c.small_of.ensures c.in_default-small_of.is) c.pack_tree-m.ensures.packed c.pack_tree-n-in_default-small_of.ensures.packed c.before-in_default-small_of.ensures c.put-in_default-small_of.ensures.put refl

pub put-requires-then-code-eq-TERNARY : goal.put-requires-then-code-eq-TERNARY
put-requires-then-code-eq-TERNARY t c = omega (arith, c.requires.room, size_one (is_picked c.requires.plain c.if-code-eq-TERNARY.true c.place-first.ensures c.place-second.ensures refl c.number_of.ensures c.in-Some.is c.small_of.ensures c.in-Some-small_of.is), c.pack_tree-m.ensures.packed.end)

pub overflow_add-result-then-code-eq-TERNARY : goal.overflow_add-result-then-code-eq-TERNARY
overflow_add-result-then-code-eq-TERNARY t c = omega (arith, c.requires.room, size_one (is_picked c.requires.plain c.if-code-eq-TERNARY.true c.place-first.ensures c.place-second.ensures refl c.number_of.ensures c.in-Some.is c.small_of.ensures c.in-Some-small_of.is), c.pack_tree-m.ensures.packed.end)

pub returns-then-code-eq-TERNARY-clause-packed : goal.returns-then-code-eq-TERNARY-clause-packed
returns-then-code-eq-TERNARY-clause-packed t c = done_one (is_picked c.requires.plain c.if-code-eq-TERNARY.true c.place-first.ensures c.place-second.ensures refl c.number_of.ensures c.in-Some.is c.small_of.ensures c.in-Some-small_of.is) c.pack_tree-m.ensures.packed c.put-then-code-eq-TERNARY.ensures.put refl

pub overflow_sub-at-2 : goal.overflow_sub-at-2
overflow_sub-at-2 t c = omega (arith, last_in_lem c.requires.plain c.if-code-eq-N.false c.if-code-eq-INTEGER.false)

pub number_of-requires-2 : goal.number_of-requires-2
number_of-requires-2 t c = inside c.requires.plain (last_in_lem c.requires.plain c.if-code-eq-N.false c.if-code-eq-INTEGER.false) refl

pub pack_tree-m-requires-in_default-number_of : goal.pack_tree-m-requires-in_default-number_of
pack_tree-m-requires-in_default-number_of t c = call c.requires.plain c.decreases (left_in c.requires.plain c.if-code-eq-N.false c.if-code-eq-INTEGER.false c.if-code-eq-NOT.false) c.place-first.ensures (omega (arith, c.requires.room, size_two (is_two c.requires.plain (binary c.requires.plain c.if-code-eq-N.false c.if-code-eq-INTEGER.false c.if-code-eq-NOT.false c.if-code-eq-TERNARY.false) c.place-first.ensures refl c.number_of-2.ensures c.in_default-number_of.is)))

pub overflow_sub-at-in_default-number_of : goal.overflow_sub-at-in_default-number_of
overflow_sub-at-in_default-number_of t c = omega (arith, last_in_lem c.requires.plain c.if-code-eq-N.false c.if-code-eq-INTEGER.false)

pub pack_tree-n-requires-in_default-number_of : goal.pack_tree-n-requires-in_default-number_of
pack_tree-n-requires-in_default-number_of t c = call c.requires.plain c.decreases (last_in_lem c.requires.plain c.if-code-eq-N.false c.if-code-eq-INTEGER.false) refl (omega (arith, c.requires.room, size_two (is_two c.requires.plain (binary c.requires.plain c.if-code-eq-N.false c.if-code-eq-INTEGER.false c.if-code-eq-NOT.false c.if-code-eq-TERNARY.false) c.place-first.ensures refl c.number_of-2.ensures c.in_default-number_of.is), c.pack_tree-m-in_default-number_of.ensures.packed.end))

pub before-requires-in_default-number_of : goal.before-requires-in_default-number_of
before-requires-in_default-number_of t c = (omega (arith, past c.pack_tree-m-in_default-number_of.ensures.packed), omega (arith, c.requires.room, size_two (is_two c.requires.plain (binary c.requires.plain c.if-code-eq-N.false c.if-code-eq-INTEGER.false c.if-code-eq-NOT.false c.if-code-eq-TERNARY.false) c.place-first.ensures refl c.number_of-2.ensures c.in_default-number_of.is), c.pack_tree-m-in_default-number_of.ensures.packed.end))

pub put-requires-in_default-number_of : goal.put-requires-in_default-number_of
put-requires-in_default-number_of t c = omega (arith, c.requires.room, size_two (is_two c.requires.plain (binary c.requires.plain c.if-code-eq-N.false c.if-code-eq-INTEGER.false c.if-code-eq-NOT.false c.if-code-eq-TERNARY.false) c.place-first.ensures refl c.number_of-2.ensures c.in_default-number_of.is), c.pack_tree-m-in_default-number_of.ensures.packed.end, c.pack_tree-n-in_default-number_of.ensures.packed.end)

pub overflow_add-result-in_default-number_of : goal.overflow_add-result-in_default-number_of
overflow_add-result-in_default-number_of t c = omega (arith, c.requires.room, size_two (is_two c.requires.plain (binary c.requires.plain c.if-code-eq-N.false c.if-code-eq-INTEGER.false c.if-code-eq-NOT.false c.if-code-eq-TERNARY.false) c.place-first.ensures refl c.number_of-2.ensures c.in_default-number_of.is), c.pack_tree-m-in_default-number_of.ensures.packed.end, c.pack_tree-n-in_default-number_of.ensures.packed.end)

pub returns-in_default-number_of-clause-packed : goal.returns-in_default-number_of-clause-packed
returns-in_default-number_of-clause-packed t c = done_two (is_two c.requires.plain (binary c.requires.plain c.if-code-eq-N.false c.if-code-eq-INTEGER.false c.if-code-eq-NOT.false c.if-code-eq-TERNARY.false) c.place-first.ensures refl c.number_of-2.ensures c.in_default-number_of.is) c.pack_tree-m-in_default-number_of.ensures.packed c.pack_tree-n-in_default-number_of.ensures.packed c.before-in_default-number_of.ensures c.put-in_default-number_of.ensures.put refl

pub left_of-requires : goal.left_of-requires
left_of-requires t c = (lower c.requires.plain refl (left_in c.requires.plain c.if-code-eq-N.false c.if-code-eq-INTEGER.false c.if-code-eq-NOT.false) c.place-first.ensures).1

pub overflow_sub-op : goal.overflow_sub-op
overflow_sub-op t c = omega (arith, binary c.requires.plain c.if-code-eq-N.false c.if-code-eq-INTEGER.false c.if-code-eq-NOT.false c.if-code-eq-TERNARY.false)

pub overflow_add-op : goal.overflow_add-op
overflow_add-op t c = omega (arith, binary c.requires.plain c.if-code-eq-N.false c.if-code-eq-INTEGER.false c.if-code-eq-NOT.false c.if-code-eq-TERNARY.false)

pub put-requires-in-Count : goal.put-requires-in-Count
put-requires-in-Count t c = omega (arith, c.requires.room, size_leaf (is_op c.requires.plain (binary c.requires.plain c.if-code-eq-N.false c.if-code-eq-INTEGER.false c.if-code-eq-NOT.false c.if-code-eq-TERNARY.false) c.place-first.ensures refl c.number_of-2.ensures c.in-Some-number_of.is c.left_of.ensures c.in-Count.is))

pub overflow_add-op-in-Rest : goal.overflow_add-op-in-Rest
overflow_add-op-in-Rest t c = omega (arith, binary c.requires.plain c.if-code-eq-N.false c.if-code-eq-INTEGER.false c.if-code-eq-NOT.false c.if-code-eq-TERNARY.false)

pub put-requires-in-Rest : goal.put-requires-in-Rest
put-requires-in-Rest t c = omega (arith, c.requires.room, size_leaf (is_rest c.requires.plain (binary c.requires.plain c.if-code-eq-N.false c.if-code-eq-INTEGER.false c.if-code-eq-NOT.false c.if-code-eq-TERNARY.false) c.place-first.ensures refl c.number_of-2.ensures c.in-Some-number_of.is c.left_of.ensures c.in-Rest.is))

pub pack_tree-n-requires-in-Other : goal.pack_tree-n-requires-in-Other
pack_tree-n-requires-in-Other t c = call c.requires.plain c.decreases (left_in c.requires.plain c.if-code-eq-N.false c.if-code-eq-INTEGER.false c.if-code-eq-NOT.false) c.place-first.ensures (omega (arith, c.requires.room, size_one (is_one c.requires.plain (binary c.requires.plain c.if-code-eq-N.false c.if-code-eq-INTEGER.false c.if-code-eq-NOT.false c.if-code-eq-TERNARY.false) c.place-first.ensures refl c.number_of-2.ensures c.in-Some-number_of.is c.left_of.ensures c.in-Other.is)))

pub overflow_add-op-in-Other : goal.overflow_add-op-in-Other
overflow_add-op-in-Other t c = omega (arith, binary c.requires.plain c.if-code-eq-N.false c.if-code-eq-INTEGER.false c.if-code-eq-NOT.false c.if-code-eq-TERNARY.false)

pub put-requires-in-Other : goal.put-requires-in-Other
put-requires-in-Other t c = omega (arith, c.requires.room, size_one (is_one c.requires.plain (binary c.requires.plain c.if-code-eq-N.false c.if-code-eq-INTEGER.false c.if-code-eq-NOT.false c.if-code-eq-TERNARY.false) c.place-first.ensures refl c.number_of-2.ensures c.in-Some-number_of.is c.left_of.ensures c.in-Other.is), c.pack_tree-n-in-Other.ensures.packed.end)

pub overflow_add-result-in-Other : goal.overflow_add-result-in-Other
overflow_add-result-in-Other t c = omega (arith, c.requires.room, size_one (is_one c.requires.plain (binary c.requires.plain c.if-code-eq-N.false c.if-code-eq-INTEGER.false c.if-code-eq-NOT.false c.if-code-eq-TERNARY.false) c.place-first.ensures refl c.number_of-2.ensures c.in-Some-number_of.is c.left_of.ensures c.in-Other.is), c.pack_tree-n-in-Other.ensures.packed.end)

pub returns-in-Count-clause-packed : goal.returns-in-Count-clause-packed
returns-in-Count-clause-packed t c = done_leaf (is_op c.requires.plain (binary c.requires.plain c.if-code-eq-N.false c.if-code-eq-INTEGER.false c.if-code-eq-NOT.false c.if-code-eq-TERNARY.false) c.place-first.ensures refl c.number_of-2.ensures c.in-Some-number_of.is c.left_of.ensures c.in-Count.is) c.put-in-Count.ensures.put refl

pub returns-in-Rest-clause-packed : goal.returns-in-Rest-clause-packed
returns-in-Rest-clause-packed t c = done_leaf (is_rest c.requires.plain (binary c.requires.plain c.if-code-eq-N.false c.if-code-eq-INTEGER.false c.if-code-eq-NOT.false c.if-code-eq-TERNARY.false) c.place-first.ensures refl c.number_of-2.ensures c.in-Some-number_of.is c.left_of.ensures c.in-Rest.is) c.put-in-Rest.ensures.put refl

pub returns-in-Other-clause-packed : goal.returns-in-Other-clause-packed
returns-in-Other-clause-packed t c = done_one (is_one c.requires.plain (binary c.requires.plain c.if-code-eq-N.false c.if-code-eq-INTEGER.false c.if-code-eq-NOT.false c.if-code-eq-TERNARY.false) c.place-first.ensures refl c.number_of-2.ensures c.in-Some-number_of.is c.left_of.ensures c.in-Other.is) c.pack_tree-n-in-Other.ensures.packed c.put-in-Other.ensures.put refl
