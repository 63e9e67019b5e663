use native.Mathlib.Omega.{arith}
use Rattle.rules.specs.Pool.{pool_in, ternary_node}
use Rattle.rules.proofs.Trees.{first_in, second_in}
use Rattle.rules_tree.proofs.Runs.{low, down_to, leaf_first, leaf_last}
use Rattle.rules_text.proofs.Texts.{head_sign, head_value, head_node}
use Rattle.rules_text.proofs.Laid.{room}
use Rattle.rules_text.proofs.Heads.{no_heads_put, head_put, leaf_put, tail_put, whole_put, falls_to}
use Prim.Native.Nat.{◌+◌, ◌-◌}
use mathlib.Core.Path.{◌≡◌}
use Rattle.rules_text.proofs.+put_head_put_node.Goals as goal

pub put_head-put_node-requires : goal.put_head-put_node-requires
put_head-put_node-requires t c = let d = falls_to c.requires.sound c.decreases (first_in c.requires.sound c.if-code-lt-OP.false) c.place.ensures in (d.0, (d.1, room c.put.ensures))

pub put_head-returns-then-code-lt-TERNARY : goal.put_head-returns-then-code-lt-TERNARY
put_head-returns-then-code-lt-TERNARY t c = head_value (pool_in c.args.nodes.now) c.args.p c.put.ensures c.if-code-lt-OP.false c.place.ensures c.put_node.ensures c.if-code-lt-CHOICE.false c.put-2.ensures c.if-code-lt-TERNARY.true c.put_number.ensures c.put-then-code-lt-TERNARY.ensures

pub put_head-put_node-requires-2 : goal.put_head-put_node-requires-2
put_head-put_node-requires-2 t c = let d = falls_to c.requires.sound c.decreases (second_in c.requires.sound c.if-code-lt-TERNARY.false) c.place-2.ensures in (d.0, (d.1, room c.put-2.ensures))

pub put_head-returns : goal.put_head-returns
put_head-returns t c = head_node (pool_in c.args.nodes.now) c.args.p c.put.ensures c.if-code-lt-OP.false c.place.ensures c.put_node.ensures c.if-code-lt-CHOICE.false c.put-2.ensures c.if-code-lt-TERNARY.false c.place-2.ensures c.put_node-2.ensures c.put-3.ensures

pub put_node-base-base-requires : goal.put_node-base-base-requires
put_node-base-base-requires t c = (omega (arith, c.requires.sound.inside, c.requires.sound.few), leaf_first c.requires.sound)

pub put_node-loop-q-init : goal.put_node-loop-q-init
put_node-loop-q-init t c = let h = c.base-base.ensures.run.below in (omega arith, no_heads_put (pool_in c.args.nodes.now) c.args.p (omega arith) c.requires.room)

pub put_node-put_head-requires : goal.put_node-put_head-requires
put_node-put_head-requires t c = (omega (arith, c.decreases), (down_to c.requires.sound (omega arith), (low _ (ternary_node + 1) (c.base-base.ensures.run.all _ (omega arith) (omega arith)), room c.loop-q.invariant.1.text)))

pub put_node-loop-q-preserved : goal.put_node-loop-q-preserved
put_node-loop-q-preserved t c = (omega arith, head_put (pool_in c.args.nodes.now) c.args.p (omega arith) (omega arith) c.loop-q.invariant.1 c.put_head.ensures)

pub put_node-put_leaf-requires : goal.put_node-put_leaf-requires
put_node-put_leaf-requires t c = record { sound = down_to c.requires.sound c.base-base.ensures.run.below; leaf = leaf_last c.requires.sound c.base-base.ensures }

pub put_node-loop-q-2-init : goal.put_node-loop-q-2-init
put_node-loop-q-2-init t c = let e : c.base-base.result + 1 - 1 ≡ c.base-base.result = omega arith in rw e (leaf_put (pool_in c.args.nodes.now) c.args.p (omega (arith, c.loop-q.invariant.0)) c.loop-q.invariant.1 c.put_leaf.ensures)

pub put_node-put_tail-requires : goal.put_node-put_tail-requires
put_node-put_tail-requires t c = record { sound = down_to c.requires.sound (omega arith); above = low _ (ternary_node + 1) (c.base-base.ensures.run.all _ (omega arith) (omega arith)); room = room c.loop-q-2.invariant.text }

pub put_node-loop-q-2-preserved : goal.put_node-loop-q-2-preserved
put_node-loop-q-2-preserved t c = let e : c.loop-q-2.q + 1 - 1 ≡ c.loop-q-2.q = omega arith in rw e (tail_put (pool_in c.args.nodes.now) c.args.p c.requires.sound (omega arith) (omega arith) (low _ (ternary_node + 1) (c.base-base.ensures.run.all _ (omega arith) (omega arith))) c.loop-q-2.invariant c.put_tail.ensures)

pub put_node-returns : goal.put_node-returns
put_node-returns t c = whole_put (pool_in c.args.nodes.now) c.args.p (let h = c.base-base.ensures.run.below in omega arith) c.loop-q-2.invariant

pub put_head-returns-then-code-lt-CHOICE : goal.put_head-returns-then-code-lt-CHOICE
put_head-returns-then-code-lt-CHOICE t c = head_sign (pool_in c.args.nodes.now) c.args.p c.put.ensures c.if-code-lt-OP.false c.place.ensures c.put_node.ensures c.if-code-lt-CHOICE.true c.put_sign.ensures
