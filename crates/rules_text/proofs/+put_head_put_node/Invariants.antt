-- `rules_text::put_node` and `put_head` meet their contracts: a first or a second operand lies below its parent, so the place is the measure. The first
-- loop's invariant: what stands before the node before q was put; the second's: that, and the text of the node before q.
use Rattle.rules.specs.Pool.{pool_in}
use Rattle.rules_text.specs.Private.{On}
use Rattle.rules_text.proofs.Heads.{PutsHeads, PutsTo}
use Prim.Native.Nat.{◌<◌, ◌+◌, ◌-◌, ◌*◌}
use Rattle.rules_text.proofs.+put_head_put_node.Given as goal

abbrev pub decreases-put_head : goal.decreases-put_head
decreases-put_head l = 2 * l.p

abbrev pub decreases-put_node : goal.decreases-put_node
decreases-put_node l = 2 * l.p + 1

abbrev pub invariant-put_node-loop-q : goal.invariant-put_node-loop-q
invariant-put_node-loop-q l = (l.base < l.q) × On (PutsHeads (pool_in l.nodes) l.p (l.q - 1)) l.fn.text l.text

abbrev pub invariant-put_node-loop-q-2 : goal.invariant-put_node-loop-q-2
invariant-put_node-loop-q-2 l = On (PutsTo (pool_in l.nodes) l.p (l.q - 1)) l.fn.text l.text
