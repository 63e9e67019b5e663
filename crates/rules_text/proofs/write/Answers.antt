-- `rules_text::write` meets its contract: the tree test comes first, then the walk puts the text into an array of its own, and what is
-- whole there and has room in the buffer is copied.
use mathlib.Core.Path.{refl, ap, ◌∙◌}
use mathlib.Core.List.{List, ◌++◌}
use Prim.Native.Nat.{ℕ}
use native.Mathlib.Omega.{arith}
use lib.ListN.{length, drop}
use Rattle.rules.specs.Pool.{pool_in}
use Rattle.rules.proofs.Trees.{sound, told}
use Rattle.rules_text.proofs.Writings.{text_is, no_room, fits, no_tree, a_tree}
use Rattle.rules_text.proofs.write.Goals as goal

pub returns-then-not-is_tree : goal.returns-then-not-is_tree
returns-then-not-is_tree c = let P = pool_in c.args.rule.nodes in record { answer = no_tree P c.args.rule.count c.args.rule.root (length c.args.buffer.now) (told P c.args.rule.count c.args.rule.root c.is_tree.ensures c.if-not-is_tree.true); left = refl; bounded = tt }

pub put_node-requires : goal.put_node-requires
put_node-requires c = let P = pool_in c.args.rule.nodes in record { sound = sound P c.args.rule.count c.args.rule.root (told P c.args.rule.count c.args.rule.root c.is_tree.ensures c.if-not-is_tree.false); room = omega arith }

pub returns-then-room-n : goal.returns-then-room-n
returns-then-room-n c = let P = pool_in c.args.rule.nodes in record { answer = a_tree P c.args.rule.count c.args.rule.root (length c.args.buffer.now) (told P c.args.rule.count c.args.rule.root c.is_tree.ensures c.if-not-is_tree.false) (no_room c.put_node.ensures.text _ c.min-room.ensures c.if-room-n.true); left = refl; bounded = tt }

pub returns : goal.returns
returns c = let P = pool_in c.args.rule.nodes in let e = c.min-room.ensures in record { answer = a_tree P c.args.rule.count c.args.rule.root (length c.args.buffer.now) (told P c.args.rule.count c.args.rule.root c.is_tree.ensures c.if-not-is_tree.false) (fits c.put_node.ensures.text _ e c.if-room-n.false); left = ap (λ (l : List ℕ). l ++ drop c.put_node.new.text.end c.args.buffer.now) (c.copy_from_slice.ensures.after ∙ text_is c.put_node.ensures.text refl (omega (arith, e, c.if-room-n.false))); bounded = c.put_node.ensures.bounded }
