-- Every node takes a byte of the rule's text of its own, so that a rule that is read, which has at most 512 bytes, has at most 512 nodes: a
-- pool of 512 nodes is never full. SPEC 2. Assumes nothing.
use Prim.Native.Nat.{ℕ, ◌≤◌}
use mathlib.Core.Path.{◌≡◌, refl}
use mathlib.Core.List.{List}
use native.Mathlib.Omega.{arith}
use borrow.Author.Tests.{ltb-false}
use lib.ListN.{length}
use lib.Dec.{ltb}
use Rattle.text.specs.Bytes.{all}
use Rattle.text_trim.specs.Trim.{trim, white_space}
use Rattle.text.proofs.Tests.{by_test}
use Rattle.rules.specs.Tree as tree
use Rattle.rules.specs.Tree.{Tree}
use Rattle.rules.specs.Store.{size}
use Rattle.reading_grammar.proofs.Size.{standard_nodes}
use Rattle.reading_shipped.proofs.Size.{shipped_nodes}
use Rattle.reading_rule.specs.declared.Reading.{Reading}
use Rattle.reading_rule.specs.declared.Reading.TheVariants.{Shipped, Standard}
use Rattle.refusal.specs.declared.Where.{Where}
use Rattle.reading_rule.specs.Plurals.{Parse, read_as, made, is_ascii, tested, parsed, tree_in}

-- in both readings a text of m bytes that is read makes a tree of at most m nodes
pub nodes_at_most_bytes : (reading : Reading) (s : List ℕ) (t : Tree) → read_as reading s ≡ tree.tree t → size t ≤ length s
nodes_at_most_bytes Shipped s t e = shipped_nodes s t e
nodes_at_most_bytes Standard s t e = standard_nodes s t e

abbrev Few : Parse → Type 0
Few p = size (tree_in p) ≤ 512

few_made : (place : Where) (o : tree.Reading) {n : ℕ} → n ≤ 512 → ((t : Tree) → o ≡ tree.tree t → size t ≤ n) → Few (made place o)
unfolding made size
few_made place (tree.tree t) h w = omega (arith, w t refl)
few_made place tree.none h w = omega arith

few_tested : (place : Where) (reading : Reading) (s : List ℕ) → Few (tested place reading s)
unfolding tested size
few_tested place reading s =
    by_test (Few (tested place reading s)) (ltb 512 (length s))
    (λ e. rw (tested, e) (omega arith))
    (λ e.
    by_test (Few (tested place reading s)) (all is_ascii s)
    (λ f. rw (tested, e, f) (few_made place (read_as reading s) (ltb-false 512 (length s) e) (nodes_at_most_bytes reading s)))
    (λ f. rw (tested, e, f) (omega arith)))

-- so the rule of a text, the default where it is refused, has at most 512
pub at_most_512_nodes : (place : Where) (reading : Reading) (s : List ℕ) → size (tree_in (parsed place reading s)) ≤ 512
unfolding parsed
at_most_512_nodes place reading s = few_tested place reading (trim white_space s)
