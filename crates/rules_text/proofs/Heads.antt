-- The text of a tree from its root down to the leaf that the last operands end in, and up again: what stands before the nodes on the way, the text of
-- the node that was reached, and what stands after.
use Prim.Native.Nat.{ℕ, zero, suc, ◌+◌, ◌-◌, ◌*◌, ◌<◌, ◌≤◌}
use mathlib.Core.Path.{◌≡◌, sym, ap, ◌∙◌}
use mathlib.Core.List.{List, [], ◌++◌, append_assoc}
use mathlib.Core.Logic.{⊎_elim}
use native.Mathlib.Omega.{arith}
use native.Mathlib.Nat.{eq-or-lt_of_le}
use Rattle.rules.specs.Pool.{Pool, code, tree_of, nay_node}
use Rattle.rules.specs.Promise.{Sound}
use Rattle.rules_tree.proofs.Runs.{down_to}
use Rattle.rules_text.specs.Bracketed.{bracketed}
use Rattle.rules_text.specs.Bounded.{Bounded}
use Rattle.rules_text.specs.Private.{head_of, HeadBounded, tail_of, PutsWith, PutsTree, PutsHead, PutsTail}
use Rattle.rules_text.proofs.Laid.{nothing, reworded, joined}
use Rattle.rules_text.proofs.Nodes.{around}

-- of k nodes from p down
unfoldable pub heads_to : Pool → ℕ → ℕ → List ℕ
heads_to P p zero = []
heads_to P p (suc k) = heads_to P p k ++ head_of P (p - k)

abbrev pub heads : Pool → ℕ → ℕ → List ℕ
heads P p q = heads_to P p (p - q)

abbrev HeadsBounded : Pool → ℕ → ℕ → Type 0
HeadsBounded P p q = (r : ℕ) → q < r → r ≤ p → HeadBounded P r

-- what stands before the node at q was put, and this node's text too
abbrev pub PutsHeads : Pool → ℕ → ℕ → ℕ → List ℕ → List ℕ → ℕ → Type 0
PutsHeads P p q = PutsWith (HeadsBounded P p q) (heads P p q)

abbrev pub PutsTo : Pool → ℕ → ℕ → ℕ → List ℕ → List ℕ → ℕ → Type 0
PutsTo P p q = PutsWith (HeadsBounded P p q × Bounded (tree_of P q)) (heads P p q ++ bracketed (tree_of P q))

module _ (P : Pool) (p : ℕ) where
  no_heads : heads P p p ≡ []
  unfolding heads_to
  no_heads = let e : p - p ≡ 0 = omega arith in rw e

  one_head : (q r : ℕ) → q + 1 ≡ r → r ≤ p → heads P p q ≡ heads P p r ++ head_of P r
  unfolding heads_to
  one_head q r e h =
      let d : p - q ≡ suc (p - r) = omega arith in
      let f : p - (p - r) ≡ r = omega arith in
      ap (heads_to P p) d ∙ ap (λ (i : ℕ). heads_to P p (p - r) ++ head_of P i) f

  pub no_heads_put : {q at : ℕ} {x : List ℕ} → q ≡ p → at ≤ 513 → PutsHeads P p q at x x at
  no_heads_put {q} {at} {x} e h = rw e record { text = reworded no_heads (nothing at x h); bounded = λ r l k. absurd (omega arith) }

  pub head_put : {q at i r : ℕ} {x y z : List ℕ} → 0 < q → q ≤ p → PutsHeads P p q at x y i → PutsHead P q i y z r → PutsHeads P p (q - 1) at x z r
  head_put {q} h l a b =
      record {
        text = reworded (one_head (q - 1) q (omega arith) l) (joined a.text b.text);
        bounded = λ j g k. ⊎_elim (λ (f : q ≡ j). rw (← f) b.bounded) (λ m. a.bounded j m k) (eq-or-lt_of_le (omega arith));
      }

  pub leaf_put : {n q at i r : ℕ} {x y z : List ℕ} → n ≡ q → PutsHeads P p n at x y i → PutsTree (tree_of P q) i y z r → PutsTo P p q at x z r
  leaf_put e a b = let h = rw e at a in record { text = joined h.text b.text; bounded = (h.bounded, b.bounded) }

  pub tail_put : {q at i r : ℕ} {x y z : List ℕ} → Sound P p → 0 < q → q ≤ p → nay_node ≤ code P q → PutsTo P p (q - 1) at x y i
      → PutsTail P q i y z r → PutsTo P p q at x z r
  tail_put {q} s g l h a b =
      record {
        text = reworded e (joined a.text b.text);
        bounded = (λ j m k. a.bounded.0 j (omega arith) k, (around (down_to s l) h).1 (a.bounded.0 q (omega arith) l) a.bounded.1 b.bounded);
      }
    where
      e : heads P p q ++ bracketed (tree_of P q) ≡ heads P p (q - 1) ++ bracketed (tree_of P (q - 1)) ++ tail_of P q
      e =
          ap (λ (k : List ℕ). heads P p q ++ k) (around (down_to s l) h).0
          ∙ (sym (append_assoc (heads P p q) (head_of P q ++ bracketed (tree_of P (q - 1))) (tail_of P q))
          ∙ ap (λ (k : List ℕ). k ++ tail_of P q)
          (sym (append_assoc (heads P p q) (head_of P q) (bracketed (tree_of P (q - 1))))
          ∙ ap (λ (k : List ℕ). k ++ bracketed (tree_of P (q - 1))) (sym (one_head (q - 1) q (omega arith) l))))

  pub whole_put : {q at r : ℕ} {x y : List ℕ} → q ≡ p → PutsTo P p q at x y r → PutsTree (tree_of P p) at x y r
  whole_put {q} {at} {r} {x} {y} e w =
      let v : PutsTo P p p at x y r = rw e at w in
      record { text = reworded (ap (λ (k : List ℕ). k ++ bracketed (tree_of P p)) (sym no_heads)) v.text; bounded = v.bounded.1 }

-- a first or a second operand lies below its parent's place
pub falls_to : {P : Pool} {p q x t : ℕ} → Sound P p → 2 * p ≡ t → x < p → q ≡ x → (2 * q + 1 < t) × Sound P q
falls_to s e l d = (omega arith, down_to s (omega arith))
