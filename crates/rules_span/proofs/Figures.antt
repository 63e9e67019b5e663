-- The figures of a span: each line has those counts that fall on it, and they add up to the counts. Assumes nothing.
use Prim.Native.Nat.{ℕ, zero, suc, ◌+◌, ◌-◌, ◌<◌, ◌≤◌, ◌^◌, min}
use mathlib.Core.Path.{◌≡◌, refl, sym, ap, ◌∙◌}
use mathlib.Core.Bool.{Bool, true, false}
use mathlib.Core.List.{List, [], ◌∷◌}
use native.Mathlib.Omega.{arith}
use lib.ListN.{length, get_or, length-set, get_or-replicate}
use lib.Seq.{get_or-set_same, get_or-set_other}
use lib.Dec.{ltb, eqb}
use borrow.Author.Tests.{ltb-true, ltb-false, le-leb, lt-leb, eqb-true, eqb-false}
use Rattle.text.proofs.Tests.{by_test, taken, left}
use Rattle.std.specs.Prelude.{Option, Some, None, Ok, Err}
use Rattle.rules.specs.Tree.{Tree}
use Rattle.rules.specs.Value.{eval_tree, truth}
use Rattle.rules.specs.Pool.{Pool, tree_of, is_tree}
use Rattle.rules_span.specs.Span.{line_of, no_figures, bump, tallied, falls, total, is_span, tally_of, figures_of}
use Rattle.rules_span.specs.declared.Uncounted.TheVariants.{BadSpan, NoTree}

-- a value's line
pub line_min : (x : ℕ) → line_of (Some x) ≡ min x 16
unfolding line_of
line_min x =
    by_test (line_of (Some x) ≡ min x 16) (ltb x 16)
    (λ e. let h = ltb-true x 16 e in taken _ _ e ∙ omega arith)
    (λ e. let h = ltb-false x 16 e in left _ _ e ∙ omega arith)

pub line_in : (v : Option ℕ) → line_of v < 18
unfolding line_of
line_in (Some x) = rw (line_min x) (omega arith)
line_in None = omega arith

-- figures and their total
at_most : (l : List ℕ) (i : ℕ) → get_or l i 0 ≤ total l
at_most [] i = omega arith
at_most (x ∷ l) zero = omega arith
at_most (x ∷ l) (suc i) = let h = at_most l i in omega arith

bumped : (l : List ℕ) (i : ℕ) → i < length l → total (bump l i) ≡ total l + 1
unfolding bump
bumped [] i h = absurd (omega arith)
bumped (x ∷ l) zero h = omega arith
bumped (x ∷ l) (suc i) h = let e = bumped l i (omega arith) in omega (arith, e)

module _ (t : Tree) (a : ℕ) where
  pub tallied_long : (k : ℕ) → length (tallied t a k) ≡ 18
  unfolding tallied
  tallied_long zero = refl
  tallied_long (suc k) = length-set (tallied t a k) _ _ ∙ tallied_long k

  -- the figures add up
  pub adds_up : (k : ℕ) → total (tallied t a k) ≡ k
  unfolding tallied
  adds_up zero = refl
  adds_up (suc k) =
      let e = bumped (tallied t a k) (line_of (eval_tree t (a + k))) (rw (tallied_long k) (line_in (eval_tree t (a + k)))) in
      let d = adds_up k in
      omega (arith, e, d)

  pub tallied_few : (k i : ℕ) → get_or (tallied t a k) i 0 ≤ k
  tallied_few k i = let h = at_most (tallied t a k) i in let e = adds_up k in omega (arith, h, e)

  -- and each line has those counts that fall on it
  pub line_counts : (k i : ℕ) → i < 18 → get_or (tallied t a k) i 0 ≡ falls t a k i
  unfolding tallied falls
  line_counts zero i h = get_or-replicate 18 i 0 0 h
  line_counts (suc k) i h = go (line_counts k i h) (eqb (line_of (eval_tree t (a + k))) i) refl
    where
      go : get_or (tallied t a k) i 0 ≡ falls t a k i → (b : Bool) → eqb (line_of (eval_tree t (a + k))) i ≡ b
          → get_or (bump (tallied t a k) (line_of (eval_tree t (a + k)))) i 0 ≡ falls t a k i + truth (eqb (line_of (eval_tree t (a + k))) i)
      go d true e =
          let q = eqb-true (line_of (eval_tree t (a + k))) i e in
          rw (e, q) (get_or-set_same (tallied t a k) i (get_or (tallied t a k) i 0 + 1) 0 (rw (tallied_long k) h) ∙ ap (λ (x : ℕ). x + 1) d)
      go d false e =
          let n = eqb-false (line_of (eval_tree t (a + k))) i e in
          rw e (get_or-set_other (tallied t a k) (line_of (eval_tree t (a + k))) i _ 0 (λ q. n (sym q)) ∙ d ∙ omega arith)

-- as the loop has them
pub line_of_in : (v : Option ℕ) {line : ℕ} → line ≡ line_of v → line < 18
line_of_in v e = rw e (line_in v)

module _ (t : Tree) (a : ℕ) where
  pub from_none : {figures : List ℕ} → figures ≡ no_figures → figures ≡ tallied t a 0
  unfolding tallied
  from_none e = e

  pub room : (k line : ℕ) {figures : List ℕ} → figures ≡ tallied t a k → k < 1000000 → get_or figures line 0 + 1 < 2 ^ 64
  room k line e h = rw e (let l = tallied_few t a k line in omega arith)

  pub counted_on : (k : ℕ) {figures after : List ℕ} {v : Option ℕ} {line : ℕ} → figures ≡ tallied t a k → v ≡ eval_tree t (a + k) → line ≡ line_of v → after ≡ bump figures line
      → after ≡ tallied t a (k + 1)
  unfolding tallied
  counted_on k e d f g =
      let z : k + 1 ≡ suc k = omega arith in
      g ∙ rw (e, f, d, z) refl

-- what a span answers
module _ (P : Pool) (nodes root a b : ℕ) where
  pub no_tree : is_tree P nodes root ≡ false → (Err NoTree ≡ tally_of P nodes root a b) × (no_figures ≡ figures_of P nodes root a b)
  unfolding figures_of
  no_tree e = rw (tally_of, e) (refl, refl)

  bad : is_tree P nodes root ≡ true → is_span a b ≡ false → (Err BadSpan ≡ tally_of P nodes root a b) × (no_figures ≡ figures_of P nodes root a b)
  unfolding figures_of
  bad e d = rw (tally_of, e, d) (refl, refl)

  pub below : is_tree P nodes root ≡ true → b < a → (Err BadSpan ≡ tally_of P nodes root a b) × (no_figures ≡ figures_of P nodes root a b)
  unfolding is_span
  below e h = bad e no
    where
      no : is_span a b ≡ false
      no = rw (lt-leb a b h)

  pub long : is_tree P nodes root ≡ true → a ≤ b → 999999 < b - a → (Err BadSpan ≡ tally_of P nodes root a b) × (no_figures ≡ figures_of P nodes root a b)
  unfolding is_span
  long e h l = bad e no
    where
      no : is_span a b ≡ false
      no = rw (le-leb a b h, lt-leb (b - a) 999999 l)

  pub counted : is_tree P nodes root ≡ true → a ≤ b → b - a ≤ 999999 → {figures : List ℕ} → figures ≡ tallied (tree_of P root) a (b - a + 1)
      → (Ok tt ≡ tally_of P nodes root a b) × (figures ≡ figures_of P nodes root a b)
  unfolding figures_of is_span
  counted e h l q = rw (tally_of, e, yes) (refl, q)
    where
      yes : is_span a b ≡ true
      yes = rw (le-leb a b h, le-leb (b - a) 999999 l)

  -- document 02: "the figures add up to b-a+1"
  pub figures_add_up : tally_of P nodes root a b ≡ Ok tt → total (figures_of P nodes root a b) ≡ b - a + 1
  unfolding figures_of
  figures_add_up e = rw e (adds_up (tree_of P root) a (b - a + 1))
