-- The first place of a pattern, as a loop that goes from place to place meets it. Assumes nothing.
use Prim.Native.Nat.{ℕ, suc, ◌+◌, ◌-◌, ◌<◌, ◌≤◌}
use mathlib.Core.Path.{◌≡◌, refl, sym, ap, ◌∙◌}
use mathlib.Core.Bool.{true, false}
use mathlib.Core.List.{List, [], ◌∷◌}
use native.Mathlib.Omega.{arith}
use lib.Dec.{eqb}
use borrow.Author.Tests.{eqb-true, eqb-false}
use lib.ListN.{length, get_or, take, drop}
use Rattle.text.specs.Bytes.{begins, first, next}
use Rattle.std.specs.Prelude.{Option, Some, None}
use Rattle.text.proofs.Tests.{never, taken, left, by_test, and_right}
use Rattle.text.proofs.Walk.{rest_at, rest_end, part_from}

abbrev pub later : ℕ → Option ℕ → Option ℕ
later i (Some j) = Some (i + j)
later i None = None

later_none : (f : Option ℕ) → f ≡ later 0 f
later_none (Some j) = ap Some (omega arith)
later_none None = refl

later_next : (i : ℕ) (f : Option ℕ) → later i (next f) ≡ later (i + 1) f
later_next i (Some j) = ap Some (omega arith)
later_next i None = refl

here : (p l : List ℕ) → begins p l ≡ true → first p l ≡ Some 0
unfolding first
here p [] e = taken _ _ e
here p (b ∷ l) e = taken _ _ e

not_here : (p : List ℕ) (b : ℕ) (l : List ℕ) → begins p (b ∷ l) ≡ false → first p (b ∷ l) ≡ next (first p l)
unfolding first
not_here p b l e = left _ _ e

empty_begins : (p l : List ℕ) → length p ≡ 0 → begins p l ≡ true
unfolding begins
empty_begins [] l e = refl
empty_begins (x ∷ p) l e = absurd (omega arith)

nowhere : (p : List ℕ) → (length p ≡ 0 → ⊥) → first p [] ≡ None
unfolding first begins
nowhere [] k = absurd (k refl)
nowhere (x ∷ p) k = refl

ends_nowhere : (p : List ℕ) → begins p [] ≡ false → first p [] ≡ None
unfolding first
ends_nowhere p e = left _ _ e

module _ (p s : List ℕ) where
  -- the pattern stands at none of the first i places
  abbrev pub Sought : ℕ → Type 0
  Sought i = first p s ≡ later i (first p (drop i s))

  pub sought_none : Sought 0
  sought_none = later_none (first p s)

  module _ (i : ℕ) where
    pub sought_here : begins p (drop i s) ≡ true → Sought i → Some i ≡ first p s
    sought_here e a = let z : i + 0 ≡ i = omega arith in sym (a ∙ ap (later i) (here p (drop i s) e) ∙ ap Some z)

    -- the code asks this of the part from i on
    pub asked_here : begins p (take (length s - i) (drop i s)) ≡ true → Sought i → Some i ≡ first p s
    asked_here e a = sought_here (rw (part_from s i) at e) a

    pub sought_more : i < length s → begins p (take (length s - i) (drop i s)) ≡ false → Sought i → Sought (i + 1)
    sought_more h e a =
        let f : begins p (get_or s i 0 ∷ drop (i + 1) s) ≡ false = sym (ap (begins p) (part_from s i ∙ rest_at s i h)) ∙ e in
        a ∙ ap (λ (l : List ℕ). later i (first p l)) (rest_at s i h) ∙ ap (later i) (not_here p _ _ f) ∙ later_next i (first p (drop (i + 1) s))

    pub sought_empty : length s ≤ i → i ≤ length s → true ≡ eqb (length p) 0 → Sought i → Some (length s) ≡ first p s
    sought_empty h k e a = let q : length s ≡ i = omega arith in ap Some q ∙ sought_here (empty_begins p (drop i s) (eqb-true _ 0 (sym e))) a

    pub sought_end : length s ≤ i → false ≡ eqb (length p) 0 → Sought i → None ≡ first p s
    sought_end h e a =
        sym (a ∙ ap (λ (l : List ℕ). later i (first p l)) (rest_end s i h) ∙ ap (later i) (nowhere p (eqb-false _ 0 (sym e))))

begins_length : (p s : List ℕ) → begins p s ≡ true → length p ≤ length s
unfolding begins
begins_length [] s e = omega arith
begins_length (x ∷ p) [] e = absurd (never e)
begins_length (x ∷ p) (b ∷ s) e = omega (arith, begins_length p s (and_right (eqb x b) (begins p s) e))

next_at : (f : Option ℕ) (i : ℕ) → next f ≡ Some i → (j : ℕ) × (f ≡ Some j) × (i ≡ suc j)
next_at (Some j) i e = (j, refl, cc)
next_at None i e = absurd (let z : ◌≡◌ {A = ℕ} 0 1 = cc in omega arith)

-- a pattern that is found lies in the text
pub first_inside : (p s : List ℕ) (i : ℕ) → first p s ≡ Some i → i + length p ≤ length s
first_inside p [] i e =
    by_test (i + length p ≤ 0) (begins p [])
    (λ t. let z : i ≡ 0 = cc (here p [] t) in omega (arith, begins_length p [] t))
    (λ t. absurd (let y = ends_nowhere p t in let z : ◌≡◌ {A = ℕ} 0 1 = cc in omega arith))
first_inside p (b ∷ s) i e =
    by_test (i + length p ≤ length (b ∷ s)) (begins p (b ∷ s))
    (λ t. let z : i ≡ 0 = cc (here p (b ∷ s) t) in omega (arith, begins_length p (b ∷ s) t))
    (λ t. let n = next_at (first p s) i (sym (not_here p b s t) ∙ e) in omega (arith, first_inside p s n.0 n.1, n.2))

-- what `find` may use
pub ruleset sought_cases = (sought_none, asked_here, sought_more, sought_empty, sought_end)
