-- The pieces of a text, from the first on, as a loop that seeks the next cut meets them. Assumes nothing.
use Prim.Native.Nat.{ℕ, suc, ◌+◌, ◌-◌, ◌<◌, ◌≤◌}
use mathlib.Core.Path.{◌≡◌, refl, sym, ap, ◌∙◌}
use mathlib.Core.Bool.{true, false, not}
use mathlib.Core.List.{List, [], ◌∷◌}
use native.Mathlib.Omega.{arith}
use native.Mathlib.Numerals.{add-one}
use lib.ListN.{length, take, drop, length-drop}
use lib.Seq.{take_all, drop-drop}
use lib.Dec.{eqb}
use Rattle.text.specs.Bytes.{place}
use Rattle.text.specs.Cut.{cut, onto}
use Rattle.text.proofs.Tests.{taken, left, by_test}
use Rattle.text.proofs.Front.{front_in, front_out, front_length}

-- a cut has a first piece
pub record Pieces (ps : List (List ℕ)) : Type 0 where
  pub head : List ℕ
  pub more : List (List ℕ)
  pub is : ps ≡ head ∷ more

onto_some : (b : ℕ) (ps : List (List ℕ)) → Pieces (onto b ps)
onto_some b [] = record { head = b ∷ []; more = []; is = refl }
onto_some b (p ∷ ps) = record { head = b ∷ p; more = ps; is = refl }

pub cut_at : (x b : ℕ) (s : List ℕ) → eqb b x ≡ true → cut x (b ∷ s) ≡ [] ∷ cut x s
unfolding cut
cut_at x b s e = taken _ _ e

pub cut_on : (x b : ℕ) (s : List ℕ) → eqb b x ≡ false → cut x (b ∷ s) ≡ onto b (cut x s)
unfolding cut
cut_on x b s e = left _ _ e

pub cut_some : (x : ℕ) (s : List ℕ) → Pieces (cut x s)
unfolding cut
cut_some x [] = record { head = []; more = []; is = refl }
cut_some x (b ∷ s) =
    by_test (Pieces (cut x (b ∷ s))) (eqb b x)
    (λ e. record { head = []; more = cut x s; is = cut_at x b s e })
    (λ e. let o = onto_some b (cut x s) in record { head = o.head; more = o.more; is = cut_on x b s e ∙ o.is })

module _ (x : ℕ) where
  pub at_once : (b : ℕ) (s : List ℕ) → eqb b x ≡ true → place x (b ∷ s) ≡ 0
  at_once b s e = front_out (λ c. not (eqb c x)) b s (ap not e)

  pub goes_on : (b : ℕ) (s : List ℕ) → eqb b x ≡ false → place x (b ∷ s) ≡ suc (place x s)
  goes_on b s e = front_in (λ c. not (eqb c x)) b s (ap not e)

  pub place_length : (s : List ℕ) → place x s ≤ length s
  place_length s = front_length (λ c. not (eqb c x)) s

  -- up to the first x, and what comes after it
  pub cut_first : (s : List ℕ) → place x s < length s → cut x s ≡ take (place x s) s ∷ cut x (drop (place x s + 1) s)
  cut_first [] h = absurd (omega arith)
  cut_first (b ∷ s) h =
      by_test (cut x (b ∷ s) ≡ take (place x (b ∷ s)) (b ∷ s) ∷ cut x (drop (place x (b ∷ s) + 1) (b ∷ s))) (eqb b x)
      (λ e. rw (cut_at x b s e, at_once b s e))
      (λ e. let l : place x s < length s = omega (arith, goes_on b s e) in rw (cut_on x b s e, cut_first s l, goes_on b s e, add-one, add-one))

  -- without an x there is one piece
  pub cut_whole : (s : List ℕ) → length s ≤ place x s → cut x s ≡ s ∷ []
  unfolding cut
  cut_whole [] h = refl
  cut_whole (b ∷ s) h =
      by_test (cut x (b ∷ s) ≡ (b ∷ s) ∷ []) (eqb b x)
      (λ e. absurd (omega (arith, at_once b s e)))
      (λ e. let l : length s ≤ place x s = omega (arith, goes_on b s e) in cut_on x b s e ∙ ap (onto b) (cut_whole s l))

-- the pieces of what is left from a place on: the first ends at end
module _ (x : ℕ) (s : List ℕ) (at end : ℕ) (e : end ≡ at + place x (drop at s)) where
  first_length : end - at ≡ place x (drop at s)
  first_length = omega arith

  pub rest_last : at ≤ length s → length s ≤ end → cut x (drop at s) ≡ take (end - at) (drop at s) ∷ []
  rest_last i h =
      let l : length (drop at s) ≤ end - at = omega (arith, length-drop at s) in
      let m : length (drop at s) ≤ place x (drop at s) = omega (arith, length-drop at s) in
      cut_whole x (drop at s) m ∙ ap (λ (t : List ℕ). t ∷ []) (sym (take_all (end - at) (drop at s) l))

  pub rest_more : end < length s → cut x (drop at s) ≡ take (end - at) (drop at s) ∷ cut x (drop (end + 1) s)
  rest_more h =
      let l : place x (drop at s) < length (drop at s) = omega (arith, length-drop at s) in
      let z : at + (place x (drop at s) + 1) ≡ end + 1 = omega arith in
      cut_first x (drop at s) l ∙ rw (drop-drop, z, first_length)

  pub rest_bound : at ≤ length s → end ≤ length s
  rest_bound i = omega (arith, place_length x (drop at s), length-drop at s)

  pub rest_after : at ≤ end
  rest_after = omega arith

-- with the byte after each, the pieces are as long as the text and one byte more
abbrev pub spanned : ℕ → List (List ℕ) → ℕ
spanned at [] = at
spanned at (p ∷ ps) = spanned (at + length p + 1) ps

pub spans : (at : ℕ) (ps : List (List ℕ)) → at ≤ spanned at ps
spans at [] = omega arith
spans at (p ∷ ps) = omega (arith, spans (at + length p + 1) ps)

spanned_onto : (b at : ℕ) (ps : List (List ℕ)) → Pieces ps → spanned at (onto b ps) ≡ spanned (at + 1) ps
spanned_onto b at [] o = absurd (let q = o.is in let z : ◌≡◌ {A = ℕ} 0 1 = cc in omega arith)
spanned_onto b at (p ∷ ps) o = let z : at + suc (length p) + 1 ≡ at + 1 + length p + 1 = omega arith in ap (λ (n : ℕ). spanned n ps) z

pub cut_spans : (x : ℕ) (s : List ℕ) (at : ℕ) → spanned at (cut x s) ≡ at + length s + 1
unfolding cut
cut_spans x [] at = refl
cut_spans x (b ∷ s) at =
    by_test (spanned at (cut x (b ∷ s)) ≡ at + length (b ∷ s) + 1) (eqb b x)
    (λ e. ap (spanned at) (cut_at x b s e) ∙ cut_spans x s (at + 0 + 1) ∙ omega arith)
    (λ e. ap (spanned at) (cut_on x b s e) ∙ spanned_onto b at (cut x s) (cut_some x s) ∙ cut_spans x s (at + 1) ∙ omega arith)
