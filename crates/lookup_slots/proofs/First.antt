-- The first place that passes a test, round the end. Assumes nothing.
use Prim.Native.Nat.{ℕ, zero, suc, ◌+◌, ◌<◌, ◌≤◌}
use mathlib.Core.Path.{◌≡◌, refl, sym, ap, ◌∙◌}
use mathlib.Core.Bool.{Bool, true, false}
use native.Mathlib.Omega.{arith}
use lib.Dec.{eqb}
use borrow.Author.Tests.{eqb-true, eqb-false}
use Rattle.text.proofs.Tests.{never, taken, left, by_test}
use Rattle.lookup_slots.specs.Slots.{next, first}

module _ (f : ℕ → Bool) (m : ℕ) where
  pub first_here : (n p : ℕ) → f p ≡ true → first f m (suc n) p ≡ p
  unfolding first
  first_here n p e = taken _ _ e

  pub first_on : (n p : ℕ) → f p ≡ false → first f m (suc n) p ≡ first f m n (next m p)
  unfolding first
  first_on n p e = left _ _ e

  pub first_end : (p : ℕ) → first f m zero p ≡ m
  unfolding first
  first_end p = refl

-- it passes the test, where there is one
pub first_stops : (f : ℕ → Bool) (m n p : ℕ) → first f m n p < m → f (first f m n p) ≡ true
first_stops f m zero p h = absurd (omega (arith, first_end f m p))
first_stops f m (suc n) p h =
    by_test (f (first f m (suc n) p) ≡ true) (f p)
    (λ e. rw (first_here f m n p e) e)
    (λ e. rw (first_on f m n p e) (first_stops f m n (next m p) (rw (first_on f m n p e) at h)))

-- there is one, where a place passes that so many steps reach
module _ (f : ℕ → Bool) (m r : ℕ) (t : f r ≡ true) (b : r < m) where
  other : (p : ℕ) → f p ≡ false → p ≡ r → ⊥
  other p e q = never (sym e ∙ ap f q ∙ t)

  reach_on : (n p : ℕ) → p ≤ r → r < p + n → first f m n p < m
  reach_on zero p h l = absurd (omega arith)
  reach_on (suc n) p h l =
      by_test (first f m (suc n) p < m) (f p)
      (λ e. rw (first_here f m n p e) (omega arith))
      (λ e.
      let o : p ≡ r → ⊥ = other p e in
      by_test (first f m (suc n) p < m) (eqb (p + 1) m)
      (λ g. let z : p + 1 ≡ m = eqb-true (p + 1) m g in absurd (omega arith))
      (λ g. rw (first_on f m n p e, left 0 (p + 1) g) (reach_on n (p + 1) (omega arith) (omega arith))))

  reach_round : (n p : ℕ) → p < m → r + m < p + n → first f m n p < m
  reach_round zero p h l = absurd (omega arith)
  reach_round (suc n) p h l =
      by_test (first f m (suc n) p < m) (f p)
      (λ e. rw (first_here f m n p e) (omega arith))
      (λ e.
      by_test (first f m (suc n) p < m) (eqb (p + 1) m)
      (λ g. let z : p + 1 ≡ m = eqb-true (p + 1) m g in rw (first_on f m n p e, taken 0 (p + 1) g) (reach_on n 0 (omega arith) (omega arith)))
      (λ g. let z : p + 1 ≡ m → ⊥ = eqb-false (p + 1) m g in rw (first_on f m n p e, left 0 (p + 1) g) (reach_round n (p + 1) (omega arith) (omega arith))))

  pub reached : (p : ℕ) → p < m → first f m m p < m
  reached p h = by_order (λ l. reach_on m p l (omega arith)) (λ l. reach_round m p h (omega arith))
    where
      by_order : (p ≤ r → first f m m p < m) → (r < p → first f m m p < m) → first f m m p < m
      by_order u v = by_test (first f m m p < m) (lib.Dec.leb p r) (λ e. u (borrow.Author.Tests.leb-true p r e)) (λ e. v (borrow.Author.Tests.leb-false p r e))

-- a test that is changed at q only
module _ (f g : ℕ → Bool) (m q : ℕ) (s : (x : ℕ) → (x ≡ q → ⊥) → g x ≡ f x) where
  by_place : {P : Type 0} (p : ℕ) → (p ≡ q → P) → ((p ≡ q → ⊥) → P) → P
  by_place {P} p u v = by_test P (eqb p q) (λ e. u (eqb-true p q e)) (λ e. v (eqb-false p q e))

  -- where q does not pass now, and was not the first, the first is the same
  pub first_kept : g q ≡ false → (n p : ℕ) → (first f m n p ≡ q → ⊥) → first g m n p ≡ first f m n p
  first_kept z zero p h = first_end g m p ∙ sym (first_end f m p)
  first_kept z (suc n) p h =
      by_test (first g m (suc n) p ≡ first f m (suc n) p) (f p)
      (λ e.
      let o : p ≡ q → ⊥ = λ c. h (first_here f m n p e ∙ c) in
      first_here g m n p (s p o ∙ e) ∙ sym (first_here f m n p e))
      (λ e.
      let w : g p ≡ false = by_place p (λ c. ap g c ∙ z) (λ o. s p o ∙ e) in
      first_on g m n p w ∙ first_kept z n (next m p) (λ c. h (first_on f m n p e ∙ c)) ∙ sym (first_on f m n p e))

  -- where q was the first, and passes now, it is the first
  pub first_again : g q ≡ true → q < m → (n p : ℕ) → first f m n p ≡ q → first g m n p ≡ q
  first_again z b zero p h = absurd (omega (arith, first_end f m p))
  first_again z b (suc n) p h =
      by_place p (λ c. first_here g m n p (ap g c ∙ z) ∙ c)
      (λ o.
      by_test (first g m (suc n) p ≡ q) (f p)
      (λ e. absurd (o (sym (first_here f m n p e) ∙ h)))
      (λ e. first_on g m n p (s p o ∙ e) ∙ first_again z b n (next m p) (sym (first_on f m n p e) ∙ h)))
