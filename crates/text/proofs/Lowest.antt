-- The least byte that two texts have in common, gathered byte by byte and block by block, and what it tells of them. Assumes nothing.
use Prim.Native.Nat.{ℕ, ◌+◌, ◌<◌, ◌≤◌, min}
use mathlib.Core.Path.{◌≡◌, refl, sym, ap, ◌∙◌}
use mathlib.Core.Bool.{Bool, true, false, ◌&&◌, and-true}
use mathlib.Core.List.{List}
use native.Mathlib.Omega.{arith}
use lib.ListN.{length, get_or}
use lib.Seq.{ext_get_or}
use lib.Dec.{leb, eqb}
use borrow.Author.Tests.{eq-eqb, eqb-true, leb-true, leb-false}
use Rattle.text.specs.Bytes.{within, all, same}
use Rattle.text.specs.Private.{common_of, Over, Least}
use Rattle.text.proofs.Tests.{taken, left, by_test, and_left, and_right}
use Rattle.text.proofs.All.{all_each, all_at}
use Rattle.text.proofs.Bounds.{inside}
use Rattle.text.proofs.Same.{same_true, same_refl, other_length}

module _ {s t : List ℕ} where
  pub least_none : {from to most : ℕ} → to ≤ from → Least s t from to most most
  least_none h = record { few = omega arith; over = λ i k l. absurd (omega arith); largest = λ lo k o. k }

  pub least_at : {from to n most r : ℕ} → Least s t from to most r → n ≡ to → Least s t from n most r
  least_at x e = rw e x

  -- of one part and then of another that goes on from it, or lies over its end
  pub least_join : {f u g v n most a b : ℕ} → Least s t f u most a → Least s t g v a b → (f ≤ g) × (g ≤ u) × (u ≤ n) × (n ≡ v) → Least s t f n most b
  least_join {u = u} x y h = record {
    few = omega arith;
    over = λ i k l. by_test _ (leb u i) (λ e. y.over i (omega (arith, leb-true u i e)) (omega arith)) (λ e. omega (arith, x.over i k (leb-false u i e)));
    largest = λ lo k o. y.largest lo (x.largest lo k (λ i p q. o i p (omega arith))) (λ i p q. o i (omega arith) (omega arith));
  }

  -- two blocks, and two that go on from them or lie over their end
  pub least_blocks : {i j most a b c d : ℕ} → Least s t i (i + 16) most a → Least s t (i + 16) (i + 16 + 16) a b → Least s t j (j + 16) b c
      → Least s t (j + 16) (j + 16 + 16) c d → (i ≤ j) × (j ≤ i + 32) → Least s t i (j + 32) most d
  least_blocks {i = i} {j = j} x y z w h = least_join {u = i + 32} {v = j + 32} (least_join x y (omega arith)) (least_join z w (omega arith)) (omega arith)

  -- one byte more
  pub least_more : {from k n most z v w : ℕ} → Least s t from k most z → v ≡ common_of (get_or s k 0) (get_or t k 0) → w ≡ min v z → (from ≤ k) × (n ≡ k + 1)
      → Least s t from n most w
  least_more {k = k} {n = n} {z = z} {v = v} {w = w} x e m h = least_join x one (omega arith)
    where
      one : Least s t k n z w
      one = record {
        few = omega arith;
        over = λ i p q. let d : i ≡ k = omega arith in rw d (omega arith);
        largest = λ lo p o. omega (arith, o k (omega arith) (omega arith));
      }

-- of one byte twice it is that, and above 0 it is the byte of both
common_same : (a : ℕ) → common_of a a ≡ a
common_same a = taken a 0 (eq-eqb a a refl)

common_both : (a b : ℕ) {lo : ℕ} → 0 < lo → lo ≤ common_of a b → (a ≡ b) × (lo ≤ b)
common_both a b h l =
    by_test _ (eqb a b)
    (λ e. let z = eqb-true a b e in (z, omega (arith, taken {A = ℕ} {b = eqb a b} a 0 e)))
    (λ e. absurd (omega (arith, left {A = ℕ} {b = eqb a b} a 0 e)))

module _ (p s : List ℕ) (lo : ℕ) where
  over_same : 0 < lo → length s ≡ length p → ((i : ℕ) → get_or p i 0 ≤ 255) → Over s p 0 (length s) lo → (same p s && all (within (lo, 255)) p) ≡ true
  over_same h e b o =
      rw (ext_get_or 0 s p e (λ i l. (common_both (get_or s i 0) (get_or p i 0) h (o i (omega arith) l)).0), same_refl p)
      (all_each (within (lo, 255)) p (λ i l. inside lo 255 (get_or p i 0) (common_both (get_or s i 0) (get_or p i 0) h (o i (omega arith) (omega arith))).1 (b i)))

  same_over : (same p s && all (within (lo, 255)) p) ≡ true → Over s p 0 (length s) lo
  same_over e i h l =
      let q : p ≡ s = same_true p s (and_left _ _ e) in
      let a : leb lo (get_or p i 0) ≡ true = and_left _ _ (all_at (within (lo, 255)) p (and_right (same p s) _ e) i (omega (arith, ap length q))) in
      rw (← q, common_same (get_or p i 0)) (leb-true lo (get_or p i 0) a)

  pub least_same : 0 < lo → lo ≤ 255 → length s ≡ length p → ((i : ℕ) → get_or p i 0 ≤ 255) → {r : ℕ} → Least s p 0 (length s) 255 r
      → leb lo r ≡ (same p s && all (within (lo, 255)) p)
  least_same h k e b {r} x =
      by_test _ (leb lo r)
      (λ t. t ∙ sym (over_same h e b (λ i m l. omega (arith, x.over i m l, leb-true lo r t))))
      (λ t.
      by_test _ (same p s && all (within (lo, 255)) p)
      (λ q. absurd (omega (arith, x.largest lo k (same_over q), leb-false lo r t)))
      (λ q. t ∙ sym q))

  -- every byte is one from 0 on; and texts of two lengths are not the same
  pub same_from_zero : lo ≡ 0 → ((i : ℕ) → get_or p i 0 ≤ 255) → {r : Bool} → r ≡ same p s → r ≡ (same p s && all (within (lo, 255)) p)
  same_from_zero h b e = rw (all_each (within (lo, 255)) p (λ i l. inside lo 255 (get_or p i 0) (omega arith) (b i)), and-true (same p s)) e

  pub same_from_none : (length s ≡ length p → ⊥) → false ≡ (same p s && all (within (lo, 255)) p)
  same_from_none h = rw (other_length p s h)

-- what `same_from` may use
pub ruleset same_from_cases = (least_same, same_from_zero, same_from_none)
