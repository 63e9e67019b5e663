-- Whether all bytes are of a set, told by each byte or by how many stand at the front; and a byte's first place as the end of a run.
-- Assumes nothing.
use Prim.Native.Nat.{ℕ, zero, suc, ◌+◌, ◌-◌, ◌<◌, ◌≤◌}
use mathlib.Core.Path.{◌≡◌, refl, sym, ap, ◌∙◌}
use mathlib.Core.Bool.{Bool, true, false, not}
use mathlib.Core.List.{List, [], ◌∷◌}
use native.Mathlib.Omega.{arith}
use lib.ListN.{length, get_or, drop}
use lib.Dec.{leb, eqb}
use borrow.Author.Tests.{eqb-true, eqb-false, leb-true, leb-false}
use Rattle.text.specs.Bytes.{within, all, front, place}
use Rattle.text.specs.Private.{Blocks}
use Rattle.text.proofs.Tests.{by_test, and_left, and_right}
use Rattle.text.proofs.Bounds.{under, over, inside}
use Rattle.text.proofs.Front.{front_in, front_out, front_length, counted_within, counted_last}

module _ (w : ℕ → Bool) where
  -- by each byte
  pub all_each : (s : List ℕ) → ((i : ℕ) → i < length s → w (get_or s i 0) ≡ true) → all w s ≡ true
  unfolding all
  all_each [] f = refl
  all_each (b ∷ s) f = rw (f 0 (omega arith)) (all_each s (λ i l. f (suc i) (omega arith)))

  pub all_at : (s : List ℕ) → all w s ≡ true → (i : ℕ) → i < length s → w (get_or s i 0) ≡ true
  unfolding all
  all_at [] e i l = absurd (omega arith)
  all_at (b ∷ s) e zero l = and_left (w b) (all w s) e
  all_at (b ∷ s) e (suc i) l = all_at s (and_right (w b) (all w s) e) i (omega arith)

  -- by those at the front
  all_in : (s : List ℕ) → front w s ≡ length s → all w s ≡ true
  unfolding all
  all_in [] e = refl
  all_in (b ∷ s) e =
      by_test (all w (b ∷ s) ≡ true) (w b)
      (λ t. rw t (all_in s (omega (arith, front_in w b s t))))
      (λ t. absurd (omega (arith, front_out w b s t)))

  all_out : (s : List ℕ) → front w s < length s → all w s ≡ false
  unfolding all
  all_out [] h = absurd (omega arith)
  all_out (b ∷ s) h =
      by_test (all w (b ∷ s) ≡ false) (w b)
      (λ t. rw t (all_out s (omega (arith, front_in w b s t))))
      (λ t. rw t)

  module _ (s : List ℕ) where
    pub all_by_front : {r : ℕ} → r ≡ 0 + front w (drop 0 s) → eqb r (length s) ≡ all w s
    all_by_front {r} e =
        by_test (eqb r (length s) ≡ all w s) (eqb r (length s))
        (λ t. t ∙ sym (all_in s (omega (arith, eqb-true r (length s) t))))
        (λ t. t ∙ sym (all_out s (omega (arith, eqb-false r (length s) t, front_length w s))))

    -- a whole block that is left is not of the set; the last block says the rest
    module _ {i : ℕ} (b : Blocks w s 0 i) where
      pub block_left : i + 16 ≤ length s → false ≡ all w s
      block_left h = sym (all_out s (omega (arith, b.counted, b.stops h)))

      pub by_last : length s < i + 16 → 16 ≤ length s → {r : Bool} → r ≡ leb 16 (front w (drop (length s - 16) s)) → r ≡ all w s
      by_last h l {r} e =
          e ∙ by_test (leb 16 (front w (drop (length s - 16) s)) ≡ all w s) (leb 16 (front w (drop (length s - 16) s)))
          (λ t. t ∙ sym (all_in s (omega (arith, counted_last w s 0 i 16 b.counted (omega arith) (omega arith) (leb-true 16 (front w (drop (length s - 16) s)) t)))))
          (λ t.
          t
          ∙ sym (all_out s (omega (arith, counted_within w s 0 i (length s - 16) b.counted (omega arith) (omega (arith, b.inside)), leb-false 16 (front w (drop (length s - 16) s)) t))))

front_same : (w v : ℕ → Bool) → ((b : ℕ) → w b ≡ v b) → (s : List ℕ) → front w s ≡ front v s
unfolding front
front_same w v f [] = refl
front_same w v f (b ∷ s) =
    by_test (front w (b ∷ s) ≡ front v (b ∷ s)) (w b)
    (λ e. omega (arith, front_in w b s e, front_in v b s (sym (f b) ∙ e), front_same w v f s))
    (λ e. omega (arith, front_out w b s e, front_out v b s (sym (f b) ∙ e)))

within_one : (x b : ℕ) → within (x, x) b ≡ eqb b x
within_one x b =
    by_test (within (x, x) b ≡ eqb b x) (eqb b x)
    (λ e. let z = eqb-true b x e in inside x x b (omega (arith, z)) (omega (arith, z)) ∙ sym e)
    (λ e.
    by_test (within (x, x) b ≡ eqb b x) (leb x b)
    (λ t. over x x b (omega (arith, eqb-false b x e, leb-true x b t)) ∙ sym e)
    (λ t. under x x b (leb-false x b t) ∙ sym e))

-- the bytes up to the first x are those that are not within x and x
pub place_run : (x : ℕ) (s : List ℕ) → front (λ b. not (within (x, x) b)) s ≡ place x s
place_run x s = front_same (λ b. not (within (x, x) b)) (λ b. not (eqb b x)) (λ b. ap not (within_one x b)) s

-- what `all_within` may use
pub ruleset all_cases = (all_by_front, block_left, by_last)
