-- Two texts of one length compared as one text of flags, so that what is proved of runs of bytes serves. Assumes nothing.
use Prim.Native.Nat.{ℕ, zero, suc, ◌+◌, ◌-◌, ◌<◌, ◌≤◌}
use mathlib.Core.Path.{◌≡◌, refl, sym, ap, ◌∙◌}
use mathlib.Core.Bool.{Bool, false}
use mathlib.Core.List.{List, [], ◌∷◌}
use native.Mathlib.Omega.{arith}
use lib.ListN.{length, get_or, drop}
use lib.Dec.{leb, eqb}
use Rattle.text.proofs.Same.{as_written, other_length}
use Rattle.text.specs.Bytes.{all, front, same}
use lib.Bits.{bit_or}
use Rattle.text.specs.Private.{Flags, Blocks, differ_of, differences, alike}
use borrow.Author.Tests.{eq-eqb, ne_eqb}
use Rattle.text.proofs.All.{block_left, by_last}
use Rattle.text.proofs.Flags.{Gathered, gathered_more, gathered_none, gathered_all}
use Rattle.text.proofs.Tests.{taken, left, by_test}

-- the flag of two bytes
pub differ_flags : (a b : ℕ) → Flags alike (differ_of a b) (differ_of a b)
differ_flags a b = of_flag (differ_of a b) few
  where
    few : differ_of a b ≤ 1
    few =
        by_test (differ_of a b ≤ 1) (eqb a b)
        (λ e. omega (arith, taken {A = ℕ} {b = eqb a b} 0 1 e))
        (λ e. omega (arith, left {A = ℕ} {b = eqb a b} 0 1 e))

    of_flag : (d : ℕ) → d ≤ 1 → Flags alike d d
    of_flag d l = record { few = l; zero = λ e. eq-eqb d 0 e; one = λ h. ne_eqb d 0 h }

pub differences_length : (p s : List ℕ) → length s ≡ length p → length (differences p s) ≡ length s
unfolding differences
differences_length [] [] h = refl
differences_length [] (b ∷ s) h = absurd (omega arith)
differences_length (a ∷ p) [] h = refl
differences_length (a ∷ p) (b ∷ s) h = ap suc (differences_length p s (omega arith))

pub differences_at : (p s : List ℕ) (i : ℕ) → length s ≡ length p → i < length s → get_or (differences p s) i 0 ≡ differ_of (get_or p i 0) (get_or s i 0)
unfolding differences
differences_at [] [] i h k = absurd (omega arith)
differences_at [] (b ∷ s) i h k = absurd (omega arith)
differences_at (a ∷ p) [] i h k = absurd (omega arith)
differences_at (a ∷ p) (b ∷ s) zero h k = refl
differences_at (a ∷ p) (b ∷ s) (suc i) h k = differences_at p s i (omega arith) (omega arith)

alike_differ : (a b : ℕ) → alike (differ_of a b) ≡ eqb a b
alike_differ a b =
    by_test (alike (differ_of a b) ≡ eqb a b) (eqb a b)
    (λ e. ap alike (taken {A = ℕ} {b = eqb a b} 0 1 e) ∙ sym e)
    (λ e. ap alike (left {A = ℕ} {b = eqb a b} 0 1 e) ∙ sym e)

pub all_alike : (p s : List ℕ) → length s ≡ length p → all alike (differences p s) ≡ same p s
unfolding all differences same
all_alike [] [] h = refl
all_alike [] (b ∷ s) h = absurd (omega arith)
all_alike (a ∷ p) [] h = absurd (omega arith)
all_alike (a ∷ p) (b ∷ s) h = rw (alike_differ a b, all_alike p s (omega arith)) refl

-- one flag more of two texts
pub alike_more : (p s : List ℕ) {i k z r : ℕ} → Gathered alike (differences p s) i k z → r ≡ differ_of (get_or p (i + k) 0) (get_or s (i + k) 0)
    → length s ≡ length p → i + k < length s → Gathered alike (differences p s) i (k + 1) (bit_or z r)
alike_more p s {i} {k} {z} {r} g e l h =
    gathered_more g
    (rw (e, differences_at p s (i + k) l h) (differ_flags (get_or p (i + k) 0) (get_or s (i + k) 0)))
    (omega (arith, differences_length p s l))

-- the texts are not the same where a whole block is left; else the last block says the rest
module _ (p s : List ℕ) (h : length s ≡ length p) {i : ℕ} (b : Blocks alike (differences p s) 0 i) where
  pub blocks_inside : i ≤ length s
  blocks_inside = omega (arith, b.inside, differences_length p s h)

  pub block_unlike : i + 16 ≤ length s → false ≡ same p s
  block_unlike l = block_left alike (differences p s) b (omega (arith, differences_length p s h)) ∙ all_alike p s h

  pub last_alike : length s < i + 16 → 16 ≤ length s → {r : Bool} → r ≡ leb 16 (front alike (drop (length s - 16) (differences p s))) → r ≡ same p s
  last_alike k l e =
      let z = differences_length p s h in
      by_last alike (differences p s) b (omega (arith, z)) (omega (arith, z)) (e ∙ ap (λ (n : ℕ). leb 16 (front alike (drop (n - 16) (differences p s)))) (sym z))
      ∙ all_alike p s h

-- what `same_block` and `equal` may use
pub ruleset alike_cases = (gathered_none, alike_more, gathered_all)

pub ruleset equal_cases = (as_written, other_length, blocks_inside, block_unlike, last_alike)
