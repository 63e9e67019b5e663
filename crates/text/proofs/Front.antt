-- The bytes of a set at the front of a text, as a loop counts them. Assumes nothing.
use Prim.Native.Nat.{ℕ, zero, suc, ◌+◌, ◌-◌, ◌<◌, ◌≤◌}
use mathlib.Core.Path.{◌≡◌, refl, ap, ◌∙◌}
use mathlib.Core.Bool.{Bool, true, false}
use mathlib.Core.List.{List, [], ◌∷◌}
use native.Mathlib.Omega.{arith}
use lib.ListN.{length, get_or, drop, length-drop}
use lib.Seq.{drop-drop}
use Rattle.text.specs.Bytes.{front}
pub use Rattle.text.specs.Private.{Counted}
use Rattle.text.proofs.Tests.{taken, left, by_test}
use Rattle.text.proofs.Walk.{rest_at, rest_end}

module _ (w : ℕ → Bool) (b : ℕ) (s : List ℕ) where
  pub front_in : w b ≡ true → front w (b ∷ s) ≡ suc (front w s)
  unfolding front
  front_in e = taken _ _ e

  pub front_out : w b ≡ false → front w (b ∷ s) ≡ 0
  unfolding front
  front_out e = left _ _ e

pub front_length : (w : ℕ → Bool) (s : List ℕ) → front w s ≤ length s
unfolding front
front_length w [] = omega arith
front_length w (b ∷ s) = by_test (front w (b ∷ s) ≤ length (b ∷ s)) (w b) (λ e. omega (arith, front_in w b s e, front_length w s)) (λ e. omega (arith, front_out w b s e))

-- a byte that is not of the set bounds their number; one that is, next to them, makes it larger
module _ (w : ℕ → Bool) where
  pub front_most : (s : List ℕ) (k : ℕ) → k < length s → w (get_or s k 0) ≡ false → front w s ≤ k
  front_most [] k h e = absurd (omega arith)
  front_most (b ∷ s) zero h e = omega (arith, front_out w b s e)
  front_most (b ∷ s) (suc k) h e =
      by_test (front w (b ∷ s) ≤ suc k) (w b)
      (λ t. omega (arith, front_in w b s t, front_most s k (omega arith) e))
      (λ t. omega (arith, front_out w b s t))

  pub front_least : (s : List ℕ) (k : ℕ) → k < length s → w (get_or s k 0) ≡ true → k ≤ front w s → k + 1 ≤ front w s
  front_least [] k h e l = absurd (omega arith)
  front_least (b ∷ s) zero h e l = omega (arith, front_in w b s e)
  front_least (b ∷ s) (suc k) h e l =
      by_test (suc k + 1 ≤ front w (b ∷ s)) (w b)
      (λ t. let f = front_in w b s t in omega (arith, f, front_least s k (omega arith) e (omega (arith, f))))
      (λ t. absurd (omega (arith, front_out w b s t)))

  -- the bytes after some of them
  pub front_after : (s : List ℕ) (k : ℕ) → k ≤ front w s → front w s ≡ k + front w (drop k s)
  unfolding front
  front_after s zero h = omega arith
  front_after [] (suc k) h = absurd (omega arith)
  front_after (b ∷ s) (suc k) h =
      by_test (front w (b ∷ s) ≡ suc k + front w (drop k s)) (w b)
      (λ t. let f = front_in w b s t in omega (arith, f, front_after s k (omega (arith, f))))
      (λ t. absurd (omega (arith, front_out w b s t)))

module _ (w : ℕ → Bool) (s : List ℕ) (at i : ℕ) where
  none_left : length s ≤ i → front w (drop i s) ≡ 0
  unfolding front
  none_left h = rw (rest_end s i h)

  stops : i < length s → w (get_or s i 0) ≡ false → front w (drop i s) ≡ 0
  stops h f = ap (front w) (rest_at s i h) ∙ front_out w _ _ f

  goes : i < length s → w (get_or s i 0) ≡ true → front w (drop i s) ≡ suc (front w (drop (i + 1) s))
  goes h f = ap (front w) (rest_at s i h) ∙ front_in w _ _ f

  pub counted_end : length s ≤ i → Counted w s at i → i ≡ at + front w (drop at s)
  counted_end h e = omega (arith, none_left h)

  pub counted_stop : i < length s → w (get_or s i 0) ≡ false → Counted w s at i → i ≡ at + front w (drop at s)
  counted_stop h f e = omega (arith, stops h f)

  pub counted_more : i < length s → w (get_or s i 0) ≡ true → Counted w s at i → Counted w s at (i + 1)
  counted_more h f e = omega (arith, goes h f)

-- from a place between them on as from the first
pub counted_within : (w : ℕ → Bool) (s : List ℕ) (from i j : ℕ) → Counted w s from i → from ≤ j → j ≤ i → Counted w s from j
counted_within w s from i j e h l =
    let f = front_after w (drop from s) (j - from) (omega (arith, e)) in
    let z : from + (j - from) ≡ j = omega arith in
    let d : drop (j - from) (drop from s) ≡ drop j s = drop-drop (j - from) from s ∙ ap (λ (k : ℕ). drop k s) z in
    omega (arith, rw d at f)

-- so many bytes of the set more
pub counted_on : (w : ℕ → Bool) (s : List ℕ) (from i k : ℕ) → Counted w s from i → k ≤ front w (drop i s) → Counted w s from (i + k)
counted_on w s from i k e h = omega (arith, rw (drop-drop k i s) at (front_after w (drop i s) k h))

-- the last k bytes are of the set, and the bytes before them
pub counted_last : (w : ℕ → Bool) (s : List ℕ) (from i k : ℕ) → Counted w s from i → from + k ≤ length s → length s ≤ i + k
    → k ≤ front w (drop (length s - k) s) → length s ≡ from + front w (drop from s)
counted_last w s from i k e h l f =
    omega (arith, counted_within w s from i (length s - k) e (omega arith) (omega arith), front_length w (drop (length s - k) s), length-drop (length s - k) s)

-- bytes of a smaller set at the front are of the set
narrow : (w v : ℕ → Bool) → ((b : ℕ) → v b ≡ true → w b ≡ true) → (s : List ℕ) → front w s ≡ front v s + front w (drop (front v s) s)
unfolding front
narrow w v f [] = refl
narrow w v f (b ∷ s) =
    by_test (front w (b ∷ s) ≡ front v (b ∷ s) + front w (drop (front v (b ∷ s)) (b ∷ s))) (v b)
    (λ e. rw (front_in v b s e, front_in w b s (f b e)) (omega (arith, narrow w v f s)))
    (λ e. rw (front_out v b s e) (omega arith))

pub counted_narrow : (w v : ℕ → Bool) → ((b : ℕ) → v b ≡ true → w b ≡ true) → (s : List ℕ) (from : ℕ) {i : ℕ} → i ≡ from + front v (drop from s) → Counted w s from i
counted_narrow w v f s from {i} e =
    let z : drop (front v (drop from s)) (drop from s) ≡ drop i s = rw (e) (drop-drop (front v (drop from s)) from s) in
    omega (arith, rw (z) at (narrow w v f (drop from s)))
