-- Texts compared byte by byte, as a loop meets them. Assumes nothing.
use Prim.Native.Nat.{ℕ, ◌+◌, ◌<◌, ◌≤◌}
use mathlib.Core.Path.{◌≡◌, refl, sym, ap, ◌∙◌}
use mathlib.Core.Bool.{Bool, true, false, ◌&&◌}
use mathlib.Core.List.{List, [], ◌∷◌, map}
use native.Mathlib.Omega.{arith}
use lib.ListN.{length, get_or, drop, length-map}
use lib.Dec.{eqb}
use borrow.Author.Tests.{eq-eqb, ne_eqb, eqb-true}
use Rattle.text.specs.Bytes.{same, begins, read}
use Rattle.text.specs.declared.Case.TheVariants.{AsWritten}
use Rattle.text.proofs.Tests.{never, and_none, and_left, and_right}
use Rattle.text.proofs.Walk.{rest_at, rest_end}

pub as_written : (s : List ℕ) → map (read AsWritten) s ≡ s
as_written [] = refl
as_written (b ∷ s) = ap (λ (l : List ℕ). b ∷ l) (as_written s)

-- a text that is too short does not begin with the pattern
pub too_short : (p s : List ℕ) → length s < length p → begins p s ≡ false
unfolding begins
too_short [] s h = absurd (omega arith)
too_short (x ∷ p) [] h = refl
too_short (x ∷ p) (b ∷ s) h = rw (too_short p s (omega arith)) (and_none (eqb x b))

-- of texts of one length, the one that begins with the other is the same
pub same_begins : (p s : List ℕ) → length s ≡ length p → begins p s ≡ same p s
unfolding begins same
same_begins [] [] h = refl
same_begins [] (b ∷ s) h = absurd (omega arith)
same_begins (x ∷ p) [] h = refl
same_begins (x ∷ p) (b ∷ s) h = ap (λ (c : Bool). eqb x b && c) (same_begins p s (omega arith))

pub other_length : (p s : List ℕ) → (length s ≡ length p → ⊥) → same p s ≡ false
unfolding same
other_length [] [] h = absurd (h refl)
other_length [] (b ∷ s) h = refl
other_length (x ∷ p) [] h = refl
other_length (x ∷ p) (b ∷ s) h = rw (other_length p s (λ e. h (omega arith))) (and_none (eqb x b))

module _ (f : ℕ → ℕ) (p s : List ℕ) where
  -- the first i bytes agree
  abbrev pub Agree : ℕ → Type 0
  Agree i = begins p (map f s) ≡ begins (drop i p) (map f (drop i s))

  module _ (i : ℕ) where
    pub agree_more : i < length p → i < length s → f (get_or s i 0) ≡ get_or p i 0 → Agree i → Agree (i + 1)
    unfolding begins
    agree_more h k e a = a ∙ rw (rest_at p i h, rest_at s i k, e, eq-eqb (get_or p i 0) (get_or p i 0) refl)

    pub agree_fail : i < length p → i < length s → (f (get_or s i 0) ≡ get_or p i 0 → ⊥) → Agree i → false ≡ begins p (map f s)
    unfolding begins
    agree_fail h k e a = sym (a ∙ fails)
      where
        fails : begins (drop i p) (map f (drop i s)) ≡ false
        fails = rw (rest_at p i h, rest_at s i k, ne_eqb (get_or p i 0) (f (get_or s i 0)) (λ q. e (sym q)))

    pub agree_end : length p ≤ i → Agree i → true ≡ begins p (map f s)
    unfolding begins
    agree_end h a = sym (a ∙ ap (λ (l : List ℕ). begins l (map f (drop i s))) (rest_end p i h))

  pub short : length s < length p → false ≡ begins p (map f s)
  short h = sym (too_short p (map f s) (omega (arith, length-map s f)))

  pub whole : length s ≡ length p → begins p (map f s) ≡ same p (map f s)
  whole h = same_begins p (map f s) (omega (arith, length-map s f))

  pub unequal : (length s ≡ length p → ⊥) → false ≡ same p (map f s)
  unequal h = sym (other_length p (map f s) (λ e. h (omega (arith, length-map s f))))

-- the test says what it means
pub same_true : (p s : List ℕ) → same p s ≡ true → p ≡ s
unfolding same
same_true [] [] e = refl
same_true [] (b ∷ s) e = absurd (never e)
same_true (x ∷ p) [] e = absurd (never e)
same_true (x ∷ p) (b ∷ s) e = cc (eqb-true x b (and_left (eqb x b) (same p s) e), same_true p s (and_right (eqb x b) (same p s) e))

pub same_refl : (s : List ℕ) → same s s ≡ true
unfolding same
same_refl [] = refl
same_refl (b ∷ s) = rw (eq-eqb b b refl, same_refl s)

-- what `begins_so` and `equal_so` may use
pub ruleset agree_cases = (short, agree_more, agree_fail, agree_end)

pub ruleset same_cases = (whole, unequal)
