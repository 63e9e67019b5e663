-- Flags of bytes, gathered by a loop over a block. Assumes nothing.
use Prim.Native.Nat.{ℕ, zero, suc, ◌+◌, ◌-◌, ◌<◌, ◌≤◌}
use mathlib.Core.Path.{◌≡◌, refl, sym, ◌∙◌}
use mathlib.Core.Bool.{Bool, not}
use mathlib.Core.List.{List}
use native.Mathlib.Omega.{arith}
use lib.ListN.{length, get_or, drop, length-drop}
use lib.Seq.{get_or-drop}
use lib.Dec.{leb, eqb}
use lib.Bits.{bit_or, or_zero_l, or_add_and, and_le_l, and_le_r}
use borrow.Author.Tests.{ne_eqb, le-leb, lt-leb}
use Rattle.text.specs.Bytes.{front}
use Rattle.text.specs.Private.{Flags}
use Rattle.text.proofs.Front.{front_most, front_least}

-- the gathered flag is 0 exactly if both are
module _ (a b : ℕ) where
  pub or_left : bit_or a b ≡ 0 → a ≡ 0
  or_left e = omega (arith, or_add_and a b, and_le_r a b)

  pub or_right : bit_or a b ≡ 0 → b ≡ 0
  or_right e = omega (arith, or_add_and a b, and_le_l a b)

-- the flag of a byte turned round
pub flags_not : {w : ℕ → Bool} {b r : ℕ} → Flags w b r → Flags (λ c. not (w c)) b (1 - r)
flags_not {w} {b} {r} f = record {
  few = omega arith;
  zero = λ e. rw (f.one (λ z. omega arith));
  one = λ h. rw (f.zero (turned r f.few h));
}
  where
    turned : (r : ℕ) → r ≤ 1 → (1 - r ≡ 0 → ⊥) → r ≡ 0
    turned zero l h = refl
    turned (suc r) l h = absurd (h (omega arith))

-- the flags of the first k bytes from a place on, gathered: 0 if those are of the set, and else one of them is not
pub record Gathered (w : ℕ → Bool) (s : List ℕ) (i k z : ℕ) : Type 0 where
  pub none : z ≡ 0 → k ≤ front w (drop i s)
  pub some : (z ≡ 0 → ⊥) → front w (drop i s) < k

module _ {w : ℕ → Bool} {s : List ℕ} {i : ℕ} where
  pub gathered_none : Gathered w s i 0 0
  gathered_none = record { none = λ e. omega arith; some = λ h. absurd (h refl) }

  pub gathered_more : {k z r : ℕ} → Gathered w s i k z → Flags w (get_or s (i + k) 0) r → i + k < length s → Gathered w s i (k + 1) (bit_or z r)
  gathered_more {k} {z} {r} g f h = record {
    none = λ e. front_least w (drop i s) k is_in (rw get_or-drop (f.zero (or_right z r e))) (g.none (or_left z r e));
    some = later z g;
  }
    where
      is_in : k < length (drop i s)
      is_in = omega (arith, length-drop i s)

      later : (z : ℕ) → Gathered w s i k z → (bit_or z r ≡ 0 → ⊥) → front w (drop i s) < k + 1
      later zero g n = omega (arith, front_most w (drop i s) k is_in (rw get_or-drop (f.one (λ e. n (or_zero_l r ∙ e)))))
      later (suc z) g n = omega (arith, g.some (λ e. omega arith))

  pub gathered_all : {k n : ℕ} (z : ℕ) → k ≡ n → Gathered w s i k z → eqb z 0 ≡ leb n (front w (drop i s))
  gathered_all {k} {n} zero e g = sym (le-leb n (front w (drop i s)) (omega (arith, g.none refl)))
  gathered_all {k} {n} (suc z) e g = ne_eqb (suc z) 0 (λ e. omega arith) ∙ sym (lt-leb n (front w (drop i s)) (omega (arith, g.some (λ e. omega arith))))

-- what `block` may use
pub ruleset gathered_cases = (gathered_none, gathered_more, gathered_all)
