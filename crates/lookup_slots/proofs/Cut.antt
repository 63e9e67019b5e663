-- The first bytes of a word, one to eight, at once: the word shifted so that zeros come before them. Assumes nothing.
use Prim.Native.Nat.{ℕ, zero, suc, ◌+◌, ◌-◌, ◌*◌, ◌/◌, ◌%◌, ◌^◌, ◌<◌, ◌≤◌}
use mathlib.Core.Path.{◌≡◌, sym, ap, ◌∙◌}
use mathlib.Core.List.{List, ◌++◌}
use native.Mathlib.Omega.{arith}
use native.Mathlib.Nat.{mul-add, mul_assoc, mod-add-div', mod-mod}
use lib.ListN.{length, get_or, drop, replicate}
use lib.Pow.{pow-add}
use Rattle.lookup_slots.specs.Private.{eight, word_at, Polys}
use Rattle.lookup_slots.proofs.Raw.{raw, raw_same, part, raw_part, part_power, part_zeros, part_eight}

-- zeros before bytes
zeros_bytes : (k : ℕ) (s : List ℕ) → ((j : ℕ) → get_or s j 0 < 256) → (j : ℕ) → get_or (replicate k 0 ++ s) j 0 < 256
zeros_bytes zero s bytes j = bytes j
zeros_bytes (suc k) s bytes zero = omega arith
zeros_bytes (suc k) s bytes (suc j) = zeros_bytes k s bytes j

-- the word moved up by one byte
module _ {a b c d e f g h : ℕ} (a< : a < 256) (b< : b < 256) (c< : c < 256) (d< : d < 256) (e< : e < 256) (f< : f < 256) (g< : g < 256) (h< : h < 256) where
  none_up : (eight a b c d e f g h * 1) % 18446744073709551616 ≡ eight a b c d e f g h
  unfolding eight
  none_up = omega arith

  one_up : (eight a b c d e f g h * 256) % 18446744073709551616 ≡ eight 0 a b c d e f g
  unfolding eight
  one_up = omega arith

moved : (x p : ℕ) → (x * (p * 256)) % 18446744073709551616 ≡ ((x * p) % 18446744073709551616 * 256) % 18446744073709551616
moved x p = rw (← mul_assoc x p 256) (omega arith)

zeros_word : (k : ℕ) (s : List ℕ) → ((j : ℕ) → get_or s j 0 < 256)
    → (word_at s 0 * 2 ^ (k * 8)) % 18446744073709551616 ≡ word_at (replicate k 0 ++ s) 0
zeros_word zero s bytes = none_up (bytes 0) (bytes 1) (bytes 2) (bytes 3) (bytes 4) (bytes 5) (bytes 6) (bytes 7)
zeros_word (suc k) s bytes =
    let z : suc k * 8 ≡ k * 8 + 8 = omega arith in
    let b = zeros_bytes k s bytes in
    rw (z, pow-add 2 (k * 8) 8) (moved (word_at s 0) (2 ^ (k * 8)))
    ∙ ap (λ (n : ℕ). (n * 256) % 18446744073709551616) (zeros_word k s bytes) ∙ one_up (b 0) (b 1) (b 2) (b 3) (b 4) (b 5) (b 6) (b 7)

power_mod : (h p q : ℕ) → (h * p + q) % 4294967296 ≡ ((h * (p % 4294967296)) % 4294967296 + q) % 4294967296
power_mod h p q =
    let z : h * (p % 4294967296 + p / 4294967296 * 4294967296) ≡ h * p = rw mod-add-div' in
    omega (arith, mul-add h (p % 4294967296) (p / 4294967296 * 4294967296), mul_assoc h (p / 4294967296) 4294967296)

module _ (s : List ℕ) (bytes : (j : ℕ) → get_or s j 0 < 256) {m : ℕ} (few : m ≤ 8) where
  part_polys : {y q : ℕ} → y ≡ (word_at s 0 * 2 ^ ((8 - m) * 8)) % 18446744073709551616 → Polys y q → part 0 m s ≡ q
  part_polys {y} {q} e p =
      let z : 8 - m + m ≡ 8 = omega arith in
      let b = zeros_bytes (8 - m) s bytes in
      sym (part_zeros (8 - m) m s) ∙ rw z (part_eight (replicate (8 - m) 0 ++ s))
      ∙ sym (p.is (b 0) (b 1) (b 2) (b 3) (b 4) (b 5) (b 6) (b 7) (e ∙ zeros_word (8 - m) s bytes))

  -- what is left to hash after the first bytes
  pub first_taken : (h : ℕ) {f y q : ℕ} → m ≤ length s → f ≡ (33 ^ m) % 4294967296 → y ≡ (word_at s 0 * 2 ^ ((8 - m) * 8)) % 18446744073709551616
      → Polys y q → raw h s % 4294967296 ≡ raw (((h * f) % 4294967296 + q) % 4294967296) (drop m s) % 4294967296
  first_taken h {f} {y} {q} l u e p =
      let z : part h m s ≡ h * 33 ^ m + q = part_power h 0 m s (omega arith) ∙ ap (λ (n : ℕ). h * 33 ^ m + n) (part_polys e p) in
      ap (λ (n : ℕ). n % 4294967296) (raw_part h m s l)
      ∙ raw_same (part h m s) (((h * f) % 4294967296 + q) % 4294967296) (drop m s)
      (rw (z, u) (power_mod h (33 ^ m) q ∙ sym (mod-mod ((h * (33 ^ m % 4294967296)) % 4294967296 + q) 4294967296)))
