-- Products of eight bytes side by side in one word. Assumes nothing.
use Prim.Native.Nat.{ℕ, ◌+◌, ◌*◌, ◌/◌, ◌%◌, ◌<◌}
use mathlib.Core.Path.{◌≡◌, ap, ◌∙◌}
use native.Mathlib.Omega.{arith}
use native.Mathlib.Nat.{mod-eq_of_lt}
use lib.Bits.{bit_and, and_block, and_mask}
use Rattle.lookup_slots.specs.Private.{eight, adds, Masks, Polys}

-- one field of 16 bits that keeps 8, and one of 32 that keeps 16
field : (a b r : ℕ) → r < 65536 → bit_and (a * 65536 + r) (b * 65536 + 255) ≡ bit_and a b * 65536 + r % 256
field a b r h = and_block 16 a b r 255 h (omega arith) ∙ ap (λ (z : ℕ). bit_and a b * 65536 + z) (and_mask r 8)

half : (a b r : ℕ) → r < 4294967296 → bit_and (a * 4294967296 + r) (b * 4294967296 + 65535) ≡ bit_and a b * 4294967296 + r % 65536
half a b r h = and_block 32 a b r 65535 h (omega arith) ∙ ap (λ (z : ℕ). bit_and a b * 4294967296 + z) (and_mask r 16)

abbrev fields : ℕ → ℕ → ℕ → ℕ → ℕ
fields p q r s = ((s * 65536 + r) * 65536 + q) * 65536 + p

four_fields : (p q r s : ℕ) → p < 65536 → q < 65536 → r < 65536
    → bit_and (fields p q r s) 71777214294589695 ≡ fields (p % 256) (q % 256) (r % 256) (s % 256)
four_fields p q r s h k l =
    field ((s * 65536 + r) * 65536 + q) ((255 * 65536 + 255) * 65536 + 255) p h
    ∙ ap (λ (z : ℕ). z * 65536 + p % 256)
    (field (s * 65536 + r) (255 * 65536 + 255) q k
    ∙ ap (λ (z : ℕ). z * 65536 + q % 256) (field s 255 r l ∙ ap (λ (z : ℕ). z * 65536 + r % 256) (and_mask s 8)))

two_halves : (p q : ℕ) → p < 4294967296 → bit_and (q * 4294967296 + p) 281470681808895 ≡ q % 65536 * 4294967296 + p % 65536
two_halves p q h = half q 65535 p h ∙ ap (λ (z : ℕ). z * 4294967296 + p % 65536) (and_mask q 16)

low_byte : (p q : ℕ) → q < 256 → (p * 256 + q) % 256 ≡ q
low_byte p q h = omega arith

same_fields : {p q r s t u v w : ℕ} → p ≡ t → q ≡ u → r ≡ v → s ≡ w → fields p q r s ≡ fields t u v w
same_fields e f g h = omega arith

module _ {a b c d e f g h : ℕ} (a< : a < 256) (b< : b < 256) (c< : c < 256) (d< : d < 256) (e< : e < 256) (f< : f < 256) (g< : g < 256) (h< : h < 256) where
  evens_of : {x y : ℕ} → x ≡ eight a b c d e f g h → y ≡ bit_and x 71777214294589695 → y ≡ fields a c e g
  unfolding eight
  evens_of {x} {y} k l =
      let z : x ≡ fields (b * 256 + a) (d * 256 + c) (f * 256 + e) (h * 256 + g) = omega arith in
      l ∙ ap (λ (n : ℕ). bit_and n 71777214294589695) z
      ∙ four_fields (b * 256 + a) (d * 256 + c) (f * 256 + e) (h * 256 + g) (omega arith) (omega arith) (omega arith)
      ∙ same_fields (low_byte b a a<) (low_byte d c c<) (low_byte f e e<) (low_byte h g g<)

  odds_of : {x y : ℕ} → x ≡ eight a b c d e f g h → y ≡ bit_and (x / 256) 71777214294589695 → y ≡ fields b d f h
  unfolding eight
  odds_of {x} {y} k l =
      let z : x / 256 ≡ fields (c * 256 + b) (e * 256 + d) (g * 256 + f) h = omega arith in
      l ∙ ap (λ (n : ℕ). bit_and n 71777214294589695) z
      ∙ four_fields (c * 256 + b) (e * 256 + d) (g * 256 + f) h (omega arith) (omega arith) (omega arith)
      ∙ same_fields (low_byte c b b<) (low_byte e d d<) (low_byte g f f<) (mod-eq_of_lt h<)

-- pairs side by side
module _ {p q r s : ℕ} (p< : p < 65536) (q< : q < 65536) (r< : r < 65536) (s< : s < 65536) where
  low_of : {x y : ℕ} → x ≡ fields p q r s → y ≡ bit_and x 281470681808895 → y ≡ r * 4294967296 + p
  low_of {x} {y} k l =
      let z : x ≡ (s * 65536 + r) * 4294967296 + (q * 65536 + p) = omega arith in
      let w : y ≡ (s * 65536 + r) % 65536 * 4294967296 + (q * 65536 + p) % 65536 =
      l ∙ ap (λ (n : ℕ). bit_and n 281470681808895) z ∙ two_halves (q * 65536 + p) (s * 65536 + r) (omega arith)
      in
      omega arith

  high_of : {x y : ℕ} → x ≡ fields p q r s → y ≡ bit_and (x / 65536) 281470681808895 → y ≡ s * 4294967296 + q
  high_of {x} {y} k l =
      let z : x / 65536 ≡ s * 4294967296 + (r * 65536 + q) = omega arith in
      let w : y ≡ s % 65536 * 4294967296 + (r * 65536 + q) % 65536 =
      l ∙ ap (λ (n : ℕ). bit_and n 281470681808895) z ∙ two_halves (r * 65536 + q) s (omega arith)
      in
      omega arith

module _ {x u v m n : ℕ} (U : Masks x 71777214294589695 u) (W : Masks (x / 256) 71777214294589695 v)
    (M : Masks (u * 33 + v) 281470681808895 m) (N : Masks ((u * 33 + v) / 65536) 281470681808895 n) where
  joined : {a b c d e f g h : ℕ} → a < 256 → b < 256 → c < 256 → d < 256 → e < 256 → f < 256 → g < 256 → h < 256 → x ≡ eight a b c d e f g h
      → (m * 1089 + n) % 4294967296 * 1185921 + (m * 1089 + n) / 4294967296 ≡ adds a b c d e f g h
  unfolding adds
  joined {a} {b} {c} {d} {e} {f} {g} {h} a< b< c< d< e< f< g< h< k =
      let k₁ : u ≡ fields a c e g = evens_of a< b< c< d< e< f< g< h< k U.is in
      let k₂ : v ≡ fields b d f h = odds_of a< b< c< d< e< f< g< h< k W.is in
      let k₃ : u * 33 + v ≡ fields (a * 33 + b) (c * 33 + d) (e * 33 + f) (g * 33 + h) = omega arith in
      let p₁ : a * 33 + b < 65536 = omega arith in
      let p₂ : c * 33 + d < 65536 = omega arith in
      let p₃ : e * 33 + f < 65536 = omega arith in
      let p₄ : g * 33 + h < 65536 = omega arith in
      let k₄ : m ≡ (e * 33 + f) * 4294967296 + (a * 33 + b) = low_of p₁ p₂ p₃ p₄ k₃ M.is in
      let k₅ : n ≡ (g * 33 + h) * 4294967296 + (c * 33 + d) = high_of p₁ p₂ p₃ p₄ k₃ N.is in
      last (a * 33 + b) (c * 33 + d) (e * 33 + f) (g * 33 + h) p₁ p₂ p₃ p₄ k₄ k₅ ∙ omega arith
    where
      last : (p q r s : ℕ) → p < 65536 → q < 65536 → r < 65536 → s < 65536 → m ≡ r * 4294967296 + p → n ≡ s * 4294967296 + q
          → (m * 1089 + n) % 4294967296 * 1185921 + (m * 1089 + n) / 4294967296 ≡ (p * 1089 + q) * 1185921 + (r * 1089 + s)
      last p q r s p< q< r< s< k l =
          let z : m * 1089 + n ≡ (r * 1089 + s) * 4294967296 + (p * 1089 + q) = omega arith in
          let y : (m * 1089 + n) % 4294967296 ≡ p * 1089 + q = omega arith in
          let w : (m * 1089 + n) / 4294967296 ≡ r * 1089 + s = omega arith in
          omega arith

  pub polys : Polys x ((m * 1089 + n) % 4294967296 * 1185921 + (m * 1089 + n) / 4294967296)
  polys = record { small = omega (arith, M.small, N.small); is = joined }

pub eight_is : {a b c d e f g h a' b' c' d' e' f' g' h' : ℕ} → a ≡ a' → b ≡ b' → c ≡ c' → d ≡ d' → e ≡ e' → f ≡ f' → g ≡ g' → h ≡ h'
    → a + b * 256 + c * 65536 + d * 16777216 + e * 4294967296 + f * 1099511627776 + g * 281474976710656 + h * 72057594037927936
    ≡ eight a' b' c' d' e' f' g' h'
unfolding eight
eight_is p q r s t u v w = omega arith
