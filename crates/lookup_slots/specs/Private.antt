-- What the functions behind the public ones promise.
use Rattle.std.specs.Prelude.{ℕ, ◌+◌, ◌*◌, ◌^◌, ◌<◌, ◌≤◌, ◌≡◌, Bool, true, List, get_or}
use Rattle.std.specs.Int.Bits.{bit_and}
use Rattle.lookup_slots.specs.declared.Least.{Least}

-- eight bytes as a number, and what they add to a hash
unfoldable pub eight : ℕ → ℕ → ℕ → ℕ → ℕ → ℕ → ℕ → ℕ → ℕ
eight a b c d e f g h =
    a + b * 256 + c * 65536 + d * 16777216 + e * 4294967296 + f * 1099511627776 + g * 281474976710656 + h * 72057594037927936

unfoldable pub adds : ℕ → ℕ → ℕ → ℕ → ℕ → ℕ → ℕ → ℕ → ℕ
adds a b c d e f g h = a * 42618442977 + b * 1291467969 + c * 39135393 + d * 1185921 + e * 35937 + f * 1089 + g * 33 + h

abbrev pub word_at : List ℕ → ℕ → ℕ
word_at s i =
    eight (get_or s i 0) (get_or s (i + 1) 0) (get_or s (i + 2) 0) (get_or s (i + 3) 0) (get_or s (i + 4) 0) (get_or s (i + 5) 0) (get_or s (i + 6) 0)
    (get_or s (i + 7) 0)

-- the bytes from one place to another are 5 or more
abbrev pub Plain : List ℕ → ℕ → ℕ → Type 0
Plain s from to = (j : ℕ) → from ≤ j → j < to → 5 ≤ get_or s j 0

pub record Masks (x mask r : ℕ) : Type 0 where
  pub is : r ≡ bit_and x mask
  pub small : r ≤ mask

pub record Polys (x r : ℕ) : Type 0 where
  pub small : r < 2 ^ 63
  pub is : {a b c d e f g h : ℕ} → a < 256 → b < 256 → c < 256 → d < 256 → e < 256 → f < 256 → g < 256 → h < 256 → x ≡ eight a b c d e f g h
      → r ≡ adds a b c d e f g h

-- least bytes are all 5 or more
pub record Above (z : Least) : Type 0 where
  pub a : 5 ≤ z.a
  pub b : 5 ≤ z.b
  pub c : 5 ≤ z.c
  pub d : 5 ≤ z.d
  pub e : 5 ≤ z.e
  pub f : 5 ≤ z.f
  pub g : 5 ≤ z.g
  pub h : 5 ≤ z.h

pub record IsPlain (z : Least) (r : Bool) : Type 0 where
  pub told : r ≡ true → Above z
  pub kept : Above z → r ≡ true

-- they stay so exactly if eight bytes more are 5 or more
pub record Lowers (z : Least) (s : List ℕ) (i : ℕ) (r : Least) : Type 0 where
  pub before : Above r → Above z
  pub told : Above r → Plain s i (i + 8)
  pub kept : Above z → Plain s i (i + 8) → Above r
