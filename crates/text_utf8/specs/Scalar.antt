-- UTF-8 as the encoding of characters. RFC 3629, section 3, "UTF-8 definition": the table of character number ranges with the
-- octet sequence of each. A text is a run of encoded characters, each in the one form that its range has.
use Rattle.std.specs.Prelude.{ℕ, ◌+◌, ◌/◌, ◌%◌, ◌<◌, ◌≤◌, true, false, List, [], ◌∷◌, ◌++◌, ltb}

-- a character number: 0 to 10FFFF without the surrogates D800 to DFFF
pub data Scalar (c : ℕ) : Type 0 where
  low : c < 0xD800 → Scalar c
  high : 0xE000 ≤ c → c ≤ 0x10FFFF → Scalar c

-- the lowest six bits of c as a byte 10xxxxxx
abbrev pub six : ℕ → ℕ
six c = 0x80 + c % 64

unfoldable pub encode : ℕ → List ℕ
encode c = elim (ltb c 0x80) [
  | true ↦ c ∷ []
  | false ↦ elim (ltb c 0x800) [
    | true ↦ (0xC0 + c / 64) ∷ six c ∷ []
    | false ↦ elim (ltb c 0x10000) [
      | true ↦ (0xE0 + c / 4096) ∷ six (c / 64) ∷ six c ∷ []
      | false ↦ (0xF0 + c / 262144) ∷ six (c / 4096) ∷ six (c / 64) ∷ six c ∷ []
    ]
  ]
]

pub data Text : List ℕ → Type 0 where
  end : Text []
  char : (c : ℕ) {s : List ℕ} → Scalar c → Text s → Text (encode c ++ s)
