-- What the functions behind the public one promise: the machine that reads a text by tables, and the quick test of a text without
-- characters of four bytes.
use Rattle.std.specs.Prelude.{ℕ, zero, suc, ◌+◌, ◌*◌, ◌%◌, ◌<◌, ◌≤◌, ◌≡◌, true, false, ◌&&◌, List, [], ◌∷◌, get_or, ltb, leb, eqb}
use Rattle.std.proofs.Math.Option.{Option, none, some}
use Rattle.text.specs.Bytes.{within}
use Rattle.text_utf8.specs.Utf8.{Bytes, tail, table, after}

-- what is to come to end the character begun, after one byte more; none where the text is wrong
abbrev pub next : Option (List Bytes) → ℕ → Option (List Bytes)
next none b = none
next (some []) b = after table b
next (some (r ∷ rs)) b = elim (within r b) [ true ↦ some rs | false ↦ none ]

-- where the bytes of RFC 3629's rows begin, and where they have ended
abbrev pub bounds : List ℕ
bounds = 0x80 ∷ 0x90 ∷ 0xA0 ∷ 0xC0 ∷ 0xC2 ∷ 0xE0 ∷ 0xE1 ∷ 0xED ∷ 0xEE ∷ 0xF0 ∷ 0xF1 ∷ 0xF4 ∷ 0xF5 ∷ []

abbrev pub not_above : List ℕ → ℕ → ℕ
not_above [] b = 0
not_above (x ∷ xs) b = elim (leb x b) [ true ↦ suc (not_above xs b) | false ↦ not_above xs b ]

-- the class of a byte: how many of the bounds are not above it
abbrev pub class_of : ℕ → ℕ
class_of b = not_above bounds b

-- what is to come in each state of the machine
abbrev pub states : List (Option (List Bytes))
states =
    some []
    ∷ none
    ∷ some (tail ∷ [])
    ∷ some ((0xA0, 0xBF) ∷ tail ∷ [])
    ∷ some ((0x80, 0x9F) ∷ tail ∷ [])
    ∷ some (tail ∷ tail ∷ [])
    ∷ some ((0x90, 0xBF) ∷ tail ∷ tail ∷ [])
    ∷ some (tail ∷ tail ∷ tail ∷ [])
    ∷ some ((0x80, 0x8F) ∷ tail ∷ tail ∷ [])
    ∷ []

abbrev pub state_in : List (Option (List Bytes)) → ℕ → Option (List Bytes)
state_in [] q = none
state_in (o ∷ os) zero = o
state_in (o ∷ os) (suc q) = state_in os q

-- the tables have the class of each byte, and what each state turns into by a byte of each class
pub record Tables (classes steps : List ℕ) : Type 0 where
  pub class : (b : ℕ) → b < 256 → get_or classes b 0 % 16 ≡ class_of b
  pub few : (q b : ℕ) → q < 9 → b < 256 → get_or steps (q * 16 + class_of b) 0 % 16 < 9
  pub step : (q b : ℕ) → q < 9 → b < 256 → state_in states (get_or steps (q * 16 + class_of b) 0 % 16) ≡ next (state_in states q) b

-- the bytes that may follow c in its character, where that has not four
abbrev pub follows : ℕ → Bytes
follows c = (elim (eqb c 0xE0) [ true ↦ 0xA0 | false ↦ 0x80 ], elim (eqb c 0xED) [ true ↦ 0x9F | false ↦ 0xBF ])

abbrev pub more : ℕ → List Bytes
more c = elim (ltb c 0xE0) [ true ↦ [] | false ↦ tail ∷ [] ]

-- what is to come after the last two bytes b and c of such a text
unfoldable pub come : ℕ → ℕ → List Bytes
come b c = elim (ltb c 0xC0 && ltb b 0xE0) [ true ↦ [] | false ↦ follows c ∷ more c ]

-- the byte d is right after them
abbrev pub Goes : ℕ → ℕ → ℕ → Type 0
Goes b c d = next (some (come b c)) d ≡ some (come c d)

-- each byte is, after the two before it; these two stand at the places from one up to another
pub record Plain (s : List ℕ) (i k : ℕ) : Type 0 where
  pub goes : (p : ℕ) → i ≤ p → p < k → Goes (get_or s p 0) (get_or s (p + 1) 0) (get_or s (p + 2) 0)
