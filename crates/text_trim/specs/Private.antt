-- What the functions behind the public ones promise.
use Rattle.std.specs.Prelude.{ℕ, ◌-◌, ◌≡◌, Bool, true, false, ◌&&◌, List, [], ◌∷◌, ◌++◌, leb, eqb, length, drop}
use Rattle.text.specs.Bytes.{begins}
use Rattle.text_trim.specs.Trim.{Chars, In, Ends, lead}

-- three bytes, if the last two, b and c, are x and y
abbrev pub three_if : ℕ → ℕ → ℕ → ℕ → ℕ
three_if x y b c = elim (begins (x ∷ y ∷ []) (b ∷ c ∷ [])) [ true ↦ 3 | false ↦ 0 ]

-- the last k bytes are one of the characters
abbrev pub ends_so : Chars → ℕ → List ℕ → Bool
ends_so cs k s = leb k (length s) && eqb (lead cs (drop (length s - k) s)) k

-- how many bytes the character has that stands at the end of a text: 0 where none does
pub data Last (cs : Chars) (s : List ℕ) (n : ℕ) : Type 0 where
  some : (e t : List ℕ) → In e cs → s ≡ t ++ e → n ≡ length e → Last cs s n
  none : Ends cs s → n ≡ 0 → Last cs s n
