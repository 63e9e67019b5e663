-- Trimming. SPEC 1 and 5: header names, values and rules are trimmed of the 25 characters of Unicode's White_Space. SPEC 5:
-- names inside Plural-Forms are trimmed of the six bytes 9 to 13 and 32, a charset label of 9, 10, 12, 13 and 32.
-- Characters stand in a text by their encodings (RFC 3629, section 3); the definitions take any list of encodings, and what lies between
-- need not be UTF-8.
use Rattle.std.specs.Prelude.{ℕ, zero, suc, ◌≡◌, true, false, List, [], ◌∷◌, ◌++◌, map, eqb, length, drop}
use Rattle.text.specs.Bytes.{begins}
unfoldable pub use Rattle.text_utf8.specs.Scalar.{encode}
use Rattle.text_trim.specs.declared.Set.{Set}
use Rattle.text_trim.specs.declared.Set.TheVariants.{WhiteSpace, Six, Label}
use Rattle.text.specs.declared.Stretch.{Stretch}

-- characters, each by the bytes of its encoding
abbrev pub Chars : Type 0
Chars = List (List ℕ)

abbrev pub white_space : Chars
white_space =
    map encode
    (9 ∷ 10 ∷ 11 ∷ 12 ∷ 13 ∷ 0x20 ∷ 0x85 ∷ 0xA0 ∷ 0x1680
    ∷ 0x2000 ∷ 0x2001 ∷ 0x2002 ∷ 0x2003 ∷ 0x2004 ∷ 0x2005 ∷ 0x2006 ∷ 0x2007 ∷ 0x2008 ∷ 0x2009 ∷ 0x200A
    ∷ 0x2028 ∷ 0x2029 ∷ 0x202F ∷ 0x205F ∷ 0x3000 ∷ [])

abbrev pub six : Chars
six = map encode (9 ∷ 10 ∷ 11 ∷ 12 ∷ 13 ∷ 0x20 ∷ [])

abbrev pub label : Chars
label = map encode (9 ∷ 10 ∷ 12 ∷ 13 ∷ 0x20 ∷ [])

abbrev pub chars_of : Set → Chars
chars_of WhiteSpace = white_space
chars_of Six = six
chars_of Label = label

-- one of the characters
pub data In (e : List ℕ) : Chars → Type 0 where
  here : {d : List ℕ} {cs : Chars} → e ≡ d → In e (d ∷ cs)
  there : {d : List ℕ} {cs : Chars} → In e cs → In e (d ∷ cs)

-- a run of them
pub data Run (cs : Chars) : List ℕ → Type 0 where
  end : Run cs []
  char : (e s : List ℕ) {t : List ℕ} → In e cs → t ≡ e ++ s → Run cs s → Run cs t

-- none of them stands at the front; none at the end
abbrev pub Starts : Chars → List ℕ → Type 0
Starts cs m = (e t : List ℕ) → In e cs → m ≡ e ++ t → ⊥

abbrev pub Ends : Chars → List ℕ → Type 0
Ends cs m = (e t : List ℕ) → In e cs → m ≡ t ++ e → ⊥

-- s is white, m and white, and m neither begins nor ends with white
pub record Trimmed (cs : Chars) (s m : List ℕ) : Type 0 where
  pub before : List ℕ
  pub after : List ℕ
  pub is : s ≡ before ++ m ++ after
  pub white_before : Run cs before
  pub white_after : Run cs after
  pub starts : Starts cs m
  pub ends : Ends cs m

-- the middle, computed. How many bytes the character has that stands at the front: 0 where none does
unfoldable pub lead : Chars → List ℕ → ℕ
lead [] s = 0
lead (e ∷ cs) s = elim (begins e s) [ true ↦ length e | false ↦ lead cs s ]

-- how many bytes of them stand at the front, where the first k bytes belong to one
unfoldable pub edge_after : Chars → ℕ → List ℕ → ℕ
edge_after cs k [] = 0
edge_after cs (suc k) (b ∷ s) = suc (edge_after cs k s)
edge_after cs zero (b ∷ s) = elim (lead cs (b ∷ s)) [ zero ↦ 0 | suc k ↦ suc (edge_after cs k s) ]

abbrev pub edge : Chars → List ℕ → ℕ
edge cs s = edge_after cs 0 s

-- without them at the front, and at the end: what stands before the first place from which all is white
unfoldable pub trim_start : Chars → List ℕ → List ℕ
trim_start cs s = drop (edge cs s) s

unfoldable pub trim_end : Chars → List ℕ → List ℕ
trim_end cs [] = []
trim_end cs (b ∷ s) = elim (eqb (edge cs (b ∷ s)) (suc (length s))) [ true ↦ [] | false ↦ b ∷ trim_end cs s ]

unfoldable pub trim : Chars → List ℕ → List ℕ
unfolding trim_start trim_end
trim cs s = trim_end cs (trim_start cs s)

-- the trimmed part of s: where it starts, and how long it is
pub record Trims (set : Set) (s : List ℕ) (p : Stretch) : Type 0 where
  pub start : p.start ≡ edge (chars_of set) s
  pub len : p.len ≡ length (trim (chars_of set) s)
