-- UTF-8 as a table of bytes. RFC 3629, section 4, "Syntax of UTF-8 Byte Sequences":
--   UTF8-octets = *( UTF8-char ),  UTF8-char = UTF8-1 / UTF8-2 / UTF8-3 / UTF8-4,  UTF8-tail = %x80-BF
-- and a row below for each way to write a character. No two rows begin with the same byte.
use Rattle.std.specs.Prelude.{ℕ, Bool, true, false, ◌&&◌, List, [], ◌∷◌}
use Rattle.std.proofs.Math.Option.{Option, none, some}
use Rattle.text.specs.Bytes.{within}

-- the bytes from one to another, both included
abbrev pub Bytes : Type 0
Bytes = ℕ × ℕ

abbrev pub tail : Bytes
tail = (0x80, 0xBF)

-- a character: its first byte, and the bytes after it
abbrev pub Row : Type 0
Row = Bytes × List Bytes

abbrev pub table : List Row
table =
    ((0x00, 0x7F), [])
    ∷ ((0xC2, 0xDF), tail ∷ [])
    ∷ ((0xE0, 0xE0), (0xA0, 0xBF) ∷ tail ∷ [])
    ∷ ((0xE1, 0xEC), tail ∷ tail ∷ [])
    ∷ ((0xED, 0xED), (0x80, 0x9F) ∷ tail ∷ [])
    ∷ ((0xEE, 0xEF), tail ∷ tail ∷ [])
    ∷ ((0xF0, 0xF0), (0x90, 0xBF) ∷ tail ∷ tail ∷ [])
    ∷ ((0xF1, 0xF3), tail ∷ tail ∷ tail ∷ [])
    ∷ ((0xF4, 0xF4), (0x80, 0x8F) ∷ tail ∷ tail ∷ [])
    ∷ []

-- what has to follow a first byte, by the rows given
abbrev pub after : List Row → ℕ → Option (List Bytes)
after [] b = none
after (row ∷ rows) b = elim (within row.0 b) [ true ↦ some row.1 | false ↦ after rows b ]

-- the text, where the bytes rs have to come first to end a character that was begun
unfoldable pub rest : List Bytes → List ℕ → Bool
rest [] [] = true
rest (r ∷ rs) [] = false
rest [] (b ∷ s) = elim (after table b) [ none ↦ false | some rs ↦ rest rs s ]
rest (r ∷ rs) (b ∷ s) = within r b && rest rs s

unfoldable pub utf8 : List ℕ → Bool
unfolding rest
utf8 s = rest [] s
