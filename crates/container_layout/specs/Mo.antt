-- The layout of an MO file. GNU gettext manual, 10.3, "The Format of GNU MO Files", and SPEC 3.4 and 3.5.
-- A file is a list of bytes. A part of it is told by its place: where it starts, and how long it is. Sums are taken without bound.
use Rattle.std.specs.Prelude.{ℕ, zero, suc, ◌+◌, ◌*◌, ◌-◌, Bool, true, false, List, [], ◌∷◌, length, take, drop, get_or, leb, ltb, Option, Some, None}
use Rattle.text.specs.Bytes.{place}
use Rattle.text.specs.Cut.{cut}
use Rattle.container_layout.specs.declared.Tables.{Tables}
use Rattle.text.specs.declared.Stretch.{Stretch}
use Rattle.container_layout.specs.declared.Entry.{Entry}

-- a word of 32 bits, from its lowest byte on
abbrev pub from_bytes : ℕ → ℕ → ℕ → ℕ → ℕ
from_bytes a b c d = a + b * 256 + c * 65536 + d * 16777216

-- the word at a place, big endian or little
unfoldable pub word : Bool → List ℕ → ℕ → ℕ
word true s at = from_bytes (get_or s (at + 3) 0) (get_or s (at + 2) 0) (get_or s (at + 1) 0) (get_or s at 0)
word false s at = from_bytes (get_or s at 0) (get_or s (at + 1) 0) (get_or s (at + 2) 0) (get_or s (at + 3) 0)

-- a table has a cell of two words for each index, a length and an offset: the cell lies in the file
abbrev pub has_cell : List ℕ → ℕ → ℕ → Bool
has_cell s table i = leb (table + 8 * i + 8) (length s)

-- a string lies in the file, with the byte after it
abbrev pub has_string : List ℕ → ℕ → ℕ → Bool
has_string s start len = leb (start + len + 1) (length s)

abbrev pub within : List ℕ → ℕ → ℕ → Option Stretch
within s start len = elim (has_string s start len) [ true ↦ Some (record { start = start; len = len }) | false ↦ None ]

-- the string that the cell of index i names
unfoldable pub string : Bool → List ℕ → ℕ → ℕ → Option Stretch
unfolding word
string big s table i =
    elim (has_cell s table i) [
      | true ↦ within s (word big s (table + 8 * i + 4)) (word big s (table + 8 * i))
      | false ↦ None
    ]

-- an original is its string and the byte after it
abbrev pub original : List ℕ → ℕ → ℕ → List ℕ
original s start len = take (len + 1) (drop start s)

-- up to the first byte 4, which may stand after a NUL, is the context, and the id after it; without a byte 4 there is none
abbrev pub has_context : List ℕ → Bool
has_context o = ltb (place 4 o) (length o)

unfoldable pub context_end : List ℕ → ℕ
context_end o = elim (has_context o) [ true ↦ place 4 o | false ↦ 0 ]

unfoldable pub id_start : List ℕ → ℕ
id_start o = elim (has_context o) [ true ↦ place 4 o + 1 | false ↦ 0 ]

-- the id runs to its first NUL, or it has no end
unfoldable pub id_end : List ℕ → ℕ
unfolding id_start
id_end o = id_start o + place 0 (drop (id_start o) o)

abbrev pub ended : List ℕ → Bool
ended o = ltb (id_end o) (length o)

unfoldable pub context : List ℕ → List ℕ
unfolding context_end
context o = take (context_end o) o

unfoldable pub id : List ℕ → List ℕ
unfolding id_start id_end
id o = take (id_end o - id_start o) (drop (id_start o) o)

-- the key is context, byte 4 and id, or the id only: what stands before the id's NUL
unfoldable pub key : List ℕ → List ℕ
unfolding id_end
key o = take (id_end o) o

-- the entry of index i: where its key and its translation lie
abbrev pub translated : Option Stretch → ℕ → ℕ → Option Entry
translated (Some t) a k = Some (record { key = a; key_len = k; start = t.start; len = t.len })
translated None a k = None

abbrev pub keyed : List ℕ → Option Stretch → Option Stretch → Option Entry
keyed s (Some o) t =
    elim (ended (original s o.start o.len)) [
      | true ↦ translated t o.start (id_end (original s o.start o.len))
      | false ↦ None
    ]
keyed s None t = None

unfoldable pub entry : List ℕ → Tables → ℕ → Option Entry
unfolding string id_end
entry s t i = keyed s (string t.big s t.originals i) (string t.big s t.translations i)

-- the segments of a translation are its bytes cut at each NUL; the place of the k-th of pieces that start at a place
unfoldable pub piece_at : ℕ → ℕ → List (List ℕ) → Option Stretch
piece_at at k [] = None
piece_at at zero (p ∷ ps) = Some (record { start = at; len = length p })
piece_at at (suc k) (p ∷ ps) = piece_at (at + length p + 1) k ps

abbrev pub segments : List ℕ → ℕ → ℕ → List (List ℕ)
segments s start len = cut 0 (take len (drop start s))

unfoldable pub segment : List ℕ → ℕ → ℕ → ℕ → Option Stretch
unfolding piece_at cut
segment s start len form =
    elim (leb (start + len) (length s)) [ true ↦ piece_at start form (segments s start len) | false ↦ None ]
