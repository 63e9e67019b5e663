-- The fields of a header. SPEC 5. A part is told by its place: where it starts, and how long it is. The white space of
-- which names and values are trimmed is a parameter.
use Rattle.std.specs.Prelude.{ℕ, ◌+◌, Bool, true, false, ◌&&◌, List, [], ◌∷◌, length, take, drop, ltb, Option, Some, None}
use Prim.Native.Char.{code}
use Rattle.text.specs.Bytes.{same, place}
use Rattle.text_trim.specs.Trim.{Chars, edge, trim}
use Rattle.text.specs.Cut.{cut}
use Rattle.text.specs.declared.Stretch.{Stretch}

-- the same part, counted from k bytes earlier
abbrev pub shift : ℕ → Option Stretch → Option Stretch
shift k (Some p) = Some (record { start = k + p.start; len = p.len })
shift k None = None

abbrev pub or_else : Option Stretch → Option Stretch → Option Stretch
or_else (Some p) q = Some p
or_else None q = q

-- the byte stands in the text
abbrev pub has : ℕ → List ℕ → Bool
has x s = ltb (place x s) (length s)

-- a field is a name, a byte x and a value; the name ends at the first x
abbrev pub is_named : Chars → ℕ → List ℕ → List ℕ → Bool
is_named w x name s = has x s && same name (trim w (take (place x s) s))

abbrev pub value_at : Chars → ℕ → List ℕ → Option Stretch
value_at w x s =
    Some (record { start = place x s + 1 + edge w (drop (place x s + 1) s); len = length (trim w (drop (place x s + 1) s)) })

-- the value's place, if the field has that name
unfoldable pub named : Chars → Chars → ℕ → List ℕ → List ℕ → Option Stretch
named wn wv x name s = elim (is_named wn x name s) [ true ↦ value_at wv x s | false ↦ None ]

-- of the pieces of a text, which start at a place and have a byte between them, the last field of that name
unfoldable pub last_of : (List ℕ → Option Stretch) → ℕ → List (List ℕ) → Option Stretch
last_of f at [] = None
last_of f at (p ∷ ps) = or_else (last_of f (at + length p + 1) ps) (shift at (f p))

-- a header's line: empty, or with a colon
abbrev pub line_ok : List ℕ → Bool
line_ok [] = true
line_ok (b ∷ s) = has (code ":") (b ∷ s)

abbrev pub lines : List ℕ → List (List ℕ)
lines h = cut (code "\n") h
