-- The count of forms that a Plural-Forms gives. SPEC 5.3.
use Rattle.std.specs.Prelude.{ℕ, ◌+◌, Bool, true, false, ◌&&◌, ◌||◌, List, [], ◌∷◌, take, drop, Option, Some, None}
use Prim.Native.Char.{code}
use Rattle.text.specs.Bytes.{bytes, same, place}
use Rattle.text.specs.Cut.{cut}
use Rattle.text_trim.specs.Trim.{six, trim}
use Rattle.text_digits.specs.Digits.{digits}
use Rattle.header_fields.specs.Fields.{has}
use Rattle.text.specs.declared.Stretch.{Stretch}

-- the GNU manual's name, or the crate's
abbrev pub is_count_name : List ℕ → Bool
is_count_name s = same (bytes "nplurals") s || same (bytes "n_plurals") s

-- a piece of Plural-Forms: the name stands before the first "=", trimmed of the six, and the value after it
abbrev pub is_count : List ℕ → Bool
is_count p = has (code "=") p && is_count_name (trim six (take (place (code "=") p) p))

-- the count of a piece: its value, trimmed of the six, has to be digits alone, and at most 2^64-1
unfoldable pub count_in : List ℕ → Option ℕ
count_in p = elim (is_count p) [ true ↦ digits (trim six (drop (place (code "=") p + 1) p)) | false ↦ None ]

-- of several pieces the last that has a count
abbrev pub or_else : Option ℕ → Option ℕ → Option ℕ
or_else (Some k) q = Some k
or_else None q = q

unfoldable pub last_count : List (List ℕ) → Option ℕ
unfolding count_in
last_count [] = None
last_count (p ∷ ps) = or_else (last_count ps) (count_in p)

-- the value of a Plural-Forms is cut at semicolons
unfoldable pub form_count : List ℕ → Option ℕ
unfolding last_count
form_count v = last_count (cut (code ";") v)

-- the same of the part of a header at a place
abbrev pub forms_at : List ℕ → Option Stretch → Option ℕ
forms_at h (Some p) = form_count (take p.len (drop p.start h))
forms_at h None = None
