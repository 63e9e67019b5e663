-- The header of a catalog: which part of it is the charset label, which the plural rule, and what its count of forms is. SPEC 5;
-- SPEC 1 and 5: names, values and rules are trimmed of White_Space, names inside Plural-Forms of the six bytes.
-- A part is told by its place: where it starts, and how long it is.
use Rattle.std.specs.Prelude.{ℕ, ◌+◌, Bool, true, false, ◌||◌, List, map, length, take, drop, Option, Some, None}
use Prim.Native.Char.{code}
use Rattle.text_trim.specs.Trim.{white_space, six, label, trim}
use Rattle.text.specs.Bytes.{bytes, same, first, small}
use Rattle.text.specs.Cut.{cut, every}
use Rattle.header_fields.specs.Fields.{shift, named, last_of, line_ok, lines}
use Rattle.text.specs.declared.Stretch.{Stretch}
use Rattle.header_forms.specs.Forms.{forms_at}
use Rattle.header.specs.declared.Metadata.{Metadata}

-- a part of the part of s at a place
abbrev pub within : List ℕ → Option Stretch → (List ℕ → Option Stretch) → Option Stretch
within s (Some p) f = shift p.start (f (take p.len (drop p.start s)))
within s None f = None

-- the last line of a name: its value's place
abbrev pub field : List ℕ → List ℕ → Option Stretch
field name h = last_of (named white_space white_space (code ":") name) 0 (lines h)

-- in Content-Type, what stands between the first "charset=" and the second, or the end
abbrev pub up_to : Option ℕ → ℕ → ℕ
up_to (Some j) n = j
up_to None n = n

abbrev pub label_after : Option ℕ → List ℕ → Option Stretch
label_after (Some i) v =
    Some (record { start = i + 8; len = up_to (first (bytes "charset=") (drop (i + 8) v)) (length (drop (i + 8) v)) })
label_after None v = None

unfoldable pub charset : List ℕ → Option Stretch
charset v = label_after (first (bytes "charset=") v) v

-- in Plural-Forms, which is cut at semicolons, the last value of the name plural
unfoldable pub plural : List ℕ → Option Stretch
unfolding last_of named
plural v = last_of (named six white_space (code "=") (bytes "plural")) 0 (cut (code ";") v)

unfoldable pub metadata : List ℕ → Option Metadata
unfolding charset plural
metadata h =
    elim (every line_ok (lines h)) [
      | true ↦
          Some (record {
            charset = within h (field (bytes "Content-Type") h) charset;
            rule = within h (field (bytes "Plural-Forms") h) plural;
            forms = forms_at h (field (bytes "Plural-Forms") h);
          })
      | false ↦ None
    ]

-- a label, trimmed of 9, 10, 12, 13 and 32 and in small letters, is this text
abbrev pub label_is : List ℕ → List ℕ → Bool
label_is name s = same name (map small (trim label s))

-- the labels of UTF-8
unfoldable pub utf8_label : List ℕ → Bool
utf8_label s = label_is (bytes "utf-8") s || (label_is (bytes "utf8") s || label_is (bytes "unicode-1-1-utf-8") s)
