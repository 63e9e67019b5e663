-- Values of Plural-Forms and their counts, computed from the definition. Assumes nothing.
use Prim.Native.Nat.{ℕ, ◌-◌, ◌^◌}
use mathlib.Core.Path.{◌≡◌, refl}
use mathlib.Core.List.{List, [], ◌∷◌, ◌++◌, map}
use Rattle.text.specs.Bytes.{bytes, begins, same, front}
use Rattle.text.specs.Cut.{cut}
use Rattle.text_trim.specs.Trim.{trim, trim_start, trim_end, edge_after, lead, encode}
use Rattle.text_digits.specs.Digits.{digits_from}
use Rattle.header_forms.specs.Forms.{count_in, last_count, form_count}
use Rattle.std.specs.Prelude.{Option, Some, None}

abbrev a0 : List ℕ
a0 = encode 0xA0

pub record Row : Type 0 where
  pub value : List ℕ
  pub count : Option ℕ

abbrev row : List ℕ → Option ℕ → Row
row v n = record { value = v; count = n }

abbrev pub rows : List Row
rows =
    -- both names; the last well-formed one counts, whichever name it has
    row (bytes "nplurals=2; plural=n != 1;") (Some 2)
    ∷ row (bytes "n_plurals=3") (Some 3)
    ∷ row (bytes "nplurals=2;n_plurals=3") (Some 3)
    ∷ row (bytes "n_plurals=3;nplurals=2") (Some 2)
    ∷ row (bytes "nplurals=2;nplurals=4;nplurals=3") (Some 3)
    -- a malformed one does not take an earlier one back
    ∷ row (bytes "nplurals=2;nplurals=x") (Some 2)
    ∷ row (bytes "nplurals=2;nplurals=") (Some 2)
    ∷ row (bytes "nplurals=2;nplurals=18446744073709551616") (Some 2)
    ∷ row (bytes "nplurals=2;nplurals") (Some 2)
    -- names as they are written, whole
    ∷ row (bytes "Nplurals=2") None
    ∷ row (bytes "npluralsx=2") None
    ∷ row (bytes "plurals=2") None
    ∷ row (bytes "nplurals") None
    ∷ row (bytes "") None
    -- by value
    ∷ row (bytes "nplurals=0") (Some 0)
    ∷ row (bytes "nplurals=002") (Some 2)
    ∷ row (bytes "nplurals=00000000000000000000000002") (Some 2)
    ∷ row (bytes "nplurals=18446744073709551615") (Some (2 ^ 64 - 1))
    ∷ row (bytes "nplurals=00018446744073709551615") (Some (2 ^ 64 - 1))
    ∷ row (bytes "nplurals=18446744073709551616") None
    -- digits alone
    ∷ row (bytes "nplurals=+2") None
    ∷ row (bytes "nplurals=-2") None
    ∷ row (bytes "nplurals=") None
    ∷ row (bytes "nplurals= ") None
    ∷ row (bytes "nplurals=2 3") None
    ∷ row (bytes "nplurals=2=2") None
    ∷ row (bytes "nplurals=0x2") None
    ∷ row (bytes "nplurals=2.") None
    -- name and value are trimmed of the six, and of no other space
    ∷ row (9 ∷ 11 ∷ bytes " nplurals" ++ (12 ∷ 13 ∷ bytes "= " ++ (11 ∷ bytes "2" ++ 10 ∷ []))) (Some 2)
    ∷ row (bytes "nplurals=" ++ (a0 ++ bytes "2")) None
    ∷ row (bytes "nplurals=2" ++ (a0 ++ bytes ";")) None
    ∷ row (bytes "plural=n;" ++ (a0 ++ bytes "nplurals=2")) None
    ∷ []

pub rows_hold : map (λ r. form_count r.value) rows ≡ map (λ r. r.count) rows
unfolding form_count last_count count_in cut digits_from front same trim trim_start trim_end edge_after lead encode begins
rows_hold = refl
