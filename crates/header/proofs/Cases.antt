-- Headers with white space around names, values and rules, computed from the definition. Assumes nothing.
use Prim.Native.Nat.{ℕ}
use mathlib.Core.Path.{◌≡◌, refl}
use mathlib.Core.Bool.{true, false}
use mathlib.Core.List.{List, [], ◌∷◌, ◌++◌, map}
use Rattle.std.specs.Prelude.{Some, None}
use lib.ListN.{take, drop}
use Rattle.text.specs.Bytes.{bytes, begins, same, front, first}
use Rattle.text.specs.Cut.{cut, every}
use Rattle.text_trim.specs.Trim.{Chars, white_space, trim, trim_start, trim_end, edge_after, lead, encode}
use Rattle.header_fields.specs.Fields.{named, last_of}
use Rattle.text_digits.specs.Digits.{digits_from}
use Rattle.header_forms.specs.Forms.{count_in, last_count, form_count}
use Rattle.header.specs.Header.{charset, plural, metadata, utf8_label}
use Rattle.header.proofs.Depends.{Texts, malformed, fields, texts}

abbrev a0 : List ℕ
a0 = encode 0xA0

abbrev answer : List ℕ → Texts
answer h = texts h (metadata h)

pub record Row : Type 0 where
  pub header : List ℕ
  pub gives : Texts

abbrev row : List ℕ → Texts → Row
row h t = record { header = h; gives = t }

abbrev rule : List ℕ → Texts
rule s = fields None (Some s) None

abbrev counted : List ℕ → ℕ → Texts
counted s n = fields None (Some s) (Some n)

abbrev neither : Texts
neither = fields None None None

abbrev pub rows : List Row
rows =
    -- around a name, a value, a rule
    row (a0 ++ (bytes "Plural-Forms" ++ (a0 ++ bytes ":plural=n"))) (rule (bytes "n"))
    ∷ row (bytes "Plural-Forms:" ++ (a0 ++ bytes "plural=n")) (rule (bytes "n"))
    ∷ row (bytes "Plural-Forms:plural=" ++ (a0 ++ (bytes "n" ++ (a0 ++ bytes ";")))) (rule (bytes "n"))
    -- inside Plural-Forms a name is trimmed of six bytes only: no rule has the name
    ∷ row (bytes "Plural-Forms:nplurals=2;" ++ (a0 ++ bytes "plural=n")) (fields None None (Some 2))
    ∷ row (bytes "Plural-Forms:plural" ++ (a0 ++ bytes "=n")) neither
    ∷ row (bytes "Plural-Forms:nplurals=2;" ++ (11 ∷ bytes "plural" ++ (12 ∷ bytes "=n"))) (counted (bytes "n") 2)
    -- a count is one of the last Plural-Forms only; the trim of its value frees a count at its end
    ∷ row (bytes "Plural-Forms:nplurals=2;plural=n\nPlural-Forms:nplurals=3;plural=0") (counted (bytes "0") 3)
    ∷ row (bytes "Plural-Forms:nplurals=2\nPlural-Forms:plural=0") (rule (bytes "0"))
    ∷ row (bytes "Plural-Forms:nplurals=2\nA:nplurals=3") (fields None None (Some 2))
    ∷ row (bytes "Plural-Forms:plural=n;nplurals=2" ++ a0) (counted (bytes "n") 2)
    ∷ row (bytes "Plural-Forms:" ++ (a0 ++ bytes "nplurals=2")) (fields None None (Some 2))
    ∷ row (bytes "Plural-Forms:nplurals=" ++ (a0 ++ bytes "2;plural=n")) (rule (bytes "n"))
    ∷ row (bytes "plural-forms:nplurals=2") neither
    -- a label is trimmed as its value's end only
    ∷ row (bytes "Content-Type:charset=utf-8" ++ a0) (fields (Some (bytes "utf-8")) None None)
    ∷ row (bytes "Content-Type:charset=" ++ (a0 ++ bytes "utf-8")) (fields (Some (a0 ++ bytes "utf-8")) None None)
    ∷ row (bytes "Content-Type:charset=utf-8" ++ (a0 ++ bytes "charset=x")) (fields (Some (bytes "utf-8" ++ a0)) None None)
    -- a line of such space is not empty; 85, 2028 and 2029 end no line
    ∷ row a0 malformed
    ∷ row (bytes "A:b" ++ (encode 0x85 ++ bytes "Plural-Forms:plural=n")) neither
    ∷ row (bytes "A:b" ++ (encode 0x2028 ++ bytes "Plural-Forms:plural=n")) neither
    ∷ row (bytes "A:b" ++ (encode 0x2029 ++ bytes "Plural-Forms:plural=n")) neither
    -- what looks white, and what is torn
    ∷ row (encode 0x200B ++ bytes "Plural-Forms:plural=n") neither
    ∷ row (encode 0xFEFF ++ bytes "Plural-Forms:plural=n") neither
    ∷ row (0xA0 ∷ bytes "Plural-Forms:plural=n") neither
    ∷ row (bytes "Plural-Forms:plural=n" ++ 0xC2 ∷ []) (rule (bytes "n" ++ 0xC2 ∷ []))
    ∷ []

pub rows_hold : map (λ r. answer r.header) rows ≡ map (λ r. r.gives) rows
unfolding metadata charset plural form_count last_count count_in digits_from named last_of cut every first front same trim trim_start trim_end edge_after lead encode begins
rows_hold = refl

-- each of the 25 but byte 10, at which lines are cut, before and after names, values and a rule
abbrev around : List ℕ → List ℕ
around e =
    e ++ (bytes "Content-Type" ++ (e ++ (bytes ":" ++ (e ++ (bytes "charset=utf-8" ++ (e ++ (bytes "\n" ++ (
    e ++ (bytes "Plural-Forms" ++ (e ++ (bytes ":" ++ (e ++ (bytes "plural=" ++ (e ++ (bytes "n%2" ++ (e ++ (bytes ";" ++ e)))))))))))))))))

abbrev others : Chars
others = take 1 white_space ++ drop 2 white_space

pub each_read : map (λ e. answer (around e)) others ≡ map (λ e. fields (Some (bytes "utf-8")) (Some (bytes "n%2")) None) others
unfolding metadata charset plural form_count last_count count_in digits_from named last_of cut every first front same trim trim_start trim_end edge_after lead encode begins
each_read = refl

-- labels keep it
pub labels : map utf8_label (bytes " UTF-8\n" ∷ (a0 ++ bytes "utf-8") ∷ (bytes "utf-8" ++ a0) ∷ []) ≡ true ∷ false ∷ false ∷ []
unfolding utf8_label same trim trim_start trim_end edge_after lead encode begins
labels = refl
