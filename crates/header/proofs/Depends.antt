-- What a header's answer hangs on: whether every line that is not empty has a colon, the last Content-Type and the last Plural-Forms.
-- Two headers that agree on these give the same label and the same rule, as texts, and the same count of forms. Assumes nothing.
use Prim.Native.Nat.{ℕ, ◌+◌, ◌≤◌}
use mathlib.Core.Path.{◌≡◌, refl, sym, ap, ◌∙◌}
use mathlib.Core.Bool.{Bool, true, false}
use mathlib.Core.List.{List}
use Rattle.std.specs.Prelude.{Option, Some, None}
use native.Mathlib.Omega.{arith}
use lib.ListN.{length, take, drop, length-take}
use Rattle.text.proofs.Parts.{part_of_part}
use Rattle.text.specs.Bytes.{bytes}
use Rattle.text.specs.Cut.{every}
use Rattle.header_fields.specs.Fields.{shift, lines, line_ok}
use Rattle.header_fields.specs.Promise.{end_of}
use Rattle.text.specs.declared.Stretch.{Stretch}
use Rattle.header_forms.specs.Forms.{form_count, forms_at}
use Rattle.header.specs.Header.{within, field, charset, plural, metadata}
use Rattle.header.specs.declared.Metadata.{Metadata}
use Rattle.header.proofs.Parts.{charset_end, plural_end, field_end}

-- the text at a place
abbrev pub text_at : List ℕ → Option Stretch → Option (List ℕ)
text_at s (Some p) = Some (take p.len (drop p.start s))
text_at s None = None

-- a header's answer, as texts
pub data Texts : Type 0 where
  malformed : Texts
  fields : Option (List ℕ) → Option (List ℕ) → Option ℕ → Texts

abbrev pub texts : List ℕ → Option Metadata → Texts
texts h None = malformed
texts h (Some m) = fields (text_at h m.charset) (text_at h m.rule) m.forms

inside : (s : List ℕ) (start len : ℕ) (p : Option Stretch) → start + len ≤ length s → end_of p ≤ len → text_at s (shift start p) ≡ text_at (take len (drop start s)) p
inside s start len (Some p) h k = ap Some (part_of_part s start len p.start p.len h k)
inside s start len None h k = refl

-- what is sought in the value v, as a text
pub sought_in : (List ℕ → Option Stretch) → Option (List ℕ) → Option (List ℕ)
sought_in f None = None
sought_in f (Some v) = text_at v (f v)

sought_text : (f : List ℕ → Option Stretch) → ((v : List ℕ) → end_of (f v) ≤ length v) → (h : List ℕ) (p : Option Stretch) → end_of p ≤ length h
    → text_at h (within h p f) ≡ sought_in f (text_at h p)
unfolding sought_in
sought_text f g h (Some p) l =
    inside h p.start p.len (f (take p.len (drop p.start h))) l (omega (arith, g (take p.len (drop p.start h)), length-take p.len (drop p.start h)))
sought_text f g h None l = refl

-- the count in the value v
pub forms_in : Option (List ℕ) → Option ℕ
forms_in None = None
forms_in (Some v) = form_count v

forms_text : (h : List ℕ) (p : Option Stretch) → forms_at h p ≡ forms_in (text_at h p)
unfolding forms_in
forms_text h (Some p) = refl
forms_text h None = refl

-- the answer, by those three
pub answer : Bool → Option (List ℕ) → Option (List ℕ) → Texts
answer true content plurals = fields (sought_in charset content) (sought_in plural plurals) (forms_in plurals)
answer false content plurals = malformed

abbrev pub value_of : List ℕ → List ℕ → Option (List ℕ)
value_of name h = text_at h (field name h)

pub answer_is : (h : List ℕ) → texts h (metadata h) ≡ answer (every line_ok (lines h)) (value_of (bytes "Content-Type") h) (value_of (bytes "Plural-Forms") h)
unfolding metadata answer
answer_is h = go (every line_ok (lines h))
  where
    go : (b : Bool) → texts h (elim b [
      | true ↦
          Some (record {
            charset = within h (field (bytes "Content-Type") h) charset;
            rule = within h (field (bytes "Plural-Forms") h) plural;
            forms = forms_at h (field (bytes "Plural-Forms") h);
          })
      | false ↦ None
    ]) ≡ answer b (value_of (bytes "Content-Type") h) (value_of (bytes "Plural-Forms") h)
    go true = rw (
      sought_text charset charset_end h (field (bytes "Content-Type") h) (field_end (bytes "Content-Type") h),
      sought_text plural plural_end h (field (bytes "Plural-Forms") h) (field_end (bytes "Plural-Forms") h),
      forms_text h (field (bytes "Plural-Forms") h),
    )
    go false = refl

pub depends : (g h : List ℕ) → every line_ok (lines g) ≡ every line_ok (lines h) → value_of (bytes "Content-Type") g ≡ value_of (bytes "Content-Type") h
    → value_of (bytes "Plural-Forms") g ≡ value_of (bytes "Plural-Forms") h → texts g (metadata g) ≡ texts h (metadata h)
depends g h e f k = answer_is g ∙ rw (e, f, k) (sym (answer_is h))
