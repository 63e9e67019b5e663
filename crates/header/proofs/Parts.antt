-- The parts that are sought lie in their value, and the header's answer is put together from them. Assumes nothing.
use Prim.Native.Nat.{ℕ, ◌+◌, ◌-◌, ◌≤◌}
use mathlib.Core.Path.{◌≡◌, refl, sym, ap, ◌∙◌}
use mathlib.Core.Bool.{true, false}
use mathlib.Core.List.{List}
use native.Mathlib.Omega.{arith}
use native.Mathlib.Nat.{add-sub_cancel_left}
use lib.ListN.{length, take, drop, length-drop}
use Rattle.std.specs.Prelude.{Option, Some, None}
use Rattle.text_trim.specs.Trim.{white_space, six}
use Rattle.text.specs.Bytes.{bytes, first}
use Rattle.text.specs.Cut.{every}
use Rattle.text.proofs.Tests.{taken, left}
use Rattle.text.proofs.Sought.{first_inside}
use Rattle.header_fields.specs.Fields.{shift, named, lines, line_ok}
use Rattle.header_fields.specs.Promise.{end_of}
use Rattle.text.specs.declared.Stretch.{Stretch}
use Rattle.header_fields.proofs.Places.{named_end, cut_end}
use Rattle.header_forms.specs.Forms.{forms_at}
use Rattle.header.specs.Header.{within, field, up_to, label_after, charset, plural, metadata}
use Rattle.header.proofs.Labels.{pattern}

up_to_length : (v : List ℕ) (f : Option ℕ) → first pattern v ≡ f → up_to f (length v) ≤ length v
up_to_length v (Some j) e = omega (arith, first_inside pattern v j e)
up_to_length v None e = omega arith

label_end : (v : List ℕ) (f : Option ℕ) → first pattern v ≡ f → end_of (label_after f v) ≤ length v
label_end v (Some i) e = omega (arith, first_inside pattern v i e, up_to_length (drop (i + 8) v) (first pattern (drop (i + 8) v)) refl, length-drop (i + 8) v)
label_end v None e = omega arith

pub charset_end : (v : List ℕ) → end_of (charset v) ≤ length v
unfolding charset
charset_end v = label_end v (first pattern v) refl

pub plural_end : (v : List ℕ) → end_of (plural v) ≤ length v
unfolding plural
plural_end v = cut_end (named six white_space 61 (bytes "plural")) (named_end six white_space 61 (bytes "plural")) 59 v

-- the value at a place, and what is sought in it
pub part_found : (f : List ℕ → Option Stretch) (h : List ℕ) {p : Option Stretch} {s : Stretch} {q r : Option Stretch} → p ≡ Some s
    → q ≡ f (take (s.start + s.len - s.start) (drop s.start h)) → r ≡ shift s.start q → r ≡ within h p f
part_found f h {p} {s} e j g =
    g ∙ ap (shift s.start) j ∙ ap (λ (n : ℕ). shift s.start (f (take n (drop s.start h)))) (add-sub_cancel_left s.start s.len)
    ∙ ap (λ (x : Option Stretch). within h x f) (sym e)

pub field_end : (name h : List ℕ) → end_of (field name h) ≤ length h
field_end name h = cut_end (named white_space white_space 58 name) (named_end white_space white_space 58 name) 10 h

module _ (h : List ℕ) where
  pub malformed : every line_ok (lines h) ≡ false → None ≡ metadata h
  unfolding metadata
  malformed e = sym (left _ _ e)

  pub well_formed : {p q a b : Option Stretch} {n : Option ℕ} → every line_ok (lines h) ≡ true → p ≡ field (bytes "Content-Type") h → q ≡ field (bytes "Plural-Forms") h
      → a ≡ within h p charset → b ≡ within h q plural → n ≡ forms_at h q → Some (record { charset = a; rule = b; forms = n }) ≡ metadata h
  unfolding metadata
  well_formed e f g i j k = rw (i, j, k, f, g) (sym (taken _ _ e))
