-- The charset label and the plural rule lie in their header. Assumes nothing.
use Prim.Native.Nat.{ℕ, ◌≤◌}
use mathlib.Core.Path.{◌≡◌, sym, ◌∙◌}
use mathlib.Core.List.{List}
use native.Mathlib.Omega.{arith}
use lib.ListN.{length, take, drop, length-drop}
use lib.Seq.{length-take-le}
use Rattle.text.specs.Bytes.{bytes}
use Rattle.text.specs.Cut.{every}
use Rattle.text.proofs.Tests.{taken, left, by_test}
use Rattle.header_fields.specs.Fields.{lines, line_ok}
use Rattle.header_fields.specs.Promise.{end_of}
use Rattle.text.specs.declared.Stretch.{Stretch}
use Rattle.std.specs.Prelude.{Option, Some, None}
use Rattle.header_fields.proofs.Places.{shift_end}
use Rattle.header.specs.Header.{within, field, charset, plural, metadata}
use Rattle.header.specs.declared.Metadata.{Metadata}
use Rattle.header.proofs.Parts.{charset_end, plural_end, field_end}

within_end : (f : List ℕ → Option Stretch) → ((v : List ℕ) → end_of (f v) ≤ length v) → (h : List ℕ) (p : Option Stretch) → end_of p ≤ length h → end_of (within h p f) ≤ length h
within_end f g h (Some p) e =
    shift_end p.start (length (take p.len (drop p.start h))) (length h) (f (take p.len (drop p.start h))) (g (take p.len (drop p.start h)))
    (omega (arith, length-take-le p.len (drop p.start h) (omega (arith, length-drop p.start h))))
within_end f g h None e = omega arith

-- the label and the rule lie in the header
pub record Inside (h : List ℕ) (m : Metadata) : Type 0 where
  pub label : end_of m.charset ≤ length h
  pub rule : end_of m.rule ≤ length h

pub fields_end : (h : List ℕ) {m : Metadata} → metadata h ≡ Some m → Inside h m
unfolding metadata
fields_end h {m} e =
    by_test (Inside h m) (every line_ok (lines h))
    (λ t.
    let z = sym (taken _ _ t) ∙ e in
    let x : within h (field (bytes "Content-Type") h) charset ≡ m.charset = cc in
    let y : within h (field (bytes "Plural-Forms") h) plural ≡ m.rule = cc in
    record {
      label = rw (← x) (within_end charset charset_end h (field (bytes "Content-Type") h) (field_end (bytes "Content-Type") h));
      rule = rw (← y) (within_end plural plural_end h (field (bytes "Plural-Forms") h) (field_end (bytes "Plural-Forms") h));
    })
    (λ t. let z : None ≡ Some m = sym (left _ _ t) ∙ e in absurd (let y : ◌≡◌ {A = ℕ} 0 1 = cc in omega arith))
