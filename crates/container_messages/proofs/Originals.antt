-- Originals and translations as the code meets them. Assumes nothing.
use Prim.Native.Nat.{ℕ, ◌+◌, ◌-◌, ◌<◌, ◌≤◌}
use mathlib.Core.Path.{◌≡◌, refl, sym, ap, ◌∙◌}
use mathlib.Core.Bool.{Bool, true, false}
use mathlib.Core.List.{List, [], ◌∷◌}
use native.Mathlib.Omega.{arith}
use lib.ListN.{length, take, drop, length-drop}
use lib.Seq.{length-take-le}
use borrow.Author.Tests.{lt-ltb, le-ltb, ltb-true, eq-eqb, ne_eqb}
use Rattle.text_utf8.specs.Utf8.{utf8}
use Rattle.text.specs.Bytes.{place}
use Rattle.text.specs.Cut.{every}
use Rattle.text.proofs.Tests.{taken, left, by_test}
use Rattle.text_utf8.proofs.Texts.{right_by_pieces}
use Rattle.text.proofs.Cuts.{place_length}
use Rattle.container_layout.specs.Mo.{string, context_end, id_start, id_end, has_context, context, id, segments}
use Rattle.text.specs.declared.Stretch.{Stretch}
use Rattle.std.specs.Prelude.{Option, Some, None, Ok, Err}
use Rattle.container_layout.proofs.Cells.{string_told}
use Rattle.container_layout.specs.Promise.{Splits}
use Rattle.container_layout.specs.declared.Parts.{Parts}
use Rattle.container_messages.specs.Messages.{identified, original_of, original_in, translation_in}
use Rattle.refusal.specs.declared.Error.TheVariants.{Eof, DecodingError, MisplacedMetadata}
use Rattle.container_messages.specs.declared.Original.TheVariants.{Named, Empty}

-- the id, by its length
named : (i : ℕ) (l : List ℕ) → 0 < length l → identified i l ≡ Ok Named
named i [] h = absurd (omega arith)
named i (b ∷ l) h = refl

first_empty : (i : ℕ) (l : List ℕ) → length l ≡ 0 → i ≡ 0 → identified i l ≡ Ok Empty
first_empty i [] h e = taken _ _ (eq-eqb i 0 e)
first_empty i (b ∷ l) h e = absurd (omega arith)

misplaced : (i : ℕ) (l : List ℕ) → length l ≡ 0 → (i ≡ 0 → ⊥) → identified i l ≡ Err MisplacedMetadata
misplaced i [] h e = left _ _ (ne_eqb i 0 e)
misplaced i (b ∷ l) h e = absurd (omega arith)

-- the parts lie in the original, in their order
start_in : (o : List ℕ) → id_start o ≤ length o
unfolding id_start
start_in o =
    by_test (id_start o ≤ length o) (has_context o)
    (λ t. let z : id_start o ≡ place 4 o + 1 = taken _ _ t in omega (arith, ltb-true (place 4 o) (length o) t))
    (λ t. let z : id_start o ≡ 0 = left _ _ t in omega arith)

context_in : (o : List ℕ) → context_end o ≤ length o
unfolding context_end
context_in o =
    by_test (context_end o ≤ length o) (has_context o)
    (λ t. let z : context_end o ≡ place 4 o = taken _ _ t in omega (arith, ltb-true (place 4 o) (length o) t))
    (λ t. let z : context_end o ≡ 0 = left _ _ t in omega arith)

end_in : (o : List ℕ) → id_end o ≤ length o
unfolding id_end
end_in o = omega (arith, start_in o, place_length 0 (drop (id_start o) o), length-drop (id_start o) o)

end_after : (o : List ℕ) → id_start o ≤ id_end o
unfolding id_end
end_after o = omega arith

module _ (i : ℕ) (o : List ℕ) {p : Parts} (g : Splits o p) where
  pub context_fits : p.context ≤ length o
  context_fits = omega (arith, g.context, context_in o)

  pub id_fits : p.id ≤ p.end
  id_fits = omega (arith, g.id, g.end, end_after o)

  id_is : take (p.end - p.id) (drop p.id o) ≡ id o
  unfolding id
  id_is = rw (g.end, g.id)

  id_length : length (id o) ≡ p.end - p.id
  id_length = ap length (sym id_is) ∙ length-take-le (p.end - p.id) (drop p.id o) (omega (arith, g.end, end_in o, length-drop p.id o))

  module _ {c : Bool} (u : c ≡ utf8 (take p.context o)) where
    context_told : c ≡ utf8 (context o)
    unfolding context
    context_told = u ∙ rw g.context

    pub context_wrong : c ≡ false → Err DecodingError ≡ original_of i o
    unfolding original_of
    context_wrong e = sym (left _ _ (sym context_told ∙ e))

    module _ (t : c ≡ true) where
      pub unended : length o ≤ p.end → Err Eof ≡ original_of i o
      unfolding original_of
      unended h = sym (taken _ _ (sym context_told ∙ t) ∙ left _ _ (le-ltb (id_end o) (length o) (omega (arith, g.end))))

      module _ (h : p.end < length o) {d : Bool} (v : d ≡ utf8 (take (p.end - p.id) (drop p.id o))) where
        to_id : original_of i o ≡ elim (utf8 (id o)) [ true ↦ identified i (id o) | false ↦ Err DecodingError ]
        unfolding original_of
        to_id = taken _ _ (sym context_told ∙ t) ∙ taken _ _ (lt-ltb (id_end o) (length o) (omega (arith, g.end)))

        pub id_wrong : d ≡ false → Err DecodingError ≡ original_of i o
        id_wrong e = sym (to_id ∙ left _ _ (ap utf8 (sym id_is) ∙ sym v ∙ e))

        module _ (e : d ≡ true) where
          right : original_of i o ≡ identified i (id o)
          right = to_id ∙ taken _ _ (ap utf8 (sym id_is) ∙ sym v ∙ e)

          pub is_named_lem : p.id < p.end → Ok Named ≡ original_of i o
          is_named_lem k = sym (right ∙ named i (id o) (omega (arith, id_length)))

          pub is_empty : p.end ≤ p.id → i ≡ 0 → Ok Empty ≡ original_of i o
          is_empty k z = sym (right ∙ first_empty i (id o) (omega (arith, id_length)) z)

          pub is_misplaced : p.end ≤ p.id → (i ≡ 0 → ⊥) → Err MisplacedMetadata ≡ original_of i o
          is_misplaced k z = sym (right ∙ misplaced i (id o) (omega (arith, id_length)) z)

-- in the file
module _ (big : Bool) (s : List ℕ) (table i : ℕ) {x : Option Stretch} (e : x ≡ string big s table i) where
  pub original_out : x ≡ None → Err Eof ≡ original_in s i (string big s table i)
  original_out f = rw (← e, f)

  pub translation_out : x ≡ None → Err Eof ≡ translation_in s (string big s table i)
  translation_out f = rw (← e, f)

  module _ {p : Stretch} (f : x ≡ Some p) where
    pub string_fits : p.start + p.len + 1 ≤ length s
    string_fits = string_told big s table i (sym e ∙ f)

    -- NUL is ASCII: the segments are right exactly if the whole is
    pieces_right : {r : Bool} → r ≡ utf8 (take (p.start + p.len - p.start) (drop p.start s)) → every utf8 (segments s p.start p.len) ≡ r
    pieces_right g =
        let z : p.start + p.len - p.start ≡ p.len = omega arith in
        sym (g ∙ ap (λ (n : ℕ). utf8 (take n (drop p.start s))) z ∙ right_by_pieces 0 (omega arith) (take p.len (drop p.start s)))

    pub translation_right : {r : Bool} → r ≡ utf8 (take (p.start + p.len - p.start) (drop p.start s)) → r ≡ true → Ok p ≡ translation_in s (string big s table i)
    translation_right g t = sym (ap (translation_in s) (sym e ∙ f) ∙ taken _ _ (pieces_right g ∙ t))

    pub translation_wrong : {r : Bool} → r ≡ utf8 (take (p.start + p.len - p.start) (drop p.start s)) → r ≡ false → Err DecodingError ≡ translation_in s (string big s table i)
    translation_wrong g t = sym (ap (translation_in s) (sym e ∙ f) ∙ left _ _ (pieces_right g ∙ t))
