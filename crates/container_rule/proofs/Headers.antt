-- The header as the code meets it: its parts lie in it, and it lies in the file. Assumes nothing.
use Prim.Native.Nat.{ℕ, zero, suc, ◌+◌, ◌-◌, ◌≤◌}
use mathlib.Core.Path.{◌≡◌, refl, sym, ap, ◌∙◌}
use mathlib.Core.Bool.{Bool, true, false, ◌||◌}
use mathlib.Core.List.{List, [], ◌∷◌}
use native.Mathlib.Omega.{arith}
use lib.ListN.{length, take, drop, length-drop, length-take}
use lib.Seq.{length-take-le, take-take, take_all, drop-drop}
use lib.Dec.{ltb}
use borrow.Author.Tests.{ltb-true, ltb-false}
use Rattle.text.specs.Bytes.{place}
use Rattle.text.specs.Cut.{cut}
use Rattle.text.proofs.Tests.{taken, left, by_test}
use Rattle.text.proofs.Cuts.{cut_first, cut_whole, place_length}
use Rattle.text.specs.declared.Stretch.{Stretch}
use Rattle.std.specs.Prelude.{Option, Some, None, Result, Ok, Err}
use Rattle.header_fields.specs.Fields.{shift}
use Rattle.header_fields.specs.Promise.{start_of, end_of}
use Rattle.header.specs.Header.{metadata}
use Rattle.header.specs.declared.Metadata.{Metadata}
use Rattle.header.proofs.Ends.{Inside, fields_end}
use Rattle.container_layout.specs.Mo.{segments}
use Rattle.refusal.specs.Places.{at, in_header}
use Rattle.refusal.specs.declared.Error.TheVariants.{MalformedMetadata, UnknownEncoding}
use Rattle.container_rule.specs.Rule.{label_ok, headed, rule_at, segment0, shifted, header_at}
use Rattle.container_rule.specs.Promise.{end_of_rule}
use Rattle.container_rule.specs.declared.First.{First}
use Rattle.refusal.specs.declared.Refusal.{Refusal}

-- where the rule lies
module _ (forced utf8 : Bool) (h : List ℕ) {x : Option Metadata} (e : x ≡ metadata h) where
  pub malformed : x ≡ None → Err (at in_header MalformedMetadata) ≡ rule_at forced utf8 h
  unfolding rule_at
  malformed f = rw (← e, f)

  module _ {m : Metadata} (f : x ≡ Some m) where
    pub inside : Inside h m
    inside = fields_end h (sym e ∙ f)

    at_fields : rule_at forced utf8 h ≡ headed forced utf8 h (Some m)
    unfolding rule_at
    at_fields = rw (← e, f)

    module _ {k : Bool} (g : k ≡ (utf8 || label_ok h m.charset)) where
      pub unknown : k ≡ false → Err (at in_header UnknownEncoding) ≡ rule_at forced utf8 h
      unknown t = sym (at_fields ∙ left _ _ (sym g ∙ t))

      pub rule_told : k ≡ true → {p : Option Stretch} → p ≡ elim forced [ true ↦ None | false ↦ m.rule ] → Ok (record { rule = p; forms = m.forms }) ≡ rule_at forced utf8 h
      rule_told t u = rw u (sym (at_fields ∙ taken _ _ (sym g ∙ t)))

headed_end : (forced utf8 : Bool) (h : List ℕ) (x : Option Metadata) → metadata h ≡ x → end_of_rule (headed forced utf8 h x) ≤ length h
headed_end forced utf8 h None e = omega arith
headed_end forced utf8 h (Some m) e =
    by_test (end_of_rule (headed forced utf8 h (Some m)) ≤ length h) (utf8 || label_ok h m.charset)
    (λ t. let z : headed forced utf8 h (Some m) ≡ Ok (record { rule = elim forced [ true ↦ None | false ↦ m.rule ]; forms = m.forms }) = taken _ _ t in
    rw z (by_forced forced))
    (λ t. let z : headed forced utf8 h (Some m) ≡ Err (at in_header UnknownEncoding) = left _ _ t in rw z (omega arith))
  where
    by_forced : (b : Bool) → end_of (elim b [ true ↦ None | false ↦ m.rule ]) ≤ length h
    by_forced true = omega arith
    by_forced false = (fields_end h e).rule

pub rule_ends : (forced utf8 : Bool) (h : List ℕ) → end_of_rule (rule_at forced utf8 h) ≤ length h
unfolding rule_at
rule_ends forced utf8 h = headed_end forced utf8 h (metadata h) refl

start_below : (p : Option Stretch) → start_of p ≤ end_of p
start_below (Some p) = omega arith
start_below None = omega arith

-- segment 0: up to the first NUL
segment_zero : (x : List ℕ) → segment0 (cut 0 x) ≡ take (place 0 x) x
segment_zero x =
    by_test (segment0 (cut 0 x) ≡ take (place 0 x) x) (ltb (place 0 x) (length x))
    (λ t. rw (cut_first 0 x (ltb-true _ _ t)))
    (λ t. rw (cut_whole 0 x (ltb-false _ _ t), take_all (place 0 x) x (ltb-false _ _ t)))

-- a part of a part
part_in : (y : List ℕ) (a l n : ℕ) → a + l ≤ n → take l (drop a (take n y)) ≡ take l (drop a y)
part_in y zero l n h = take-take l n y (omega arith)
part_in y (suc a) l zero h = absurd (omega arith)
part_in [] (suc a) l (suc n) h = refl
part_in (b ∷ y) (suc a) l (suc n) h = part_in y a l n (omega arith)

module _ (s : List ℕ) (start len : ℕ) (i : start + len ≤ length s) where
  tail_length : length (take len (drop start s)) ≡ len
  tail_length = length-take-le len (drop start s) (omega (arith, length-drop start s))

  zero_part : segment0 (segments s start len) ≡ take (place 0 (take len (drop start s))) (drop start s)
  zero_part = segment_zero (take len (drop start s)) ∙ take-take (place 0 (take len (drop start s))) len (drop start s) (omega (arith, tail_length, place_length 0 (take len (drop start s))))

  module _ {p : ℕ} (e : p ≡ place 0 (take (start + len - start) (drop start s))) where
    p_is : p ≡ place 0 (take len (drop start s))
    p_is = let z : start + len - start ≡ len = omega arith in rw (← z) e

    p_in : p ≤ len
    p_in = omega (arith, p_is, tail_length, place_length 0 (take len (drop start s)))

    pub header_in : start + p ≤ length s
    header_in = omega (arith, p_in)

    pub header_part : take (start + p - start) (drop start s) ≡ segment0 (segments s start len)
    header_part = let z : start + p - start ≡ p = omega arith in rw (z, p_is) (sym zero_part)

    part_length : length (take (start + p - start) (drop start s)) ≤ p
    part_length = omega (arith, length-take (start + p - start) (drop start s))

    pub rule_fits : (forced utf8 : Bool) {f : Result First Refusal} → f ≡ rule_at forced utf8 (take (start + p - start) (drop start s)) → start + end_of_rule f ≤ length s
    rule_fits forced utf8 {f} g =
        let z : end_of_rule f ≤ length (take (start + p - start) (drop start s)) = rw g (rule_ends forced utf8 (take (start + p - start) (drop start s))) in
        omega (arith, part_length, p_in)

    pub start_fits : (forced utf8 : Bool) {f : First} → Ok f ≡ rule_at forced utf8 (take (start + p - start) (drop start s)) → start + start_of f.rule ≤ length s
    start_fits forced utf8 {f} g = omega (arith, rule_fits forced utf8 g, start_below f.rule)

    pub header_told : (forced utf8 : Bool) {f r : Result First Refusal} → f ≡ rule_at forced utf8 (take (start + p - start) (drop start s)) → r ≡ shifted start f → r ≡ header_at forced utf8 s start len
    header_told forced utf8 g k = k ∙ ap (shifted start) (g ∙ ap (rule_at forced utf8) header_part)

  zero_length : start + length (segment0 (segments s start len)) ≤ length s
  zero_length = omega (arith, ap length zero_part, length-take (place 0 (take len (drop start s))) (drop start s), tail_length, place_length 0 (take len (drop start s)))

  shifted_end : (f : Result First Refusal) (n : ℕ) → end_of_rule f ≤ n → start + n ≤ length s → end_of_rule (shifted start f) ≤ length s
  shifted_end (Ok f) n h k = by_place f.rule h
    where
      by_place : (p : Option Stretch) → end_of p ≤ n → end_of (shift start p) ≤ length s
      by_place (Some p) j = omega arith
      by_place None j = omega arith
  shifted_end (Err e) n h k = omega arith

  pub at_end : (forced utf8 : Bool) → end_of_rule (header_at forced utf8 s start len) ≤ length s
  at_end forced utf8 = shifted_end (rule_at forced utf8 (segment0 (segments s start len))) (length (segment0 (segments s start len))) (rule_ends forced utf8 (segment0 (segments s start len))) zero_length

  -- a part of the header is the same part of the file
  pub same_part : (a l : ℕ) → a + l ≤ length (segment0 (segments s start len)) → take l (drop (start + a) s) ≡ take l (drop a (segment0 (segments s start len)))
  same_part a l h =
      let n : a + l ≤ place 0 (take len (drop start s)) = omega (arith, ap length zero_part, length-take (place 0 (take len (drop start s))) (drop start s)) in
      sym (ap (λ (y : List ℕ). take l (drop a y)) zero_part ∙ part_in (drop start s) a l (place 0 (take len (drop start s))) n ∙ ap (take l) (drop-drop a start s))
