-- The count of a piece as the code meets it, and the last count, piece by piece. Assumes nothing.
use Prim.Native.Nat.{ℕ, ◌+◌, ◌-◌, ◌<◌, ◌≤◌}
use mathlib.Core.Path.{◌≡◌, refl, sym, ap, ◌∙◌}
use mathlib.Core.Bool.{Bool, true, false}
use mathlib.Core.List.{List}
use native.Mathlib.Nat.{add-sub_cancel_left}
use lib.ListN.{length, take, drop}
use borrow.Author.Tests.{lt-ltb, le-ltb}
use Rattle.text.specs.Bytes.{place}
use Rattle.text.specs.Cut.{cut}
use Rattle.text.proofs.Tests.{taken, left, and_none}
use Rattle.text.proofs.Walk.{part_from}
use Rattle.text.proofs.Cuts.{rest_last, rest_more}
use Rattle.text_trim.specs.Trim.{six, trim}
use Rattle.text_digits.specs.Digits.{digits}
use Rattle.header_fields.specs.Fields.{has}
use Rattle.text.specs.declared.Stretch.{Stretch}
use Rattle.header_forms.specs.Forms.{is_count_name, is_count, count_in, or_else, last_count, form_count, forms_at}
use Rattle.std.specs.Prelude.{Option, Some, None}

-- a piece: i is where its first "=" stands, t its name
module _ (p : List ℕ) where
  pub no_field : length p ≤ place 61 p → None ≡ count_in p
  unfolding count_in
  no_field h = let b : is_count p ≡ false = rw (le-ltb (place 61 p) (length p) h) in sym (left _ _ b)

  module _ {i : ℕ} {t : List ℕ} {b : Bool} (e : i ≡ place 61 p) (f : t ≡ trim six (take i p)) (g : b ≡ is_count_name t) where
    name_is : {x : Bool} → b ≡ x → is_count_name (trim six (take (place 61 p) p)) ≡ x
    name_is h = rw (← e, ← f) (sym g ∙ h)

    pub other_name : b ≡ false → None ≡ count_in p
    unfolding count_in
    other_name h = let z : is_count p ≡ false = rw (name_is h) (and_none (has 61 p)) in sym (left _ _ z)

    pub this_name : i < length p → b ≡ true → {v : List ℕ} {r : Option ℕ} → v ≡ trim six (take (length p - (i + 1)) (drop (i + 1) p)) → r ≡ digits v → r ≡ count_in p
    unfolding count_in
    this_name l h {v} j k =
        let z : is_count p ≡ true = rw (name_is h, ← e, lt-ltb i (length p) l) in
        let w : v ≡ trim six (drop (place 61 p + 1) p) = j ∙ ap (trim six) (part_from p (i + 1)) ∙ ap (λ (x : ℕ). trim six (drop (x + 1) p)) e in
        k ∙ ap digits w ∙ sym (taken _ _ z)

-- the last count, as a loop over the pieces meets it: that of the pieces from at on, or else the one found
pub or_assoc : (p q r : Option ℕ) → or_else (or_else p q) r ≡ or_else p (or_else q r)
or_assoc (Some k) q r = refl
or_assoc None q r = refl

module _ (s : List ℕ) where
  abbrev pub Met : ℕ → Option ℕ → Type 0
  Met at found = form_count s ≡ or_else (last_count (cut 59 (drop at s))) found

  pub met_none : Met 0 None
  unfolding form_count
  met_none = right_unit (last_count (cut 59 s))
    where
      right_unit : (p : Option ℕ) → p ≡ or_else p None
      right_unit (Some k) = refl
      right_unit None = refl

  module _ (at end : ℕ) (found : Option ℕ) (e : end ≡ at + place 59 (drop at s)) (m : Met at found) {c r : Option ℕ} (f : c ≡ count_in (take (end - at) (drop at s))) (g : r ≡ or_else c found) where
    pub met_last : at ≤ length s → length s ≤ end → r ≡ form_count s
    unfolding last_count
    met_last i h = g ∙ ap (λ (x : Option ℕ). or_else x found) f ∙ sym (m ∙ ap (λ (ps : List (List ℕ)). or_else (last_count ps) found) (rest_last 59 s at end e i h))

    pub met_more : end < length s → Met (end + 1) r
    unfolding last_count
    met_more h =
        m ∙ ap (λ (ps : List (List ℕ)). or_else (last_count ps) found) (rest_more 59 s at end e h)
        ∙ or_assoc (last_count (cut 59 (drop (end + 1) s))) (count_in (take (end - at) (drop at s))) found
        ∙ ap (or_else (last_count (cut 59 (drop (end + 1) s)))) (sym (g ∙ ap (λ (x : Option ℕ). or_else x found) f))

-- the value at a place
pub at_place : (h : List ℕ) {p : Option Stretch} {a l : ℕ} {r : Option ℕ} → p ≡ Some (record { start = a; len = l }) → r ≡ form_count (take (a + l - a) (drop a h)) → r ≡ forms_at h p
at_place h {p} {a} {l} e f = rw (e, ← add-sub_cancel_left a l) f

-- what `count_in` may use
pub ruleset count_cases = (no_field, other_name, this_name)
