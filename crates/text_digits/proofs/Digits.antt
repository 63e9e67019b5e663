-- The digits of specs/Digits.antt go byte by byte, as the loop does: one law for each turn of it and one for its end. Assumes nothing.
use Prim.Native.Nat.{ℕ, ◌+◌, ◌-◌, ◌*◌, ◌^◌, ◌<◌, ◌≤◌}
use mathlib.Core.Path.{◌≡◌, refl, sym, ◌∙◌}
use mathlib.Core.Bool.{Bool, true, false}
use mathlib.Core.List.{List, [], ◌∷◌}
use native.Mathlib.Omega.{arith}
use lib.ListN.{length, get_or, take, drop}
use lib.Seq.{drop-length}
use lib.Dec.{ltb, eqb}
use borrow.Author.Tests.{ltb-false, lt-ltb, le-ltb}
use Rattle.text.proofs.Tests.{taken, left, by_test}
use Rattle.text.proofs.Walk.{rest_at, part_from}
use Rattle.std.specs.Prelude.{Option, Some, None}
use Rattle.std.specs.List.{slice_get}
use Rattle.std.specs.Option.{option_copied, option_eq}
use denote.Bor.{Bor}
use Rattle.text_digits.specs.Digits.{digit, digit_on, digits_from, digits, integer}

-- `from_str_radix`: what is too much stays so
either : (x : Bool) {r : Option ℕ} → r ≡ None → ◌≡◌ {A = Option ℕ} (elim x [ true ↦ r | false ↦ None ]) None
either true e = e
either false e = refl

too_much : (s : List ℕ) (v : ℕ) → 2 ^ 64 ≤ v → digits_from s v ≡ None
unfolding digits_from
too_much [] v h = rw (le-ltb v (2 ^ 64) h, digits_from)
too_much (ch ∷ s) v h = either (digit ch) (too_much s (10 * v + (ch - 48)) (omega arith))

pub digits_on :
    (s : List ℕ) (r : Option ℕ) (i v w : ℕ) → i < length s → digit_on v (get_or s i 0) ≡ Some w → r ≡ digits_from (drop i s) v →
    r ≡ digits_from (drop (i + 1) s) w
unfolding digits_from
digits_on s r i v w h d e = e ∙ rw (rest_at s i h) (go (digit (get_or s i 0)) (ltb (10 * v + (get_or s i 0 - 48)) (2 ^ 64)) d)
  where
    go :
        (x y : Bool) →
        elim x [ true ↦ elim y [ true ↦ Some (10 * v + (get_or s i 0 - 48)) | false ↦ None ] | false ↦ None ] ≡ Some w →
        elim x [ true ↦ digits_from (drop (i + 1) s) (10 * v + (get_or s i 0 - 48)) | false ↦ None ] ≡ digits_from (drop (i + 1) s) w
    go true true q = let z : 10 * v + (get_or s i 0 - 48) ≡ w = cc in rw z
    go true false q = let z : ◌≡◌ {A = ℕ} 0 1 = cc in absurd (omega arith)
    go false y q = let z : ◌≡◌ {A = ℕ} 0 1 = cc in absurd (omega arith)

pub digits_stop :
    (s : List ℕ) (r : Option ℕ) (i v : ℕ) → i < length s → digit_on v (get_or s i 0) ≡ None → r ≡ digits_from (drop i s) v → r ≡ None
unfolding digits_from
digits_stop s r i v h d e =
    e ∙ rw (rest_at s i h) (go (digit (get_or s i 0)) (ltb (10 * v + (get_or s i 0 - 48)) (2 ^ 64)) (ltb-false _ _) d)
  where
    go :
        (x y : Bool) → (y ≡ false → 2 ^ 64 ≤ 10 * v + (get_or s i 0 - 48)) →
        ◌≡◌ {A = Option ℕ} (elim x [ true ↦ elim y [ true ↦ Some (10 * v + (get_or s i 0 - 48)) | false ↦ None ] | false ↦ None ]) None →
        ◌≡◌ {A = Option ℕ} (elim x [ true ↦ digits_from (drop (i + 1) s) (10 * v + (get_or s i 0 - 48)) | false ↦ None ]) None
    go true true l q = let z : ◌≡◌ {A = ℕ} 0 1 = cc in absurd (omega arith)
    go true false l q = too_much (drop (i + 1) s) _ (l refl)
    go false y l q = refl

no_digits : (v : ℕ) → v < 2 ^ 64 → digits_from [] v ≡ Some v
unfolding digits_from
no_digits v l = rw (lt-ltb v (2 ^ 64) l, digits_from)

pub digits_end :
    (s : List ℕ) (r : Option ℕ) (i v : ℕ) → length s ≤ i → i ≤ length s → v < 2 ^ 64 → r ≡ digits_from (drop i s) v → Some v ≡ r
digits_end s r i v h k l e = let q : i ≡ length s = omega arith in sym (e ∙ rw (q, drop-length) (no_digits v l))

pub digits_some : (s : List ℕ) → false ≡ eqb (length s) 0 → digits s ≡ digits_from s 0
digits_some s h = left _ _ (sym h)

-- what one digit tells
pub on_whole : (v ch : ℕ) {w : ℕ} → digit ch ≡ true → digit_on v ch ≡ Some w → w ≡ 10 * v + (ch - 48)
on_whole v ch {w} e f = go (ltb (10 * v + (ch - 48)) (2 ^ 64)) (sym (taken _ _ e) ∙ f)
  where
    go : (b : Bool) → elim b [ true ↦ Some (10 * v + (ch - 48)) | false ↦ None ] ≡ Some w → w ≡ 10 * v + (ch - 48)
    go true g = cc
    go false g = let z : ◌≡◌ {A = ℕ} 0 1 = cc in absurd (omega arith)

pub on_none : (v ch : ℕ) → digit ch ≡ true → digit_on v ch ≡ None → 2 ^ 64 ≤ 10 * v + (ch - 48)
on_none v ch e f =
    by_test (2 ^ 64 ≤ 10 * v + (ch - 48)) (ltb (10 * v + (ch - 48)) (2 ^ 64))
    (λ t. absurd (let g : Some (10 * v + (ch - 48)) ≡ None = sym (taken _ _ e ∙ taken _ _ t) ∙ f in let z : ◌≡◌ {A = ℕ} 0 1 = cc in omega arith))
    (λ t. ltb-false _ _ t)

pub integer_some : (s : List ℕ) (v : ℕ) → integer s ≡ Some v → 0 < length s
unfolding integer
integer_some [] v e = let z : ◌≡◌ {A = ℕ} 0 1 = cc in absurd (omega arith)
integer_some (ch ∷ s) v e = omega arith

-- the plus sign, as the code asks for it: whether the first byte, if there is one, is that byte
module _ (s : List ℕ) (first : Option (Bor ℕ)) (a : ℕ × ℕ) (e : option_copied first ≡ slice_get s 0) where
  abbrev is_plus : Bool
  is_plus = option_eq (λ (x y : Bor ℕ). eqb x.now y.now) first (Some (record { ref_ptr = a; now = 43 }))

  plus_is : is_plus ≡ eqb (get_or s 0 0) 43
  plus_is = go s first e
    where
      go : (s : List ℕ) (r : Option (Bor ℕ)) → option_copied r ≡ slice_get s 0 →
          option_eq (λ (x y : Bor ℕ). eqb x.now y.now) r (Some (record { ref_ptr = a; now = 43 })) ≡ eqb (get_or s 0 0) 43
      go [] None e = refl
      go [] (Some x) e = let z : ◌≡◌ {A = ℕ} 0 1 = cc in absurd (omega arith)
      go (b ∷ s) None e = let z : ◌≡◌ {A = ℕ} 0 1 = cc in absurd (omega arith)
      go (b ∷ s) (Some x) e = let z : x.now ≡ b = cc in rw z

  pub integer_plus : true ≡ is_plus → digits (take (length s - 1) (drop 1 s)) ≡ integer s
  unfolding integer
  integer_plus h = rw (part_from s 1) (sym (taken _ _ (sym (h ∙ plus_is))))

  pub integer_else : false ≡ is_plus → digits s ≡ integer s
  unfolding integer
  integer_else h = sym (left _ _ (sym (h ∙ plus_is)))

-- what `digits_of` may use
pub ruleset digits_cases = (digits_some, digits_on, digits_stop, digits_end)
