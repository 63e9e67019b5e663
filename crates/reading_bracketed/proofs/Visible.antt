-- A bracketed text has no white space and is ASCII: trimming leaves it. Assumes nothing.
use Prim.Native.Nat.{ℕ, ◌<◌}
use mathlib.Core.Path.{◌≡◌, refl, sym}
use mathlib.Core.Bool.{Bool, true, not}
use mathlib.Core.List.{List, [], ◌∷◌, ◌++◌, append-nil}
use native.Mathlib.Omega.{arith}
use lib.Dec.{leb, ltb}
use lib.ListN.{length}
use borrow.Author.Tests.{le-leb, lt-ltb}
use Rattle.text.specs.Bytes.{all}
use Rattle.text_trim.specs.Trim.{chars_of, encode, In, end, trim}
use Rattle.text_trim.specs.declared.Set.{Set}
use Rattle.text_trim.specs.declared.Set.TheVariants.{WhiteSpace, Six, Label}
use Rattle.text_trim.proofs.Encodings.{each, each_at, code, solid}
use Rattle.text_trim.proofs.Middle.{one_middle}
use Rattle.text.proofs.Tests.{never, and_right}
use Rattle.rules.specs.Tree.{Tree, var, int, nay, bin, cond}
use Rattle.rules_text.specs.Bracketed.{brackets, bracketed}
use Rattle.reading_bracketed.proofs.Decimal.{Digits, none, one, decimal_writes}
use Rattle.reading_bracketed.proofs.Marks.{visible, Sign, one_byte, two_bytes, signs, sign_visible}

-- every byte is visible
pub data Visible : List ℕ → Type 0 where
  empty : Visible []
  byte : {b : ℕ} {s : List ℕ} → visible b ≡ true → Visible s → Visible (b ∷ s)

pub both_visible : {s t : List ℕ} → Visible s → Visible t → Visible (s ++ t)
both_visible empty e = e
both_visible (byte h d) e = byte h (both_visible d e)

pub in_brackets : {s : List ℕ} → Visible s → Visible (brackets s)
in_brackets d = byte refl (both_visible d (byte refl empty))

pub sign_seen : {g : List ℕ} → Sign g → Visible g
sign_seen (one_byte {b} h) = byte (sign_visible b h) empty
sign_seen (two_bytes {b} {c} h k) = byte (sign_visible b h) (byte (sign_visible c k) empty)

digits_seen : {s : List ℕ} → Digits s → Visible s
digits_seen none = empty
digits_seen (one {b} h k d) = byte {b = b} (rw (le-leb 33 b (omega arith), lt-ltb b 128 (omega arith))) (digits_seen d)

pub seen : (t : Tree) → Visible (bracketed t)
unfolding bracketed
seen var = byte refl empty
seen (int v) = let w = decimal_writes v in rw w.is (digits_seen w.digits)
seen (nay t) = in_brackets (byte refl (seen t))
seen (bin op s t) = in_brackets (both_visible (both_visible (seen s) (sign_seen (signs op))) (seen t))
seen (cond s t u) = in_brackets (both_visible (both_visible (seen s) (byte refl (seen t))) (byte refl (seen u)))

-- a part of it
front_visible : (s t : List ℕ) → Visible (s ++ t) → Visible s
front_visible [] t d = empty
front_visible (b ∷ s) t (byte h d) = byte h (front_visible s t d)

back_visible : (s t : List ℕ) → Visible (s ++ t) → Visible t
back_visible [] t d = d
back_visible (b ∷ s) t (byte h d) = back_visible s t d

-- trimming: no byte of a character that is trimmed is visible
abbrev dark : List ℕ → Bool
dark e = all (λ b. not (visible b)) e

all_dark : (set : Set) → each dark (chars_of set) ≡ true
unfolding encode all
all_dark WhiteSpace = refl
all_dark Six = refl
all_dark Label = refl

none_dark : {e : List ℕ} → 0 < length e → dark e ≡ true → Visible e → ⊥
unfolding all
none_dark l h empty = omega arith
none_dark l h (byte {b} {s} k d) = never (rw k at h)

module _ (set : Set) {s : List ℕ} (v : Visible s) where
  never_white : {e : List ℕ} → In e (chars_of set) → Visible e → ⊥
  never_white i d = none_dark (solid (code set) i) (each_at dark (chars_of set) (all_dark set) i) d

  pub trim_visible : trim (chars_of set) s ≡ s
  trim_visible = sym (one_middle set (record {
    before = [];
    after = [];
    is = sym (append-nil s);
    white_before = end;
    white_after = end;
    starts = λ e t i q. never_white i (front_visible e t (rw q at v));
    ends = λ e t i q. never_white i (back_visible t e (rw q at v));
  }))

pub ascii_visible : {s : List ℕ} → Visible s → all (λ b. ltb b 128) s ≡ true
unfolding all
ascii_visible empty = refl
ascii_visible (byte {b} h d) = rw (and_right (leb 33 b) (ltb b 128) h) (ascii_visible d)
