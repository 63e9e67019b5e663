-- The bytes of a bracketed text: the operators' are no digits, no brackets, no white space and no n, and a text begins with n, a digit or a
-- bracket. Assumes nothing.
use Prim.Native.Nat.{ℕ, ◌≤◌}
use mathlib.Core.Path.{◌≡◌, refl}
use mathlib.Core.Bool.{Bool, true, false, ◌&&◌, ◌||◌, not}
use mathlib.Core.List.{List, [], ◌∷◌, ◌++◌}
use native.Mathlib.Omega.{arith}
use lib.Dec.{leb, ltb, eqb}
use borrow.Author.Tests.{le-leb, lt-leb, leb-true, ne_eqb}
use Rattle.text.proofs.Tests.{never, by_test, and_left, and_right}
use Rattle.text_digits.specs.Digits.{digit}
use Rattle.rules.specs.Tree.{Tree, var, int, nay, bin, cond, Op, cmp, calc, and, or, rem, div, eq, ne, ge, le, gt, lt, plus, minus, times}
use Rattle.text.specs.Bytes.{all}
use Rattle.rules_text.specs.Bracketed.{sign_of, bracketed}
use Rattle.reading_bracketed.proofs.Decimal.{Digits, one, decimal_writes}

-- what operands are made of: brackets, digits, n
abbrev pub inner : ℕ → Bool
inner b = (leb 40 b && leb b 41) || ((leb 48 b && leb b 57) || eqb b 110)

-- a byte of ASCII above the blank
abbrev pub visible : ℕ → Bool
visible b = leb 33 b && ltb b 128

-- what stands between operands
abbrev pub sign : ℕ → Bool
sign b = not (inner b) && visible b

-- an operator is one such byte or two
pub data Sign : List ℕ → Type 0 where
  one_byte : {b : ℕ} → sign b ≡ true → Sign (b ∷ [])
  two_bytes : {b c : ℕ} → sign b ≡ true → sign c ≡ true → Sign (b ∷ c ∷ [])

pub signs : (op : Op) → Sign (sign_of op)
signs (cmp eq) = two_bytes refl refl
signs (cmp ne) = two_bytes refl refl
signs (cmp ge) = two_bytes refl refl
signs (cmp le) = two_bytes refl refl
signs (cmp gt) = one_byte refl
signs (cmp lt) = one_byte refl
signs and = two_bytes refl refl
signs or = two_bytes refl refl
signs rem = one_byte refl
signs div = one_byte refl
signs (calc plus) = one_byte refl
signs (calc minus) = one_byte refl
signs (calc times) = one_byte refl

pub all_signs : {g : List ℕ} → Sign g → all sign g ≡ true
unfolding all
all_signs (one_byte {b} h) = rw h
all_signs (two_bytes h k) = rw (h, k)

-- no byte is both
pub never_inner : (b : ℕ) → sign b ≡ true → inner b ≡ true → ⊥
never_inner b h e = never (rw e at h)

pub sign_visible : (b : ℕ) → sign b ≡ true → visible b ≡ true
sign_visible b h = and_right (not (inner b)) (visible b) h

pub digit_inner : (b : ℕ) → 48 ≤ b → b ≤ 57 → inner b ≡ true
digit_inner b h k = rw (le-leb 40 b (omega arith), lt-leb b 41 (omega arith), le-leb 48 b h, le-leb b 57 k)

pub sign_no_digit : (b : ℕ) → sign b ≡ true → digit b ≡ false
sign_no_digit b h =
    by_test (digit b ≡ false) (digit b)
    (λ e. absurd (never_inner b h (digit_inner b (leb-true 48 b (and_left _ (leb b 57) e)) (leb-true b 57 (and_right (leb 48 b) _ e)))))
    (λ e. e)

pub sign_no_open : (b : ℕ) → sign b ≡ true → eqb b 40 ≡ false
sign_no_open b h = ne_eqb b 40 (λ e. never (rw e at h))

pub sign_no_close : (b : ℕ) → sign b ≡ true → eqb b 41 ≡ false
sign_no_close b h = ne_eqb b 41 (λ e. never (rw e at h))

-- the first byte of a text
pub record Begins (s : List ℕ) : Type 0 where
  pub first : ℕ
  pub rest : List ℕ
  pub is : s ≡ first ∷ rest
  pub part : inner first ≡ true

first_digit : {b : ℕ} {s : List ℕ} → Digits (b ∷ s) → inner b ≡ true
first_digit (one {b} h k d) = digit_inner b h k

pub begins : (t : Tree) → Begins (bracketed t)
unfolding bracketed
begins var = record { first = 110; rest = []; is = refl; part = refl }
begins (int v) = let w = decimal_writes v in record { first = w.first; rest = w.rest; is = w.is; part = first_digit w.digits }
begins (nay t) = record { first = 40; rest = _; is = refl; part = refl }
begins (bin op s t) = record { first = 40; rest = _; is = refl; part = refl }
begins (cond s t u) = record { first = 40; rest = _; is = refl; part = refl }

pub begins_before : {s : List ℕ} (r : List ℕ) → Begins s → Begins (s ++ r)
begins_before r b = record { first = b.first; rest = b.rest ++ r; is = rw b.is; part = b.part }
