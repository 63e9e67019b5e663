-- A number written in decimal is read back: its digits, and the number that a run of digits is. Assumes nothing.
use Prim.Native.Nat.{ℕ, zero, suc, ◌+◌, ◌-◌, ◌*◌, ◌/◌, ◌%◌, ◌<◌, ◌≤◌, ◌^◌}
use mathlib.Core.Path.{◌≡◌, refl, ◌∙◌}
use mathlib.Core.Bool.{true}
use mathlib.Core.List.{List, [], ◌∷◌, ◌++◌}
use native.Mathlib.Omega.{arith}
use native.Mathlib.Nat.{mod-lt, pow-suc}
use lib.ListN.{length, length-append}
use lib.Dec.{ltb}
use borrow.Author.Tests.{ltb-true, ltb-false, lt-ltb, le-leb, ne_eqb}
use Rattle.text.proofs.Tests.{by_test, taken, left}
use Rattle.std.specs.Prelude.{Some}
use Rattle.text_digits.specs.Digits.{digit, digits_from, integer}
use Rattle.rules_text.specs.Bracketed.{decimal, decimal_in}
use Rattle.rules_text.proofs.Decimal.{split, decimal_short, decimal_long}

-- every byte is a digit
pub data Digits : List ℕ → Type 0 where
  none : Digits []
  one : {b : ℕ} {s : List ℕ} → 48 ≤ b → b ≤ 57 → Digits s → Digits (b ∷ s)

pub joined_digits : {s t : List ℕ} → Digits s → Digits t → Digits (s ++ t)
joined_digits none e = e
joined_digits (one h k d) e = one h k (joined_digits d e)

pub is_digit : (b : ℕ) → 48 ≤ b → b ≤ 57 → digit b ≡ true
is_digit b h k = rw (le-leb 48 b h, le-leb b 57 k)

-- the number of a run of digits after a number
unfoldable pub value : ℕ → List ℕ → ℕ
value a [] = a
value a (b ∷ s) = value (10 * a + (b - 48)) s

value_joined : (a : ℕ) (s t : List ℕ) → value a (s ++ t) ≡ value (value a s) t
unfolding value
value_joined a [] t = refl
value_joined a (b ∷ s) t = value_joined (10 * a + (b - 48)) s t

-- what is written is digits, at least one, and is the number; the first is 0 for 0 only
pub record Writes (s : List ℕ) (v : ℕ) : Type 0 where
  pub first : ℕ
  pub rest : List ℕ
  pub is : s ≡ first ∷ rest
  pub digits : Digits (first ∷ rest)
  pub worth : value 0 (first ∷ rest) ≡ v
  pub leads : 0 < v → 48 < first

lone : (v : ℕ) → v < 10 → Writes ((48 + v) ∷ []) v
unfolding value
lone v h = record { first = 48 + v; rest = []; is = refl; digits = one {b = 48 + v} (omega arith) (omega arith) none; worth = omega arith; leads = λ l. omega arith }

longer : {s : List ℕ} (v : ℕ) → 10 ≤ v → Writes s (v / 10) → Writes (s ++ (48 + v % 10) ∷ []) v
unfolding value
longer v h w = record {
  first = w.first;
  rest = w.rest ++ (48 + v % 10) ∷ [];
  is = rw w.is;
  digits = joined_digits w.digits (one {b = 48 + v % 10} (omega arith) (omega (arith, mod-lt v {m = 10} (omega arith))) none);
  worth = value_joined 0 (w.first ∷ w.rest) ((48 + v % 10) ∷ []) ∙ rw w.worth (omega (arith, split v));
  leads = λ l. w.leads (omega (arith, split v, mod-lt v {m = 10} (omega arith)));
}

writes : (f v : ℕ) → v < f → Writes (decimal_in f v) v
unfolding decimal_in
writes zero v h = absurd (omega arith)
writes (suc f) v h =
    by_test (Writes (decimal_in (suc f) v) v) (ltb v 10)
    (λ e. rw (e, decimal_in) (lone v (ltb-true v 10 e)))
    (λ e. rw (e, decimal_in) (longer v (ltb-false v 10 e) (writes f (v / 10) (omega (arith, split v, ltb-false v 10 e)))))

pub decimal_writes : (v : ℕ) → Writes (decimal v) v
unfolding decimal
decimal_writes v = writes (suc v) v (omega arith)

-- a number below 10^k has at most k digits
few_digits : (k v : ℕ) → v < 10 ^ suc k → length (decimal v) ≤ suc k
few_digits zero v h = rw (decimal_short v (omega arith)) (omega arith)
few_digits (suc k) v h =
    by_test (length (decimal v) ≤ suc (suc k)) (ltb v 10)
    (λ e. rw (decimal_short v (ltb-true v 10 e)) (omega arith))
    (λ e.
    let m : v / 10 < 10 ^ suc k = omega (arith, split v, pow-suc 10 (suc k)) in
    rw (decimal_long v (ltb-false v 10 e))
    (omega (arith, length-append (decimal (v / 10)) ((48 + v % 10) ∷ []), few_digits k (v / 10) m)))

pub digits_few : (v : ℕ) → v < 2 ^ 64 → length (decimal v) ≤ 20
digits_few v h = few_digits 19 v (omega arith)

pub no_leading_zero : (v : ℕ) (s : List ℕ) → 0 < v → decimal v ≡ 48 ∷ s → ⊥
no_leading_zero v s h e = let w = decimal_writes v in let z : w.first ≡ 48 = cc w.is in omega (arith, w.leads h)

-- the Shipped reading of digits
shipped_digits : (a : ℕ) {s : List ℕ} → Digits s → digits_from s a ≡ digits_from [] (value a s)
unfolding value digits_from
shipped_digits a none = refl
shipped_digits a (one {b} {s} h k d) = rw (is_digit b h k, digits_from) (shipped_digits (10 * a + (b - 48)) d)

in_range : (v : ℕ) → v < 2 ^ 64 → digits_from [] v ≡ Some v
unfolding digits_from
in_range v h = taken _ _ (lt-ltb v (2 ^ 64) h)

unsigned : {b : ℕ} {s : List ℕ} → Digits (b ∷ s) → integer (b ∷ s) ≡ digits_from (b ∷ s) 0
unfolding integer
unsigned (one {b} {s} h k d) = left _ _ (ne_eqb b 43 (λ e. omega arith)) ∙ left _ _ (ne_eqb (suc (length s)) 0 (λ e. omega arith))

pub shipped_integer : {s : List ℕ} {v : ℕ} → Writes s v → v < 2 ^ 64 → integer s ≡ Some v
shipped_integer {s} {v} w h = rw w.is (unsigned w.digits ∙ (shipped_digits 0 w.digits ∙ rw w.worth (in_range v h)))
