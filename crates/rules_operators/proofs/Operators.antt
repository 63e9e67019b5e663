-- Laws of the binary operators by their numbers, as an evaluation asks for them.
use Rattle.std.specs.Prelude.{Option, Some, None}
use Rattle.std.proofs.Common.{◌≡◌, ℕ, ◌+◌, ◌-◌, ◌%◌, ◌^◌, ◌<◌, ◌≤◌, true, false, eqb, sym, refl, arith}
use mathlib.Core.Option.{Option as Maybe, none, some}
use mathlib.Core.Logic.{by_cases}
use native.Mathlib.Decide.{ℕ_discrete}
use borrow.Author.Tests.{not-true, not-false}
use Rattle.rules.specs.Tree.{Op, cmp, calc, and, or, rem, div, Cmp, eq, ne, ge, le, gt, lt, Calc, plus, minus, times}
use Rattle.rules.specs.Value.{binary, truth_v}
use Rattle.rules.specs.Operator.{op_of, op_at, op_code}
use Rattle.rules.proofs.Operators.{never, code_in, code_is, op_at_lem}
use Rattle.rules_operators.specs.Operator.{settled, settled_by}

pub same_cmp : {j k : Cmp} → some (cmp j) ≡ some (cmp k) → j ≡ k
same_cmp e = cc

-- a comparison whose number is no other's is ==
pub cmp_rest : (i : ℕ) (k : Cmp) → op_of i ≡ some (cmp k) → (i ≡ 1 → ⊥) → (i ≡ 2 → ⊥) → (i ≡ 3 → ⊥) → (i ≡ 4 → ⊥) → (i ≡ 5 → ⊥) → k ≡ eq
unfolding op_code
cmp_rest i eq e h1 h2 h3 h4 h5 = refl
cmp_rest i ne e h1 h2 h3 h4 h5 = absurd (h1 (sym (code_is i (cmp ne) e)))
cmp_rest i ge e h1 h2 h3 h4 h5 = absurd (h2 (sym (code_is i (cmp ge) e)))
cmp_rest i le e h1 h2 h3 h4 h5 = absurd (h3 (sym (code_is i (cmp le) e)))
cmp_rest i gt e h1 h2 h3 h4 h5 = absurd (h4 (sym (code_is i (cmp gt) e)))
cmp_rest i lt e h1 h2 h3 h4 h5 = absurd (h5 (sym (code_is i (cmp lt) e)))

-- the numbers below 6 are the comparisons'
pub record IsCmp (op : Op) : Type 0 where
  pub which : Cmp
  pub is : op ≡ cmp which

pub low_cmp : (i : ℕ) (op : Op) → op_of i ≡ some op → i < 6 → IsCmp op
unfolding op_code
low_cmp i (cmp k) e h = record { which = k; is = refl }
low_cmp i and e h = let d = code_is i and e in absurd (omega arith)
low_cmp i or e h = let d = code_is i or e in absurd (omega arith)
low_cmp i rem e h = let d = code_is i rem e in absurd (omega arith)
low_cmp i div e h = let d = code_is i div e in absurd (omega arith)
low_cmp i (calc plus) e h = let d = code_is i (calc plus) e in absurd (omega arith)
low_cmp i (calc minus) e h = let d = code_is i (calc minus) e in absurd (omega arith)
low_cmp i (calc times) e h = let d = code_is i (calc times) e in absurd (omega arith)

-- those from 10 on are sums, differences and products
pub record IsCalc (op : Op) : Type 0 where
  pub which : Calc
  pub is : op ≡ calc which

pub high_calc : (i : ℕ) (op : Op) → op_of i ≡ some op → 10 ≤ i → IsCalc op
unfolding op_of op_at
high_calc i op e h =
    by_cases (ℕ_discrete i 10) (λ d. record { which = plus; is = op_at_lem i 10 e d refl })
    (λ d. by_cases (ℕ_discrete i 11) (λ q. record { which = minus; is = op_at_lem i 11 e q refl })
    (λ q. record { which = times; is = op_at_lem i 12 e (omega (arith, code_is i op e, code_in op)) refl }))

pub same_calc : {j k : Calc} → some (calc j) ≡ some (calc k) → j ≡ k
same_calc e = cc

pub calc_rest : (i : ℕ) (k : Calc) → op_of i ≡ some (calc k) → (i ≡ 10 → ⊥) → (i ≡ 11 → ⊥) → k ≡ times
unfolding op_code
calc_rest i plus e h1 h2 = absurd (h1 (sym (code_is i (calc plus) e)))
calc_rest i minus e h1 h2 = absurd (h2 (sym (code_is i (calc minus) e)))
calc_rest i times e h1 h2 = refl

-- 9 is the number of /
pub is_div : (i : ℕ) (op : Op) → op_of i ≡ some op → 7 < i → i < 10 → (i ≡ 8 → ⊥) → op ≡ div
unfolding op_of op_at
is_div i op e h l n = op_at_lem i 9 e (omega arith) refl

-- what a difference that wraps is
pub differs : (x y : ℕ) → y < 2 ^ 64 → (x + (2 ^ 64 - y)) % 2 ^ 64 ≡ (2 ^ 64 + x - y) % 2 ^ 64
differs x y h = omega arith

-- a zero divisor
pub by_zero : (i : ℕ) (op : Op) (x : ℕ) → op_of i ≡ some op → 7 < i → i < 10 → binary op (Some x) (Some 0) ≡ None
unfolding binary op_of op_at
by_zero i op x e h l = by_cases (ℕ_discrete i 8) (λ q. rw (op_at_lem i 8 e q refl)) (λ q. rw (is_div i op e h l q))

-- only && and || are settled by their left operand
pub settled_rest : (i x : ℕ) → (i ≡ 6 → ⊥) → (i ≡ 7 → ⊥) → settled_by (op_of i) x ≡ false
unfolding settled op_code
settled_rest i x a o = go (op_of i) refl
  where
    go : (p : Maybe Op) → op_of i ≡ p → settled_by p x ≡ false
    go none e = refl
    go (some (cmp k)) e = refl
    go (some and) e = absurd (a (sym (code_is i and e)))
    go (some or) e = absurd (o (sym (code_is i or e)))
    go (some rem) e = refl
    go (some div) e = refl
    go (some (calc c)) e = refl

-- what the left operand settles, no right operand changes
pub settled_any : (op : Op) (x : ℕ) (v : Option ℕ) → settled op x ≡ true → binary op (Some x) v ≡ binary op (Some x) (Some 0)
unfolding settled binary
settled_any (cmp k) x v e = never e
settled_any and x v e = rw e
settled_any or x v e = rw (not-true (eqb x 0) e)
settled_any rem x v e = never e
settled_any div x v e = never e
settled_any (calc c) x v e = never e

-- what it does not settle fails where the right operand does
pub unsettled : (op : Op) (x : ℕ) → settled op x ≡ false → binary op (Some x) None ≡ None
unfolding settled binary truth_v
unsettled (cmp k) x e = refl
unsettled and x e = rw e
unsettled or x e = rw (not-false (eqb x 0) e)
unsettled rem x e = refl
unsettled div x e = refl
unsettled (calc c) x e = refl
