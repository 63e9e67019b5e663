-- The table of operators: a number below its length has an operator, and an operator has one number.
use mathlib.Core.Path.{◌≡◌, refl, ap}
use mathlib.Core.Bool.{Bool, true, false}
use mathlib.Core.List.{List, [], ◌∷◌}
use mathlib.Core.Option.{none, some}
use Prim.Native.Nat.{ℕ, zero, suc, ◌+◌, ◌<◌}
use native.Mathlib.Omega.{arith}
use lib.ListN.{length}
use Rattle.rules.specs.Tree.{Op, cmp, calc, and, or, rem, div, eq, ne, ge, le, gt, lt, plus, minus, times}
use Rattle.rules.specs.Operator.{operators, op_at, op_of, Named, op_code}

pub never : {A : Type 0} → false ≡ true → A
never e = let z : ◌≡◌ {A = ℕ} 0 1 = cc in absurd (omega arith)

-- by the outcome of a test
pub split : {A : Type 0} (b : Bool) → (b ≡ true → A) → (b ≡ false → A) → A
split true f g = f refl
split false f g = g refl

pub either : {A : Type 0} (B : A → Type 0) (b : Bool) {x y : A} → B x → B y → B (elim b [ true ↦ x | false ↦ y ])
either B true p q = p
either B false p q = q

row : (ops : List Op) (i : ℕ) → i < length ops → (op : Op) × (op_at ops i ≡ some op)
unfolding op_at
row [] i h = absurd (omega arith)
row (op ∷ ops) zero h = (op, refl)
row (op ∷ ops) (suc i) h = row ops i (omega arith)

pub named : (i : ℕ) → i < length operators → Named i
unfolding op_of
named i h = let r = row operators i h in record { op = r.0; is = r.1 }

pub op_code_lem : (op : Op) → op_of (op_code op) ≡ some op
unfolding op_code op_of op_at
op_code_lem (cmp eq) = refl
op_code_lem (cmp ne) = refl
op_code_lem (cmp ge) = refl
op_code_lem (cmp le) = refl
op_code_lem (cmp gt) = refl
op_code_lem (cmp lt) = refl
op_code_lem and = refl
op_code_lem or = refl
op_code_lem rem = refl
op_code_lem div = refl
op_code_lem (calc plus) = refl
op_code_lem (calc minus) = refl
op_code_lem (calc times) = refl

none_some : {A : Type 0} {op : Op} → none ≡ some op → A
none_some e = let z : ◌≡◌ {A = ℕ} 0 1 = cc in absurd (omega arith)

-- a number that has an operator is below the table's length
at_low : (ops : List Op) (i : ℕ) {op : Op} → op_at ops i ≡ some op → i < length ops
unfolding op_at
at_low [] i e = none_some e
at_low (op ∷ ops) zero e = omega arith
at_low (op ∷ ops) (suc i) e = let h = at_low ops i e in omega arith

pub code_in : (op : Op) → op_code op < length operators
unfolding op_of
code_in op = at_low operators (op_code op) (op_code_lem op)

-- and is the operator's: the table lists them by their numbers
abbrev Numbered : List Op → ℕ → Type 0
Numbered [] k = Unit {0}
Numbered (op ∷ ops) k = (op_code op ≡ k) × Numbered ops (suc k)

numbered : Numbered operators 0
unfolding op_code
numbered = omega arith

at_number : (ops : List Op) (k i : ℕ) {op : Op} → Numbered ops k → op_at ops i ≡ some op → op_code op ≡ k + i
unfolding op_at
at_number [] k i n e = none_some e
at_number (p ∷ ops) k zero {op} n e = let d : p ≡ op = cc in rw (← d) (omega (arith, n.0))
at_number (p ∷ ops) k (suc i) n e = omega (arith, at_number ops (suc k) i n.1 e)

pub code_is : (i : ℕ) (op : Op) → op_of i ≡ some op → op_code op ≡ i
unfolding op_of
code_is i op e = omega (arith, at_number operators 0 i numbered e)

-- the operator of a number that is known
pub op_at_lem : (i k : ℕ) {op q : Op} → op_of i ≡ some op → i ≡ k → op_of k ≡ some q → op ≡ q
op_at_lem i k e h d = cc (ap op_of h)
