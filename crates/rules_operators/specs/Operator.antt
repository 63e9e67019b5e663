-- A binary operator on numbers: by its number, and with its value as a number and a flag.
use Rattle.std.specs.Prelude.{◌≡◌, ℕ, Bool, true, false, not, ◌==◌, Option, Some, None}
use Rattle.std.proofs.Math.Option.{Option as Maybe, none, some}
use Rattle.rules.specs.Tree.{Op, cmp, calc, and, or, rem, div, Cmp, Calc}
use Rattle.rules.specs.Value.{compared, calculated, binary}
use Rattle.rules.specs.Operator.{op_of}

-- the left operand settles the operator
unfoldable pub settled : Op → ℕ → Bool
settled (cmp k) x = false
settled and x = x == 0
settled or x = not (x == 0)
settled rem x = false
settled div x = false
settled (calc c) x = false

abbrev pub settled_by : Maybe Op → ℕ → Bool
settled_by none x = false
settled_by (some op) x = settled op x

-- the comparison of number i, where it is one
pub record Compares (i x y : ℕ) (r : Bool) : Type 0 where
  pub is : (k : Cmp) → op_of i ≡ some (cmp k) → r ≡ compared k x y

-- the sum, difference or product of number i, where it is one
pub record Calculates (i x y r : ℕ) : Type 0 where
  pub is : (k : Calc) → op_of i ≡ some (calc k) → r ≡ calculated k x y

-- a value as a number r and a flag, which was b and is c: a remainder by zero sets the flag, and the number counts where none was met
abbrev pub Given : Option ℕ → Bool → Bool → ℕ → Type 0
Given (Some x) b c r = (r ≡ x) × (c ≡ b)
Given None b c r = c ≡ true

pub record Gives (v : Option ℕ) (b c : Bool) (r : ℕ) : Type 0 where
  pub given : Given v b c r

-- the operator of number i on two numbers; the number beside a remainder by zero is 0
pub record Applies (i x y : ℕ) (b c : Bool) (r : ℕ) : Type 0 where
  pub gives : (op : Op) → op_of i ≡ some op → Gives (binary op (Some x) (Some y)) b c r
  pub failed : (op : Op) → op_of i ≡ some op → binary op (Some x) (Some y) ≡ None → r ≡ 0
