-- The binary operators: one table, a row for each, whose place is the operator's number. A number that the table does not list is no
-- operator's.
use Rattle.std.specs.Prelude.{ℕ, zero, suc, ◌≡◌, List, [], ◌∷◌}
use Rattle.std.proofs.Math.Option.{Option, none, some}
use Rattle.rules.specs.Tree.{Op, cmp, calc, and, or, rem, div, eq, ne, ge, le, gt, lt, plus, minus, times}

abbrev pub operators : List Op
operators = cmp eq ∷ cmp ne ∷ cmp ge ∷ cmp le ∷ cmp gt ∷ cmp lt ∷ and ∷ or ∷ rem ∷ div ∷ calc plus ∷ calc minus ∷ calc times ∷ []

unfoldable pub op_at : List Op → ℕ → Option Op
op_at [] i = none
op_at (op ∷ ops) zero = some op
op_at (op ∷ ops) (suc i) = op_at ops i

-- the operator of a number
unfoldable pub op_of : ℕ → Option Op
unfolding op_at
op_of i = op_at operators i

pub record Named (i : ℕ) : Type 0 where
  pub op : Op
  pub is : op_of i ≡ some op

-- the number of an operator
unfoldable pub op_code : Op → ℕ
op_code (cmp eq) = 0
op_code (cmp ne) = 1
op_code (cmp ge) = 2
op_code (cmp le) = 3
op_code (cmp gt) = 4
op_code (cmp lt) = 5
op_code and = 6
op_code or = 7
op_code rem = 8
op_code div = 9
op_code (calc plus) = 10
op_code (calc minus) = 11
op_code (calc times) = 12
