-- The code's table of ranks is the definition's: the list below is the table of src/lib.rt. Assumes nothing.
use Prim.Native.Nat.{ℕ}
use mathlib.Core.Path.{◌≡◌, refl}
use mathlib.Core.List.{List, [], ◌∷◌}
use lib.ListN.{get_or}
use Rattle.rules.specs.Tree.{Op, cmp, and, or, rem, eq, ne, ge, le, gt, lt, calc, div, plus, minus, times}
use Rattle.rules.specs.Operator.{op_code}
use Rattle.reading_grammar.specs.Grammar.{rank}

abbrev pub ranks : List ℕ
ranks = 4 ∷ 4 ∷ 3 ∷ 3 ∷ 3 ∷ 3 ∷ 5 ∷ 6 ∷ 1 ∷ 1 ∷ 2 ∷ 2 ∷ 1 ∷ []

pub ranked : (op : Op) → get_or ranks (op_code op) 0 ≡ rank op
unfolding op_code
ranked (cmp eq) = refl
ranked (cmp ne) = refl
ranked (cmp ge) = refl
ranked (cmp le) = refl
ranked (cmp gt) = refl
ranked (cmp lt) = refl
ranked and = refl
ranked or = refl
ranked rem = refl
ranked div = refl
ranked (calc plus) = refl
ranked (calc minus) = refl
ranked (calc times) = refl
