-- Trees, computed from the definitions, as one list: the range, and the value at a count. Document 01's starred rules are in the table of crate
-- `starred`. Assumes nothing.
use Prim.Native.Nat.{ℕ}
use mathlib.Core.Path.{◌≡◌, refl}
use mathlib.Core.List.{List, [], ◌∷◌, map}
use Rattle.std.specs.Prelude.{Option, Some, None}
use Rattle.rules.specs.Tree.{Tree, var, int, nay, bin, cond, cmp, and, or, rem, lt, default_tree}
use Rattle.rules.specs.Value.{binary, negated, chosen, eval_tree}
use Rattle.rules.specs.Range.{op_range, bin_range, not_range, cond_range, rate_tree}

-- 7%n
abbrev by_count : Tree
by_count = bin rem (int 7) var

abbrev Row : Type 0
Row = Tree × Option (ℕ × ℕ) × ℕ × Option ℕ

abbrev rows : List Row
rows =
    (by_count, None, 0, None)
    ∷ (by_count, None, 3, Some 1)
    -- a zero remainder behind && or || has no effect on the value, and unrates the rule; so does an unrated condition, and an arm that is not taken
    ∷ (bin and (int 0) by_count, None, 0, Some 0)
    ∷ (bin or (int 1) by_count, None, 0, Some 1)
    ∷ (cond by_count (int 1) (int 2), None, 0, None)
    ∷ (cond (int 1) (int 2) by_count, None, 0, Some 2)
    -- the default rule is 0 for 1, else 1; ! and ?:
    ∷ (default_tree, Some (0, 1), 1, Some 0)
    ∷ (default_tree, Some (0, 1), 0, Some 1)
    ∷ (nay default_tree, Some (0, 1), 1, Some 1)
    ∷ (cond (bin (cmp lt) var (int 2)) (int 8) (int 9), Some (8, 9), 2, Some 9)
    ∷ []

abbrev computed : Row → Row
computed (t, _, n, _) = (t, rate_tree t, n, eval_tree t n)

pub rows_hold : map computed rows ≡ rows
unfolding rate_tree bin_range op_range not_range cond_range eval_tree binary negated chosen
rows_hold = refl
