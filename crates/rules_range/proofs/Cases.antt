-- Rules in pools, computed from the definitions (document 01's starred rules are in the table of crate `starred`): the range, whether it fits a number, and the value at 0, 1 and 2. Assumes nothing.
use Prim.Native.Nat.{ℕ, ◌+◌}
use mathlib.Core.Path.{◌≡◌, refl}
use mathlib.Core.List.{List, [], ◌∷◌, map}
use Rattle.std.specs.Prelude.{Bool, true, false, Option, Some, None, Result, Ok, Err}
use Rattle.rules.specs.declared.NoForm.{NoForm}
use Rattle.rules.specs.declared.NoForm.TheVariants as no_form
use Rattle.rules.specs.declared.NoTree.{NoTree}
use Rattle.rules.specs.Value.{calculated, binary, negated, chosen, truth_v, eval_tree}
use Rattle.rules.specs.Range.{kept, op_range, bin_range, cond_range, not_range, rate_tree, fits_range}
use Rattle.rules.specs.Operator.{op_at, op_of}
use Rattle.rules.specs.Pool.{Pool, pool, tree_at, tree_of, operands_to, operands, all_below, used, member, distinct, shaped, is_tree, n_op, rest_op, nay_node, pick_node, value_op, pair_op, choice_node, ternary_node}
use Rattle.rules.specs.Answer.{no_tree, resolved_of, rated_of, fit_of}

-- a node alone, with m in its first field and the value v, and such a node over n
abbrev alone : ℕ → ℕ → ℕ → Pool × ℕ × ℕ
alone c m v = (pool (c ∷ []) (m ∷ 0 ∷ []) (v ∷ []), 1, 0)

abbrev over : ℕ → ℕ → ℕ → Pool × ℕ × ℕ
over c m v = (pool (0 ∷ c ∷ []) (0 ∷ 0 ∷ m ∷ 0 ∷ []) (0 ∷ v ∷ []), 2, 1)

-- one over n and the integer 5, and over 7 and n
abbrev count_first : ℕ → ℕ → Pool × ℕ × ℕ
count_first c v = (pool (0 ∷ 1 ∷ c ∷ []) (0 ∷ 0 ∷ 0 ∷ 0 ∷ 0 ∷ 0 ∷ []) (0 ∷ 5 ∷ v ∷ []), 3, 2)

abbrev integer_first : ℕ → Pool × ℕ × ℕ
integer_first c = (pool (1 ∷ 0 ∷ c ∷ []) (0 ∷ 0 ∷ 0 ∷ 0 ∷ 0 ∷ 0 ∷ []) (7 ∷ 0 ∷ 0 ∷ []), 3, 2)

-- n % (n ? 5 : 2), and 1 && 1 % 0, as a reader leaves them
abbrev choice : Pool × ℕ × ℕ
choice =
    (pool (0 ∷ 0 ∷ 1 ∷ 1 ∷ ternary_node ∷ (pair_op + 8) ∷ []) (0 ∷ 0 ∷ 0 ∷ 0 ∷ 0 ∷ 0 ∷ 0 ∷ 0 ∷ 1 ∷ 2 ∷ 0 ∷ 0 ∷ []) (0 ∷ 0 ∷ 5 ∷ 2 ∷ []), 6, 5)

abbrev reached : Pool × ℕ × ℕ
reached = (pool (1 ∷ 1 ∷ 1 ∷ (pair_op + 8) ∷ (pair_op + 6) ∷ []) (0 ∷ 0 ∷ 0 ∷ 0 ∷ 0 ∷ 0 ∷ 1 ∷ 0 ∷ 0 ∷ 0 ∷ []) (1 ∷ 1 ∷ 0 ∷ []), 5, 4)

-- the pool, its count and its root; the range; a number, and whether it fits it; the values at 0, 1 and 2
abbrev Row : Type 0
Row = (Pool × ℕ × ℕ) × Result (Option (ℕ × ℕ)) NoTree × (ℕ × Result Bool NoTree) × Result ℕ NoForm × Result ℕ NoForm × Result ℕ NoForm

abbrev rows : List Row
rows =
    -- n; an integer; each operator on n and an integer
    (alone 0 0 7, Ok (Some (0, 18446744073709551615)), (18446744073709551615, Ok false), Ok 0, Ok 1, Ok 2)
    ∷ (alone 1 0 7, Ok (Some (7, 7)), (7, Ok false), Ok 7, Ok 7, Ok 7)
    ∷ (alone n_op 0 1, Ok (Some (0, 1)), (2, Ok true), Ok 0, Ok 1, Ok 0)
    ∷ (alone (n_op + 1) 0 1, Ok (Some (0, 1)), (2, Ok true), Ok 1, Ok 0, Ok 1)
    ∷ (alone (n_op + 2) 0 1, Ok (Some (0, 1)), (1, Ok false), Ok 0, Ok 1, Ok 1)
    ∷ (alone (n_op + 3) 0 1, Ok (Some (0, 1)), (0, Ok false), Ok 1, Ok 1, Ok 0)
    ∷ (alone (n_op + 4) 0 1, Ok (Some (0, 1)), (2, Ok true), Ok 0, Ok 0, Ok 1)
    ∷ (alone (n_op + 5) 0 1, Ok (Some (0, 1)), (2, Ok true), Ok 1, Ok 0, Ok 0)
    ∷ (alone (n_op + 6) 0 2, Ok (Some (0, 1)), (2, Ok true), Ok 0, Ok 1, Ok 1)
    ∷ (alone (n_op + 7) 0 0, Ok (Some (0, 1)), (2, Ok true), Ok 0, Ok 1, Ok 1)
    ∷ (alone (n_op + 8) 0 7, Ok (Some (0, 6)), (7, Ok true), Ok 0, Ok 1, Ok 2)
    -- n % 2 != 1; n % 0 == 0; n % 9 % 2
    ∷ (alone (rest_op + 1) 2 1, Ok (Some (0, 1)), (2, Ok true), Ok 1, Ok 0, Ok 1)
    ∷ (alone rest_op 0 0, Ok None, (2, Ok false), Err no_form.ZeroModulus, Err no_form.ZeroModulus, Err no_form.ZeroModulus)
    ∷ (alone (rest_op + 8) 9 2, Ok (Some (0, 1)), (2, Ok true), Ok 0, Ok 1, Ok 0)
    -- over n: !; ? 3 : 8; % 2
    ∷ (over nay_node 8 3, Ok (Some (0, 1)), (2, Ok true), Ok 1, Ok 0, Ok 0)
    ∷ (over pick_node 8 3, Ok (Some (3, 8)), (9, Ok true), Ok 8, Ok 3, Ok 3)
    ∷ (over (value_op + 8) 8 2, Ok (Some (0, 1)), (2, Ok true), Ok 0, Ok 1, Ok 0)
    -- n < 5; n ? 3 : 5; 7 % n
    ∷ (count_first (pair_op + 5) 3, Ok (Some (0, 1)), (2, Ok true), Ok 1, Ok 1, Ok 1)
    ∷ (count_first choice_node 3, Ok (Some (3, 5)), (5, Ok false), Ok 5, Ok 3, Ok 3)
    ∷ (integer_first (pair_op + 8), Ok None, (7, Ok false), Err no_form.ZeroModulus, Ok 0, Ok 1)
    ∷ (choice, Ok (Some (0, 4)), (5, Ok true), Ok 0, Ok 1, Ok 2)
    ∷ (reached, Ok None, (2, Ok false), Err no_form.ZeroModulus, Err no_form.ZeroModulus, Err no_form.ZeroModulus)
    -- n / 2, n + 1, n - 1, n * 2; n % 9 / 2, n % 9 + 2, n % 9 - 2, n % 9 * 2
    ∷ (alone (n_op + 9) 0 2, Ok (Some (0, 0x7fffffffffffffff)), (2, Ok false), Ok 0, Ok 0, Ok 1)
    ∷ (alone (n_op + 10) 0 1, Ok (Some (0, 0xffffffffffffffff)), (2, Ok false), Ok 1, Ok 2, Ok 3)
    ∷ (alone (n_op + 11) 0 1, Ok (Some (0, 0xffffffffffffffff)), (2, Ok false), Ok 0xffffffffffffffff, Ok 0, Ok 1)
    ∷ (alone (n_op + 12) 0 2, Ok (Some (0, 0xffffffffffffffff)), (2, Ok false), Ok 0, Ok 2, Ok 4)
    ∷ (alone (rest_op + 9) 9 2, Ok (Some (0, 4)), (5, Ok true), Ok 0, Ok 0, Ok 1)
    ∷ (alone (rest_op + 10) 9 2, Ok (Some (2, 10)), (11, Ok true), Ok 2, Ok 3, Ok 4)
    ∷ (alone (rest_op + 11) 9 2, Ok (Some (0, 0xffffffffffffffff)), (2, Ok false), Ok 0xfffffffffffffffe, Ok 0xffffffffffffffff, Ok 0)
    ∷ (alone (rest_op + 12) 9 2, Ok (Some (0, 16)), (17, Ok true), Ok 0, Ok 2, Ok 4)
    -- 7 / n
    ∷ (integer_first (pair_op + 9), Ok None, (7, Ok false), Err no_form.ZeroModulus, Ok 7, Ok 3)
    -- no tree: an unknown code
    ∷ (alone (ternary_node + 1) 0 1, Err no_tree, (2, Err no_tree), Err no_form.NoTree, Err no_form.NoTree, Err no_form.NoTree)
    ∷ []

abbrev computed : Row → Row
computed ((P, c, r), _, (k, _), _, _, _) = ((P, c, r), rated_of P c r, (k, fit_of P c r k), resolved_of P c r 0, resolved_of P c r 1, resolved_of P c r 2)

pub rows_hold : map computed rows ≡ rows
unfolding resolved_of rated_of fit_of is_tree shaped used operands operands_to all_below distinct member tree_of tree_at op_of op_at
    eval_tree binary calculated negated chosen truth_v rate_tree bin_range op_range kept cond_range not_range fits_range
rows_hold = refl
