-- Rules that divide by zero, with the node that meets it in their packed nodes; all compute. Assumes nothing.
use Prim.Native.Nat.{ℕ, ◌-◌}
use mathlib.Core.Path.{◌≡◌, refl}
use mathlib.Core.List.{List, [], ◌∷◌, map}
use Rattle.rules.specs.Tree.{Tree, var, int, nay, bin, cond, cmp, calc, and, or, rem, div, ne, times}
use Rattle.rules.specs.Value.{eval_tree, binary, negated, chosen, truth_v, calculated}
use Rattle.rules.specs.Operator.{op_at, op_of, op_code}
use Rattle.rules.specs.Pool.{tree_at, tree_of, operands_to, operands, all_below, used, member, distinct, shaped, is_tree}
use Rattle.rules.specs.Store.{zeros, blank}
use Rattle.rules.specs.Pack.{number_of, is_count, is_rem, left_of, pack, nodes, keep, packed_size, packed}
use Rattle.rules.specs.Answer.{resolved_of}
use Rattle.rules_operators.specs.Operator.{settled}
use Rattle.rules_zero.specs.Zero.{reached, step_of, steps, zero_at, traced_of}
use Rattle.std.specs.Prelude.{Result, Ok, Err}
use Rattle.rules_zero.specs.declared.Fault.{Fault}
use Rattle.rules_zero.specs.declared.Fault.TheVariants.{ZeroDivisor}

-- a rule, a count, and what is told of them
abbrev Row : Type 0
Row = Tree × ℕ × Result ℕ Fault

-- 1/0, and n%0
abbrev one_zero : Tree
one_zero = bin div (int 1) (int 0)

abbrev n_zero : Tree
n_zero = bin rem var (int 0)

abbrev by_count : Tree
by_count = bin rem (int 5) var

abbrev table : List Row
table =
    -- 5%n: nodes 5, n, %
    (by_count, 0, Err (ZeroDivisor 2)) ∷ (by_count, 3, Ok 2)
    -- (1/0)/(n%0): 1, b/0, n%0, /; and 1/(n%0): 1, n%0, /
    ∷ (bin div one_zero n_zero, 7, Err (ZeroDivisor 1)) ∷ (bin div (int 1) n_zero, 7, Err (ZeroDivisor 1))
    -- 0*(1/0): 0, 1, b/0, *; and n%0/3, one packed node
    ∷ (bin (calc times) (int 0) one_zero, 7, Err (ZeroDivisor 2)) ∷ (bin div n_zero (int 3), 7, Err (ZeroDivisor 0))
    -- n!=0 || 5%n: n!=0, 5, n, %, ||; with && nothing is met
    ∷ (bin or (bin (cmp ne) var (int 0)) by_count, 0, Err (ZeroDivisor 3)) ∷ (bin and (bin (cmp ne) var (int 0)) by_count, 0, Ok 0)
    -- !n ? 5%n : 1/0: n, !, 5, n, %, 1, b/0, ?:
    ∷ (cond (nay var) by_count one_zero, 0, Err (ZeroDivisor 4)) ∷ (cond (nay var) by_count one_zero, 1, Err (ZeroDivisor 6))
    ∷ []

abbrev said : Row → Result ℕ Fault
said r = traced_of (packed r.0) (packed_size r.0) (packed_size r.0 - 1) r.1

abbrev meant : Row → Result ℕ Fault
meant r = r.2

pub all_told : map said table ≡ map meant table
unfolding traced_of zero_at steps step_of reached resolved_of settled eval_tree binary negated chosen truth_v calculated op_at op_of op_code tree_at tree_of operands_to operands all_below used member distinct shaped is_tree
    zeros blank number_of is_count is_rem left_of pack nodes keep packed_size packed
all_told = refl
