-- The value of a rule at a count. SPEC 6: evaluation is lazy in &&, || and ?:, works on 64-bit
-- unsigned numbers, truths are 0 and 1, and the left operand comes first. Sums, differences and products wrap, as in C; with a remainder or a quotient by zero
-- there is no value, after both operands.
use Rattle.std.specs.Prelude.{ℕ, ◌+◌, ◌-◌, ◌*◌, ◌/◌, ◌%◌, ◌^◌, Bool, true, false, not, ltb, leb, eqb, Option, Some, None}
use Rattle.rules.specs.Tree.{Tree, var, int, nay, bin, cond, Op, cmp, calc, and, or, rem, div, Cmp, eq, ne, ge, le, gt, lt, Calc, plus, minus, times}

abbrev pub truth : Bool → ℕ
truth true = 1
truth false = 0

abbrev pub compared : Cmp → ℕ → ℕ → Bool
compared eq x y = eqb x y
compared ne x y = not (eqb x y)
compared ge x y = leb y x
compared le x y = leb x y
compared gt x y = ltb y x
compared lt x y = ltb x y

-- modulo 2^64
unfoldable pub calculated : Calc → ℕ → ℕ → ℕ
calculated plus x y = (x + y) % 2 ^ 64
calculated minus x y = (2 ^ 64 + x - y) % 2 ^ 64
calculated times x y = (x * y) % 2 ^ 64

-- a value made a truth
unfoldable pub truth_v : Option ℕ → Option ℕ
truth_v (Some y) = Some (truth (not (eqb y 0)))
truth_v None = None

abbrev pub pick_v : Bool → Option ℕ → Option ℕ → Option ℕ
pick_v true v w = v
pick_v false v w = w

-- a binary operator at its operands' values: what && and || do not need is not looked at
unfoldable pub binary : Op → Option ℕ → Option ℕ → Option ℕ
unfolding calculated
binary op None w = None
binary (cmp k) (Some x) (Some y) = Some (truth (compared k x y))
binary (cmp k) (Some x) None = None
binary and (Some x) w = pick_v (eqb x 0) (Some 0) (truth_v w)
binary or (Some x) w = pick_v (eqb x 0) (truth_v w) (Some 1)
binary rem (Some x) (Some y) = pick_v (eqb y 0) None (Some (x % y))
binary rem (Some x) None = None
binary div (Some x) (Some y) = pick_v (eqb y 0) None (Some (x / y))
binary div (Some x) None = None
binary (calc c) (Some x) (Some y) = Some (calculated c x y)
binary (calc c) (Some x) None = None

unfoldable pub negated : Option ℕ → Option ℕ
negated (Some x) = Some (truth (eqb x 0))
negated None = None

unfoldable pub chosen : Option ℕ → Option ℕ → Option ℕ → Option ℕ
chosen (Some x) v w = pick_v (eqb x 0) w v
chosen None v w = None

unfoldable pub eval_tree : Tree → ℕ → Option ℕ
eval_tree var n = Some n
eval_tree (int x) n = Some x
eval_tree (nay t) n = negated (eval_tree t n)
eval_tree (bin op s t) n = binary op (eval_tree s n) (eval_tree t n)
eval_tree (cond s t u) n = chosen (eval_tree s n) (eval_tree t n) (eval_tree u n)
