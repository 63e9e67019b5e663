-- The range of a rule: its lowest and its highest value, or none where it is unrated. SPEC 7 (SPEC 6, has the rows of + - * /); a node with any unrated operand is unrated, reached or not.
use Rattle.std.specs.Prelude.{ℕ, ◌+◌, ◌-◌, ◌*◌, ◌/◌, ◌^◌, min, max, Bool, true, false, leb, ltb, eqb, Option, Some, None}
use Rattle.rules.specs.Tree.{Tree, var, int, nay, bin, cond, Op, cmp, calc, and, or, rem, div, plus, minus, times}

abbrev pub pick_r : Bool → Option (ℕ × ℕ) → Option (ℕ × ℕ) → Option (ℕ × ℕ)
pick_r true r s = r
pick_r false r s = s

abbrev pub full_range : Option (ℕ × ℕ)
full_range = Some (0, 2 ^ 64 - 1)

-- a range is kept if its highest fits 64 bits
unfoldable pub kept : ℕ → ℕ → Option (ℕ × ℕ)
kept l h = pick_r (ltb h (2 ^ 64)) (Some (l, h)) full_range

-- the table's row of a binary operator: k and h are the left operand's lowest and highest, l and m the right one's
unfoldable pub op_range : Op → ℕ → ℕ → ℕ → ℕ → Option (ℕ × ℕ)
unfolding kept
op_range (cmp c) k h l m = Some (0, 1)
op_range and k h l m = Some (0, 1)
op_range or k h l m = Some (0, 1)
op_range rem k h l m = pick_r (eqb l 0) None (Some (0, min h (m - 1)))
op_range div k h l m = pick_r (eqb l 0) None (Some (k / m, h / l))
op_range (calc plus) k h l m = kept (k + l) (h + m)
op_range (calc minus) k h l m = pick_r (leb m k) (kept (k - m) (h - l)) full_range
op_range (calc times) k h l m = kept (k * l) (h * m)

unfoldable pub not_range : Option (ℕ × ℕ) → Option (ℕ × ℕ)
not_range (Some (l, h)) = Some (0, 1)
not_range None = None

unfoldable pub bin_range : Op → Option (ℕ × ℕ) → Option (ℕ × ℕ) → Option (ℕ × ℕ)
bin_range op (Some (k, h)) (Some (l, m)) = op_range op k h l m
bin_range op (Some (k, h)) None = None
bin_range op None r = None

unfoldable pub cond_range : Option (ℕ × ℕ) → Option (ℕ × ℕ) → Option (ℕ × ℕ) → Option (ℕ × ℕ)
cond_range (Some (i, j)) (Some (k, h)) (Some (l, m)) = Some (min k l, max h m)
cond_range (Some (i, j)) (Some (k, h)) None = None
cond_range (Some (i, j)) None r = None
cond_range None q r = None

unfoldable pub rate_tree : Tree → Option (ℕ × ℕ)
rate_tree var = full_range
rate_tree (int x) = Some (x, x)
rate_tree (nay t) = not_range (rate_tree t)
rate_tree (bin op s t) = bin_range op (rate_tree s) (rate_tree t)
rate_tree (cond s t u) = cond_range (rate_tree s) (rate_tree t) (rate_tree u)

-- a rule fits k if it is rated and its highest is below k
unfoldable pub fits_range : Option (ℕ × ℕ) → ℕ → Bool
fits_range (Some (l, h)) k = ltb h k
fits_range None k = false
