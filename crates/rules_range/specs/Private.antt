-- What the functions of a rating promise one another: SPEC 7, by an operator's number.
use Rattle.std.specs.Prelude.{ℕ, ◌≡◌, leb}
use Rattle.std.proofs.Math.Option.{some}
use Rattle.std.specs.Prelude.{Option, Some, None}
use Rattle.rules.specs.Tree.{Op, calc, Calc}
use Rattle.rules.specs.Operator.{op_of}
use Rattle.rules.specs.Range.{pick_r, op_range, bin_range, rate_tree}
use Rattle.rules.specs.Pool.{Pool, tree_of}

-- operator number i on a left operand from k to h and a right one from l to m
pub record Ranges (i k h l m : ℕ) (r : Option (ℕ × ℕ)) : Type 0 where
  pub is : (op : Op) → op_of i ≡ some op → r ≡ op_range op k h l m

-- a sum, a difference or a product
pub record Calculates (i k h l m : ℕ) (r : Option (ℕ × ℕ)) : Type 0 where
  pub is : (c : Calc) → op_of i ≡ some (calc c) → r ≡ op_range (calc c) k h l m

-- the same on operands that may be unrated
pub record Joins (i : ℕ) (x y r : Option (ℕ × ℕ)) : Type 0 where
  pub is : (op : Op) → op_of i ≡ some op → r ≡ bin_range op x y

-- a range as two numbers: none where the lowest is above the highest
abbrev pub from_to : ℕ → ℕ → Option (ℕ × ℕ)
from_to l h = pick_r (leb l h) (Some (l, h)) None

-- where l and h are the range of the tree at p, k and m are that of the tree at q
pub record Lifts (P : Pool) (p q l h k m : ℕ) : Type 0 where
  pub is : from_to l h ≡ rate_tree (tree_of P p) → from_to k m ≡ rate_tree (tree_of P q)
