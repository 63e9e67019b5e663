-- The answers of a rating at a place of a pool, by its code and its operands' ranges.
use mathlib.Core.Path.{◌≡◌, refl, sym, ◌∙◌}
use mathlib.Core.Logic.{by_cases}
use mathlib.Core.Option.{some}
use Prim.Native.Nat.{ℕ, ◌-◌, ◌<◌, ◌≤◌, min, max}
use native.Mathlib.Omega.{arith}
use native.Mathlib.Decide.{ℕ_discrete, dec_lt}
use lib.Dec.{ltb, eqb}
use borrow.Author.Tests.{lt-ltb, le-ltb, le-leb, lt-leb, eq-eqb, ne_eqb}
use Rattle.std.specs.Prelude.{Option, Some, None}
use Rattle.rules.specs.Tree.{Op, rem, var, int, bin, cond}
use Rattle.rules.specs.Operator.{op_of, op_at}
use Rattle.rules.specs.Range.{full_range, rate_tree, op_range, not_range, bin_range, cond_range}
use Rattle.rules.specs.Pool.{Pool, code, field, value, leaf, one, two, tree_of, n_op, rest_op, nay_node, value_op, pair_op, choice_node, ternary_node}
use Rattle.rules.proofs.Operators.{split, named, op_at_lem}
use Rattle.rules.proofs.InRange.{ordered}
use Rattle.rules_operators.proofs.Operators.{low_cmp, is_div}
use Rattle.rules.proofs.Trees.{tree_leaf, tree_one, tree_two, tree_three, leaf_op, leaf_rest, one_op, two_op}
use Rattle.rules_range.specs.Private.{Joins, from_to}

abbrev pub Count : Option (ℕ × ℕ)
Count = Some (0, 18446744073709551615)

-- the operators before % yield truths
pub truths : (i : ℕ) (op : Op) (k h l m : ℕ) → op_of i ≡ some op → i < 8 → op_range op k h l m ≡ Some (0, 1)
unfolding op_range op_of op_at
truths i op k h l m e b =
    by_cases (dec_lt i 6) (λ d. rw (low_cmp i op e d).is)
    (λ d. by_cases (ℕ_discrete i 6) (λ q. rw (op_at_lem i 6 e q refl)) (λ q. rw (op_at_lem i 7 e (omega arith) refl)))

-- a divisor whose lowest is 0
pub by_zero : (i : ℕ) (op : Op) (k h l m : ℕ) → op_of i ≡ some op → 7 < i → i < 10 → l ≡ 0 → op_range op k h l m ≡ None
unfolding op_range op_of op_at
by_zero i op k h l m e b c z =
    by_cases (ℕ_discrete i 8) (λ q. rw (op_at_lem i 8 e q refl, eq-eqb l 0 z)) (λ q. rw (is_div i op e b c q, eq-eqb l 0 z))

-- a range as two numbers
pub range_of_lem : (l h : ℕ) → l ≤ h → from_to l h ≡ Some (l, h)
range_of_lem l h e = rw (le-leb l h e)

pub none_of : (l h : ℕ) → h < l → from_to l h ≡ None
none_of l h e = rw (lt-leb l h e)

pub ends_of : {l h r m : ℕ} → (r ≡ l) × (m ≡ h) → l ≤ h → from_to r m ≡ Some (l, h)
ends_of {l} {h} (d, e) f = rw (d, e) (range_of_lem l h f)

none_by : {r m : ℕ} → (r ≡ 1) × (m ≡ 0) → from_to r m ≡ None
none_by (d, e) = rw (d, e)

-- that of !, and that of an integer
pub nay_of : {l h r m : ℕ} → l ≤ h → (r ≡ 0) × (m ≡ 1) → from_to r m ≡ not_range (from_to l h)
unfolding not_range
nay_of {l} {h} a e = ends_of e (omega arith) ∙ rw (range_of_lem l h a)

pub picked_of : {l h : ℕ} → l ≡ h → from_to l l ≡ Some (h, h)
picked_of {l} e = range_of_lem l l (omega arith) ∙ rw e

-- an operator's row is such a range too: that of a tree
op_ordered : (op : Op) (k h l m lo hi : ℕ) → k ≤ h → l ≤ m → op_range op k h l m ≡ Some (lo, hi) → lo ≤ hi
unfolding rate_tree bin_range cond_range
op_ordered op k h l m lo hi a b e =
    let c : min k h ≡ k = omega arith in
    let d : max k h ≡ h = omega arith in
    let f : min l m ≡ l = omega arith in
    let g : max l m ≡ m = omega arith in
    ordered (bin op (cond var (int k) (int h)) (cond var (int l) (int m))) lo hi (rw (c, d, f, g) e)

-- a binary operator on two ranges: the left is none, the right is, the operator has none, or it has one
module _ (op : Op) (k h l m : ℕ) where
  pub left_none : {i j : ℕ} → h < k → (i ≡ 1) × (j ≡ 0) → from_to i j ≡ bin_range op (from_to k h) (from_to l m)
  unfolding bin_range
  left_none a e = none_by e ∙ rw (none_of k h a)

  pub right_none : {i j : ℕ} → k ≤ h → m < l → (i ≡ 1) × (j ≡ 0) → from_to i j ≡ bin_range op (from_to k h) (from_to l m)
  unfolding bin_range
  right_none a b e = none_by e ∙ rw (range_of_lem k h a, none_of l m b)

  pub op_none : {r : Option (ℕ × ℕ)} {i j : ℕ} → k ≤ h → l ≤ m → r ≡ op_range op k h l m → r ≡ None → (i ≡ 1) × (j ≡ 0) → from_to i j ≡ bin_range op (from_to k h) (from_to l m)
  unfolding bin_range
  op_none a b d f e = none_by e ∙ sym f ∙ d ∙ rw (range_of_lem k h a, range_of_lem l m b)

  pub op_some : {r : Option (ℕ × ℕ)} {lo hi i j : ℕ} → k ≤ h → l ≤ m → r ≡ op_range op k h l m → r ≡ Some (lo, hi) → (i ≡ lo) × (j ≡ hi)
      → from_to i j ≡ bin_range op (from_to k h) (from_to l m)
  unfolding bin_range
  op_some {r} {lo} {hi} a b d f e =
      ends_of e (op_ordered op k h l m lo hi a b (sym d ∙ f)) ∙ sym f ∙ d ∙ rw (range_of_lem k h a, range_of_lem l m b)

-- ?: on two ranges, with a rated condition
module _ (k h l m : ℕ) where
  pub second_none : {i j : ℕ} → h < k → (i ≡ 1) × (j ≡ 0) → from_to i j ≡ cond_range full_range (from_to k h) (from_to l m)
  unfolding cond_range
  second_none a e = none_by e ∙ rw (none_of k h a)

  pub third_none : {i j : ℕ} → k ≤ h → m < l → (i ≡ 1) × (j ≡ 0) → from_to i j ≡ cond_range full_range (from_to k h) (from_to l m)
  unfolding cond_range
  third_none a b e = none_by e ∙ rw (range_of_lem k h a, none_of l m b)

  pub both_arms : {i j : ℕ} → k ≤ h → l ≤ m → (i ≡ min k l) × (j ≡ max h m) → from_to i j ≡ cond_range full_range (from_to k h) (from_to l m)
  unfolding cond_range
  both_arms a b e = ends_of e (omega arith) ∙ rw (range_of_lem k h a, range_of_lem l m b)

-- whichever range the condition has
pub any_condition : (l h : ℕ) (x y : Option (ℕ × ℕ)) → l ≤ h → cond_range (from_to l h) x y ≡ cond_range full_range x y
unfolding cond_range
any_condition l h (Some (i, j)) (Some (k, m)) e = rw (range_of_lem l h e)
any_condition l h (Some (i, j)) None e = rw (range_of_lem l h e)
any_condition l h None y e = rw (range_of_lem l h e)

module _ (P : Pool) (p : ℕ) where
  abbrev ra : ℕ → Option (ℕ × ℕ)
  ra q = rate_tree (tree_of P q)

  abbrev Value : Option (ℕ × ℕ)
  Value = Some (value P p, value P p)

  abbrev Small : Option (ℕ × ℕ)
  Small = Some (field P p 0, field P p 0)

  pub rate_count : code P p ≡ 0 → Count ≡ ra p
  unfolding rate_tree
  rate_count e = rw (tree_leaf P p (omega arith), e)

  module _ {v : Option (ℕ × ℕ)} (w : v ≡ Value) where
    pub rate_int : (code P p ≡ 0 → ⊥) → code P p < n_op → v ≡ ra p
    unfolding rate_tree
    rate_int d h = rw (tree_leaf P p (omega arith), leaf, lt-ltb (code P p) n_op h, ne_eqb (code P p) 0 d) w

    pub rate_op : {r : Option (ℕ × ℕ)} → n_op ≤ code P p → code P p < rest_op → Joins (code P p - n_op) Count v r → r ≡ ra p
    unfolding rate_tree
    rate_op h l e =
        let k = named (code P p - n_op) (omega arith) in
        rw (tree_leaf P p (omega arith), leaf_op (code P p) (field P p 0) (value P p) k.is h l, ← w) (e.is k.op k.is)

    pub rate_rest : {x r : Option (ℕ × ℕ)} {m : ℕ} → rest_op ≤ code P p → code P p < nay_node → m ≡ field P p 0 → x ≡ bin_range rem Count (Some (m, m))
        → Joins (code P p - rest_op) x v r → r ≡ ra p
    unfolding rate_tree
    rate_rest h l d f e =
        let k = named (code P p - rest_op) (omega arith) in
        rw (tree_leaf P p l, leaf_rest (code P p) (field P p 0) (value P p) k.is h, ← w, ← d, ← f) (e.is k.op k.is)

  module _ {b : Option (ℕ × ℕ)} (a : p - 1 < p) (g : b ≡ ra (p - 1)) where
    pub rate_nay : {r : Option (ℕ × ℕ)} → code P p ≡ nay_node → r ≡ not_range b → r ≡ ra p
    unfolding rate_tree
    rate_nay h e = rw (tree_one P p (omega arith) (omega arith) a, h, ← g) e

    -- an operand that has none
    pub rate_none : nay_node ≤ code P p → code P p < pair_op → b ≡ None → b ≡ ra p
    unfolding rate_tree not_range cond_range bin_range
    rate_none h l e =
        let u : None ≡ ra (p - 1) = sym e ∙ g in
        e ∙ split (eqb (code P p) nay_node) (λ i. rw (tree_one P p h l a, one, i, ← u))
        (λ i. split (ltb (code P p) value_op)
        (λ j. rw (tree_one P p h l a, one, i, j, ← u))
        (λ j. rw (tree_one P p h l a, one, i, j, (named (code P p - value_op) (omega arith)).is, ← u)))

    pub rate_picked : {v m r : Option (ℕ × ℕ)} → nay_node ≤ code P p → (code P p ≡ nay_node → ⊥) → code P p < value_op → v ≡ Value → m ≡ Small → r ≡ cond_range b v m → r ≡ ra p
    unfolding rate_tree
    rate_picked h d l w f e =
        rw (tree_one P p h (omega arith) a, one, ne_eqb (code P p) nay_node d, lt-ltb (code P p) value_op l, ← g, ← w, ← f) e

    pub rate_one : {v r : Option (ℕ × ℕ)} → value_op ≤ code P p → code P p < pair_op → v ≡ Value → Joins (code P p - value_op) b v r → r ≡ ra p
    unfolding rate_tree
    rate_one h l w e =
        let k = named (code P p - value_op) (omega arith) in
        rw (tree_one P p (omega arith) l a, one_op (code P p) (field P p 0) (value P p) (tree_of P (p - 1)) k.is h, ← g, ← w)
        (e.is k.op k.is)

    module _ {x : Option (ℕ × ℕ)} (f : field P p 0 < p) (i : x ≡ ra (field P p 0)) where
      pub rate_two : {r : Option (ℕ × ℕ)} → pair_op ≤ code P p → code P p < choice_node → Joins (code P p - pair_op) x b r → r ≡ ra p
      unfolding rate_tree
      rate_two h l e =
          let k = named (code P p - pair_op) (omega arith) in
          rw (tree_two P p h (omega arith) a f, two_op (code P p) (value P p) (tree_of P (field P p 0)) (tree_of P (p - 1)) k.is l, ← g, ← i)
          (e.is k.op k.is)

      -- a condition that has none
      pub rate_no_condition : choice_node ≤ code P p → (ternary_node ≤ code P p → field P p 1 < p) → {m n : ℕ} → x ≡ None → (m ≡ 1) × (n ≡ 0) → from_to m n ≡ ra p
      unfolding rate_tree cond_range
      rate_no_condition h s e d =
          let u : None ≡ ra (field P p 0) = sym e ∙ i in
          none_by d ∙ by_cases (dec_lt (code P p) ternary_node)
          (λ q. rw (tree_two P p (omega arith) q a f, two, le-ltb (code P p) choice_node h, ← u))
          (λ q. rw (tree_three P p (omega arith) a f (s (omega arith)), ← u))

      pub rate_chosen : {v r : Option (ℕ × ℕ)} → choice_node ≤ code P p → code P p < ternary_node → v ≡ Value → r ≡ cond_range x v b → r ≡ ra p
      unfolding rate_tree
      rate_chosen h l w e = rw (tree_two P p (omega arith) l a f, two, le-ltb (code P p) choice_node h, ← g, ← i, ← w) e

      pub rate_three : {y r : Option (ℕ × ℕ)} → ternary_node ≤ code P p → field P p 1 < p → y ≡ ra (field P p 1) → r ≡ cond_range x y b → r ≡ ra p
      unfolding rate_tree
      rate_three h s j e = rw (tree_three P p h a f s, ← g, ← i, ← j) e

-- what was given at a place that is this one
pub moved : (P : Pool) {l q : ℕ} {r : Option (ℕ × ℕ)} → r ≡ rate_tree (tree_of P l) → l ≡ q → r ≡ rate_tree (tree_of P q)
moved P g e = rw (← e) g
