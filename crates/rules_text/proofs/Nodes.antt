-- What the node at a place of a pool is, by its code; and its text around that of the node before.
use Prim.Native.Nat.{ℕ, ◌-◌, ◌<◌, ◌≤◌}
use mathlib.Core.Path.{◌≡◌, refl, sym, ap, ◌∙◌}
use mathlib.Core.List.{List, [], ◌∷◌, ◌++◌, append_assoc}
use native.Mathlib.Omega.{arith}
use lib.Dec.{eqb, ltb}
use borrow.Author.Tests.{lt-ltb, le-ltb, ne_eqb, ltb-true, ltb-false, eqb-true, eqb-false}
use Rattle.text.proofs.Tests.{by_test}
use Rattle.rules.specs.Tree.{Tree, var, int, nay, bin, cond, Op, rem}
use Rattle.rules.specs.Operator.{Named}
use Rattle.rules.specs.Pool.{Pool, code, field, value, one, two, tree_of, n_op, rest_op, nay_node, value_op, pair_op, choice_node, ternary_node}
use Rattle.rules.specs.Promise.{Sound}
use Rattle.rules.proofs.Operators.{named}
use Rattle.rules.proofs.Trees.{before_in, first_in, second_in, tree_leaf, tree_one, tree_two, tree_three, leaf_op, leaf_rest, one_op, two_op}
use Rattle.rules_text.specs.Bracketed.{decimal, sign_of, bracketed}
use Rattle.rules_text.specs.Bounded.{Bounded}
use Rattle.rules_text.specs.Private.{lead_of, head_of, tail_of, HeadBounded, TailBounded}

-- the texts of trees, with what stands before the last operand in one piece, or what stands after the first
nay_text : (b : Tree) → bracketed (nay b) ≡ 40 ∷ 33 ∷ bracketed b ++ 41 ∷ []
unfolding bracketed
nay_text b = refl

first_text : (b s d : List ℕ) → 40 ∷ (b ++ s ++ d) ++ 41 ∷ [] ≡ (40 ∷ b) ++ (s ++ d ++ 41 ∷ [])
first_text b s d =
    ap (λ (l : List ℕ). 40 ∷ l) (ap (λ (l : List ℕ). l ++ 41 ∷ []) (append_assoc b s d) ∙ append_assoc b (s ++ d) (41 ∷ []))

pub value_text : (op : Op) (b : Tree) (v : ℕ) → bracketed (bin op b (int v)) ≡ (40 ∷ bracketed b) ++ (sign_of op ++ decimal v ++ 41 ∷ [])
unfolding bracketed
value_text op b v = first_text (bracketed b) (sign_of op) (decimal v)

pick_text : (b : Tree) (v m : ℕ) → bracketed (cond b (int v) (int m)) ≡ (40 ∷ bracketed b) ++ (63 ∷ decimal v ++ 58 ∷ decimal m ++ 41 ∷ [])
unfolding bracketed
pick_text b v m = first_text (bracketed b) (63 ∷ decimal v) (58 ∷ decimal m)

op_text : (op : Op) (x b : Tree) → bracketed (bin op x b) ≡ 40 ∷ (bracketed x ++ sign_of op) ++ bracketed b ++ 41 ∷ []
unfolding bracketed
op_text op x b = refl

cond_text : (x y b : Tree) → bracketed (cond x y b) ≡ 40 ∷ (bracketed x ++ 63 ∷ bracketed y ++ 58 ∷ []) ++ bracketed b ++ 41 ∷ []
unfolding bracketed
cond_text x y b = ap (λ (l : List ℕ). 40 ∷ l ++ 41 ∷ []) (sym (append_assoc (bracketed x ++ 63 ∷ bracketed y) (58 ∷ []) (bracketed b)))

-- a binary operator, with a code of the group that begins at g
pub record Binary (P : Pool) (p g : ℕ) (s t : Tree) : Type 0 where
  pub named : Named (code P p - g)
  pub is : tree_of P p ≡ bin named.op s t

module _ (P : Pool) (p : ℕ) where
  pub n_op_lem : n_op ≤ code P p → code P p < rest_op → Binary P p n_op var (int (value P p))
  n_op_lem h l =
      let k = named (code P p - n_op) (omega arith) in
      record { named = k; is = tree_leaf P p (omega arith) ∙ leaf_op (code P p) (field P p 0) (value P p) k.is h l }

  pub rest_op_lem : rest_op ≤ code P p → code P p < nay_node → Binary P p rest_op (bin rem var (int (field P p 0))) (int (value P p))
  rest_op_lem h l =
      let k = named (code P p - rest_op) (omega arith) in
      record { named = k; is = tree_leaf P p l ∙ leaf_rest (code P p) (field P p 0) (value P p) k.is h }

module _ {P : Pool} {p : ℕ} (s : Sound P p) where
  value_op_lem : value_op ≤ code P p → code P p < pair_op → Binary P p value_op (tree_of P (p - 1)) (int (value P p))
  value_op_lem h l =
      let k = named (code P p - value_op) (omega arith) in
      record { named = k; is = tree_one P p (omega arith) l (before_in s (omega arith)) ∙ one_op (code P p) (field P p 0) (value P p) _ k.is h }

  op : pair_op ≤ code P p → code P p < choice_node → Binary P p pair_op (tree_of P (field P p 0)) (tree_of P (p - 1))
  op h l =
      let k = named (code P p - pair_op) (omega arith) in
      record { named = k; is = tree_two P p h (omega arith) (before_in s (omega arith)) (first_in s h) ∙ two_op (code P p) (value P p) _ _ k.is l }

  negation : code P p ≡ nay_node → tree_of P p ≡ nay (tree_of P (p - 1))
  negation e = tree_one P p (omega arith) (omega arith) (before_in s (omega arith)) ∙ rw e

  pick : nay_node < code P p → code P p < value_op → tree_of P p ≡ cond (tree_of P (p - 1)) (int (value P p)) (int (field P p 0))
  pick h l =
      tree_one P p (omega arith) (omega arith) (before_in s (omega arith))
      ∙ rw (one, ne_eqb (code P p) nay_node (omega arith), lt-ltb (code P p) value_op l)

  choice : choice_node ≤ code P p → code P p < ternary_node → tree_of P p ≡ cond (tree_of P (field P p 0)) (int (value P p)) (tree_of P (p - 1))
  choice h l =
      tree_two P p (omega arith) l (before_in s (omega arith)) (first_in s (omega arith)) ∙ rw (two, le-ltb (code P p) choice_node h)

  three : ternary_node ≤ code P p → tree_of P p ≡ cond (tree_of P (field P p 0)) (tree_of P (field P p 1)) (tree_of P (p - 1))
  three h = tree_three P p h (before_in s (omega arith)) (first_in s (omega arith)) (second_in s h)

  -- the text of a node with operands, around that of the node before; and its integers are those of its operands
  pub around : nay_node ≤ code P p → (bracketed (tree_of P p) ≡ head_of P p ++ bracketed (tree_of P (p - 1)) ++ tail_of P p) × (HeadBounded P p → Bounded (tree_of P (p - 1)) → TailBounded P p → Bounded (tree_of P p))
  unfolding bracketed
  around h =
      by_test _ (eqb (code P p) nay_node)
      (λ e.
      let d = eqb-true _ nay_node e in
      rw (negation d, head_of, tail_of, HeadBounded, TailBounded, e) (nay_text (tree_of P (p - 1)), λ a b c. b)) (λ e.
      by_test _ (ltb (code P p) value_op)
      (λ f.
      let l : code P p < value_op = ltb-true _ value_op f in
      let k : nay_node < code P p = omega (arith, eqb-false (code P p) nay_node e) in
      rw (pick k l, head_of, tail_of, HeadBounded, TailBounded, e, f, lt-ltb (code P p) pair_op (omega arith)) (pick_text (tree_of P (p - 1)) (value P p) (field P p 0), λ a b c. (b, c.0, c.1)))
      (λ f.
      by_test _ (ltb (code P p) pair_op)
      (λ g. let w = value_op_lem (ltb-false _ value_op f) (ltb-true _ pair_op g) in rw (w.is, head_of, lead_of, tail_of, HeadBounded, TailBounded, e, f, g, w.named.is) (value_text w.named.op (tree_of P (p - 1)) (value P p), λ a b c. (b, c)))
      (λ g.
      by_test _ (ltb (code P p) choice_node)
      (λ i. let w = op (ltb-false _ pair_op g) (ltb-true _ choice_node i) in rw (w.is, head_of, lead_of, tail_of, HeadBounded, TailBounded, e, f, g, i, w.named.is) (op_text w.named.op (tree_of P (field P p 0)) (tree_of P (p - 1)), λ a b c. (a, b)))
      (λ i.
      by_test _ (ltb (code P p) ternary_node)
      (λ j. rw (choice (ltb-false _ choice_node i) (ltb-true _ ternary_node j), head_of, lead_of, tail_of, HeadBounded, TailBounded, e, f, g, i, j) (cond_text (tree_of P (field P p 0)) (int (value P p)) (tree_of P (p - 1)), λ a b c. (a.0, a.1, b)))
      (λ j. rw (three (ltb-false _ ternary_node j), head_of, lead_of, tail_of, HeadBounded, TailBounded, e, f, g, i, j) (cond_text (tree_of P (field P p 0)) (tree_of P (field P p 1)) (tree_of P (p - 1)), λ a b c. (a.0, a.1, b)))))))
