-- The answers of an evaluation at a place of a pool, as a number and a flag, by its code and its operands' values.
use mathlib.Core.Path.{◌≡◌, refl, sym, ap, ◌∙◌}
use mathlib.Core.Bool.{Bool, true, false}
use mathlib.Core.List.{List}
use mathlib.Core.Logic.{⊎_elim, by_cases}
use Prim.Native.Nat.{ℕ, ◌+◌, ◌*◌, ◌-◌, ◌<◌, ◌≤◌}
use native.Mathlib.Omega.{arith}
use native.Mathlib.Nat.{eq-or-lt_of_le}
use native.Mathlib.Decide.{dec_lt}
use lib.ListN.{get_or}
use lib.Dec.{eqb}
use borrow.Author.Tests.{le-leb, lt-ltb, le-ltb, ne_eqb}
use Rattle.std.specs.Prelude.{Option, Some}
use Rattle.rules.specs.Tree.{Tree, rem}
use Rattle.rules.specs.Value.{truth, binary, eval_tree}
use Rattle.rules.specs.Operator.{op_of, op_at, Named}
use Rattle.rules.specs.Pool.{Pool, code, field, value, leaf, one, two, tree_of, n_op, rest_op, nay_node, value_op, pair_op, choice_node, ternary_node}
use Rattle.rules.specs.Promise.{Sound}
use Rattle.rules_operators.specs.Operator.{settled, settled_by, Gives, Applies}
use Rattle.rules_operators.proofs.Given.{number, negation, first_arm, second_arm, left_alone, both, by_left}
use Rattle.rules.proofs.Operators.{named}
use Rattle.rules.proofs.Trees.{tree_leaf, tree_one, tree_two, tree_three, leaf_op, leaf_rest, one_op, two_op}
use Rattle.rules_tree.specs.Promise.{Run}
use Rattle.rules_value.specs.Private.{Lifts}

settles : (i x : ℕ) {s b : Bool} (k : Named i) → s ≡ settled_by (op_of i) x → s ≡ b → settled k.op x ≡ b
settles i x k e d = ap (λ o. settled_by o x) (sym k.is) ∙ sym e ∙ d

-- those of a node with no operand, by its code, its first field and its value
module _ (k m v n : ℕ) {b : Bool} {r : ℕ} where
  pub is_count : k ≡ 0 → r ≡ n → Gives (eval_tree (leaf k m v) n) b b r
  unfolding eval_tree
  is_count h e = number (rw h) e

  pub is_int : (k ≡ 0 → ⊥) → k < n_op → r ≡ v → Gives (eval_tree (leaf k m v) n) b b r
  unfolding eval_tree
  is_int d h e = number (rw (leaf, lt-ltb k n_op h, ne_eqb k 0 d)) e

  pub is_op : {c : Bool} → n_op ≤ k → k < rest_op → Applies (k - n_op) n v b c r → Gives (eval_tree (leaf k m v) n) b c r
  unfolding eval_tree
  is_op d h g = let o = named (k - n_op) (omega arith) in rw (leaf_op k m v o.is d h) (g.gives o.op o.is)

  pub is_rest : {c d : Bool} {x : ℕ} → rest_op ≤ k → k < nay_node → Applies 8 n m b c x → Applies (k - rest_op) x v c d r → Gives (eval_tree (leaf k m v) n) b d r
  unfolding eval_tree op_of op_at
  is_rest h l g w =
      let o = named (k - rest_op) (omega arith) in
      rw (leaf_rest k m v o.is h) (by_left o.op (binary rem (Some n) (Some m)) v (g.gives rem refl) (w.gives o.op o.is))

module _ (P : Pool) (p n : ℕ) where
  abbrev ev : ℕ → Option ℕ
  ev q = eval_tree (tree_of P q) n

  abbrev val : Tree → Option ℕ
  val t = eval_tree t n

  -- what was given at a place that is this one
  pub moved : {l : ℕ} {b c : Bool} {x : ℕ} → Gives (ev l) b c x → l ≡ p → Gives (ev p) b c x
  moved g e = rw (← e) g

  pub at_leaf : {b c : Bool} {m r : ℕ} → code P p < nay_node → m ≡ field P p 0 → Gives (val (leaf (code P p) m (value P p))) b c r → Gives (ev p) b c r
  at_leaf h e g = rw (tree_leaf P p h) (rw e at g)

  module _ {b c : Bool} {x : ℕ} (a : p - 1 < p) (g : Gives (ev (p - 1)) b c x) where
    pub at_nay : {r : ℕ} → code P p ≡ nay_node → r ≡ truth (eqb x 0) → Gives (ev p) b c r
    unfolding eval_tree
    at_nay h e = rw (tree_one P p (omega arith) (omega arith) a, h) (negation _ g e)

    pub at_other : {r : ℕ} → nay_node < code P p → code P p < value_op → x ≡ 0 → r ≡ field P p 0 → Gives (ev p) b c r
    unfolding eval_tree
    at_other h l z e = rw (tree_one P p (omega arith) (omega arith) a, one, ne_eqb (code P p) nay_node (omega arith), lt-ltb (code P p) value_op l) (second_arm _ _ _ g z (number refl e))

    pub at_value : {r : ℕ} → nay_node < code P p → code P p < value_op → (x ≡ 0 → ⊥) → r ≡ value P p → Gives (ev p) b c r
    unfolding eval_tree
    at_value h l z e = rw (tree_one P p (omega arith) (omega arith) a, one, ne_eqb (code P p) nay_node (omega arith), lt-ltb (code P p) value_op l) (first_arm _ _ _ g z (number refl e))

    pub at_one : {d : Bool} {r : ℕ} → value_op ≤ code P p → code P p < pair_op → Applies (code P p - value_op) x (value P p) c d r → Gives (ev p) b d r
    unfolding eval_tree
    at_one h l w =
        let k = named (code P p - value_op) (omega arith) in
        rw (tree_one P p (omega arith) l a, one_op (code P p) (field P p 0) (value P p) (tree_of P (p - 1)) k.is h)
        (by_left _ _ _ g (w.gives k.op k.is))

  module _ {b c : Bool} {x : ℕ} (a : p - 1 < p) (f : field P p 0 < p) (g : Gives (ev (field P p 0)) b c x) where
    pub at_no : {d : Bool} {r : ℕ} → choice_node ≤ code P p → (ternary_node ≤ code P p → field P p 1 < p) → x ≡ 0 → Gives (ev (p - 1)) c d r → Gives (ev p) b d r
    unfolding eval_tree
    at_no h s z k =
        by_cases (dec_lt (code P p) ternary_node)
        (λ e. rw (tree_two P p (omega arith) e a f, two, le-ltb (code P p) choice_node h) (second_arm _ _ _ g z k))
        (λ e. rw (tree_three P p (omega arith) a f (s (omega arith))) (second_arm _ _ _ g z k))

    pub at_chosen : {r : ℕ} → choice_node ≤ code P p → code P p < ternary_node → (x ≡ 0 → ⊥) → r ≡ value P p → Gives (ev p) b c r
    unfolding eval_tree
    at_chosen h l z e = rw (tree_two P p (omega arith) l a f, two, le-ltb (code P p) choice_node h) (first_arm _ _ _ g z (number refl e))

    pub at_yes : {d : Bool} {r : ℕ} → ternary_node ≤ code P p → field P p 1 < p → (x ≡ 0 → ⊥) → Gives (ev (field P p 1)) c d r → Gives (ev p) b d r
    unfolding eval_tree
    at_yes h s z k = rw (tree_three P p h a f s) (first_arm _ _ _ g z k)

    pub at_settled : {d s : Bool} {r : ℕ} → pair_op ≤ code P p → code P p < choice_node → s ≡ settled_by (op_of (code P p - pair_op)) x → s ≡ true
        → Applies (code P p - pair_op) x 0 c d r → Gives (ev p) b d r
    unfolding eval_tree
    at_settled h l e i w =
        let k = named (code P p - pair_op) (omega arith) in
        rw (tree_two P p h (omega arith) a f, two_op (code P p) (value P p) (tree_of P (field P p 0)) (tree_of P (p - 1)) k.is l)
        (left_alone _ _ _ g (settles (code P p - pair_op) x k e i) (w.gives k.op k.is))

    pub at_both : {d e s : Bool} {y r : ℕ} → pair_op ≤ code P p → code P p < choice_node → s ≡ settled_by (op_of (code P p - pair_op)) x → s ≡ false
        → Gives (ev (p - 1)) c d y → Applies (code P p - pair_op) x y d e r → Gives (ev p) b e r
    unfolding eval_tree
    at_both h l e i m w =
        let k = named (code P p - pair_op) (omega arith) in
        rw (tree_two P p h (omega arith) a f, two_op (code P p) (value P p) (tree_of P (field P p 0)) (tree_of P (p - 1)) k.is l)
        (both _ _ _ g (settles (code P p - pair_op) x k e i) m (w.gives k.op k.is))

-- from a place on
pub lift_more : {P : Pool} {p q r x y z : ℕ} {c d e : Bool} → r - 1 ≡ q → Lifts P p q x c d y → Lifts P (r - 1) r y d e z → Lifts P p r x c e z
lift_more f k l = record { gives = λ n b g. l.gives n b (rw f (k.gives n b g)) }

-- the same for the other of the two functions
pub lower : {P : Pool} {q t : ℕ} → (2 * q + 1 < t) × Sound P q → (2 * q < t) × Sound P q
lower (l, s) = (omega arith, s)

-- a run with one more node
pub topped : {codes : List ℕ} {p q : ℕ} → p - 1 < p → Run codes (p - 1) pair_op q → nay_node ≤ get_or codes p 0 → get_or codes p 0 < pair_op → Run codes p pair_op q
topped {codes} {p} a r h l =
    record {
      below = omega (arith, r.below);
      all = λ i j k. ⊎_elim (λ (e : i ≡ p). rw (e, le-leb nay_node (get_or codes p 0) h, lt-ltb (get_or codes p 0) pair_op l)) (λ m. r.all i j (omega arith)) (eq-or-lt_of_le k);
    }
