-- What makes the node exact. Evaluation goes from a node to its operands in order (`reached`), and stops where it divides by zero: so it gets to
-- one node that divides by zero, if any. THE THEOREM: where the tree has no value there is such a node (`zero_met`), and where there is one,
-- the tree has no value and the node is the one that is told (`zero_exactly`). Assumes nothing.
use mathlib.Core.Path.{◌≡◌, refl, sym, ap, ◌∙◌}
use mathlib.Core.Bool.{Bool, true, false}
use mathlib.Core.List.{List, [], ◌∷◌}
use mathlib.Core.Option as named
use mathlib.Core.Logic.{◌⊎◌, inl, inr, ⊎_elim}
use Prim.Native.Nat.{ℕ, zero, suc, ◌-◌, ◌<◌, ◌≤◌, ◌%◌, ◌/◌}
use native.Mathlib.Omega.{arith}
use lib.Dec.{ltb, eqb}
use borrow.Author.Tests.{lt-ltb, le-ltb, ltb-true, ltb-false, eq-eqb, ne_eqb, eqb-true}
use Rattle.std.specs.Prelude.{Option, Some, None}
use Rattle.rules.specs.Tree.{Tree, var, int, nay, bin, cond, Op, cmp, calc, and, or, rem, div}
use Rattle.rules.specs.Value.{pick_v, truth_v, binary, negated, chosen, eval_tree}
use Rattle.rules.specs.Operator.{op_of, Named}
use Rattle.rules.specs.Pool.{Pool, code, field, value, tree_of, leaf, one, two, member, n_op, rest_op, nay_node, pick_node, value_op, pair_op, choice_node, ternary_node}
use Rattle.rules.specs.Promise.{Sound}
use Rattle.rules.proofs.Operators.{never, named}
use Rattle.rules.proofs.Trees.{member_head, before_in, first_in, second_in, tree_leaf, tree_one, tree_two, tree_three, leaf_op, leaf_rest, one_op, two_op, down}
use Rattle.rules_operators.specs.Operator.{settled, settled_by}
use Rattle.rules_operators.proofs.Operators.{settled_any, unsettled}
use Rattle.rules_zero.specs.Zero.{value_at, second, reached, without, first_of, step_of, zero_at}
use Rattle.rules_zero.proofs.Steps.{zero_here, zero_on}

-- % and /
unfoldable pub is_division : Op → Bool
is_division (cmp k) = false
is_division (calc c) = false
is_division and = false
is_division or = false
is_division rem = true
is_division div = true

-- evaluation at n of the tree at p gets to the node at q
pub data Reaches (P : Pool) (n : ℕ) : ℕ → ℕ → Type 0 where
  here : {p : ℕ} → Reaches P n p p
  on : {p r q : ℕ} → member r (reached P n p) ≡ true → Reaches P n r q → Reaches P n p q

-- the node at q divides by zero: it is a % or /, and its operands have values, of which the right one's is 0; or it is a packed n % m op v
-- whose m is 0
pub data Divides (P : Pool) (n q : ℕ) : Type 0 where
  own : (op : Op) (s t : Tree) (x : ℕ) → tree_of P q ≡ bin op s t → is_division op ≡ true → eval_tree s n ≡ Some x → eval_tree t n ≡ Some 0 → Divides P n q
  rest : rest_op ≤ code P q → code P q < nay_node → field P q 0 ≡ 0 → Divides P n q

no : {A : Type 0} {x : ℕ} → Some x ≡ None → A
no e = let z : ◌≡◌ {A = ℕ} 0 1 = cc in absurd (omega arith)

-- which operator has no value at numbers
pub binary_zero : (op : Op) (x y : ℕ) → binary op (Some x) (Some y) ≡ None → (is_division op ≡ true) × (y ≡ 0)
unfolding binary truth_v is_division
binary_zero (cmp k) x y e = no e
binary_zero (calc c) x y e = no e
binary_zero and x y e = go (eqb x 0) e
  where
    go : (b : Bool) → pick_v b (Some 0) (truth_v (Some y)) ≡ None → (false ≡ true) × (y ≡ 0)
    go true d = no d
    go false d = no d
binary_zero or x y e = go (eqb x 0) e
  where
    go : (b : Bool) → pick_v b (truth_v (Some y)) (Some 1) ≡ None → (false ≡ true) × (y ≡ 0)
    go true d = no d
    go false d = no d
binary_zero rem x y e = go (eqb y 0) refl e
  where
    go : (b : Bool) → eqb y 0 ≡ b → pick_v b None (Some (x % y)) ≡ None → (true ≡ true) × (y ≡ 0)
    go true d f = (refl, eqb-true y 0 d)
    go false d f = no f
binary_zero div x y e = go (eqb y 0) refl e
  where
    go : (b : Bool) → eqb y 0 ≡ b → pick_v b None (Some (x / y)) ≡ None → (true ≡ true) × (y ≡ 0)
    go true d f = (refl, eqb-true y 0 d)
    go false d f = no f

-- a node that divides by zero has no value
divided : (op : Op) (x : ℕ) → is_division op ≡ true → binary op (Some x) (Some 0) ≡ None
unfolding is_division binary
divided (cmp k) x e = never e
divided (calc c) x e = never e
divided and x e = never e
divided or x e = never e
divided rem x e = refl
divided div x e = refl

-- what is settled by its left operand is no % or /
settled_value : (op : Op) (x : ℕ) (v : Option ℕ) → settled op x ≡ true → binary op (Some x) v ≡ None → ⊥
unfolding settled is_division
settled_value (cmp k) x v e f = never e
settled_value (calc c) x v e f = never e
settled_value and x v e f = never (binary_zero and x 0 (sym (settled_any and x v e) ∙ f)).0
settled_value or x v e f = never (binary_zero or x 0 (sym (settled_any or x v e) ∙ f)).0
settled_value rem x v e f = never e
settled_value div x v e f = never e

same_left : {o q : Op} {s t u v : Tree} → bin o s t ≡ bin q u v → s ≡ u
same_left e = cc

same_right : {o q : Op} {s t u v : Tree} → bin o s t ≡ bin q u v → t ≡ v
same_right e = cc

clash : {A : Type 0} {x : ℕ} {v : Option ℕ} → v ≡ Some x → v ≡ None → A
clash e f = no (sym e ∙ f)

-- an operand of a list of one or two
member_one : (a r : ℕ) → member r (a ∷ []) ≡ true → r ≡ a
unfolding member
member_one a r e = go (eqb r a) refl e
  where
    go : (b : Bool) → eqb r a ≡ b → elim b [ true ↦ true | false ↦ false ] ≡ true → r ≡ a
    go true d f = eqb-true r a d
    go false d f = never f

member_two : (a b r : ℕ) → member r (a ∷ b ∷ []) ≡ true → (r ≡ a) ⊎ (r ≡ b)
unfolding member
member_two a b r e = go (eqb r a) refl e
  where
    go : (c : Bool) → eqb r a ≡ c → elim c [ true ↦ true | false ↦ member r (b ∷ []) ] ≡ true → (r ≡ a) ⊎ (r ≡ b)
    go true d f = inl (eqb-true r a d)
    go false d f = inr (member_one b r f)

in_second : (a b : ℕ) → member b (a ∷ b ∷ []) ≡ true
unfolding member
in_second a b = go (eqb b a)
  where
    go : (c : Bool) → elim c [ true ↦ true | false ↦ member b (b ∷ []) ] ≡ true
    go true = refl
    go false = member_head b b [] refl

module _ (P : Pool) (n p : ℕ) where
  -- a node whose operands have values as far as evaluation gets to them; and one of which the last of them has none
  data Case : Type 0 where
    whole : step_of P n p ≡ p → ((r : ℕ) → member r (reached P n p) ≡ true → value_at P n r ≡ None → ⊥)
        → (value_at P n p ≡ None → Divides P n p) → Case
    broken : (q : ℕ) → step_of P n p ≡ q → q < p → member q (reached P n p) ≡ true → value_at P n q ≡ None
        → ((r : ℕ) → member r (reached P n p) ≡ true → value_at P n r ≡ None → r ≡ q)
        → value_at P n p ≡ None → (Divides P n p → ⊥) → Case

  step_is : {qs : List ℕ} → reached P n p ≡ qs → step_of P n p ≡ first_of P n p qs
  unfolding step_of
  step_is e = ap (first_of P n p) e

  whole_none : reached P n p ≡ [] → (value_at P n p ≡ None → Divides P n p) → Case
  unfolding member
  whole_none e d = whole (step_is e) (λ r m f. never (rw e at m)) d

  whole_one : {a x : ℕ} → reached P n p ≡ a ∷ [] → value_at P n a ≡ Some x → (value_at P n p ≡ None → Divides P n p) → Case
  whole_one {a} e v d =
      whole (step_is e ∙ ap (λ (w : Option ℕ). without w a p) v) (λ r m f. clash v (rw (member_one a r (rw e at m)) at f)) d

  whole_two : {a b x y : ℕ} → reached P n p ≡ a ∷ b ∷ [] → value_at P n a ≡ Some x → value_at P n b ≡ Some y
      → (value_at P n p ≡ None → Divides P n p) → Case
  whole_two {a} {b} e v w d =
      whole (step_is e ∙ ap (λ (u : Option ℕ). without u a (without (value_at P n b) b p)) v ∙ ap (λ (u : Option ℕ). without u b p) w)
      (λ r m f. ⊎_elim (λ z. clash v (rw z at f)) (λ z. clash w (rw z at f)) (member_two a b r (rw e at m))) d

  broken_one : {a : ℕ} → reached P n p ≡ a ∷ [] → value_at P n a ≡ None → a < p → value_at P n p ≡ None → (Divides P n p → ⊥) → Case
  broken_one {a} e v l z d =
      broken a (step_is e ∙ ap (λ (w : Option ℕ). without w a p) v) l (rw e (member_head a a [] refl)) v (λ r m f. member_one a r (rw e at m)) z d

  broken_two : {a b x : ℕ} → reached P n p ≡ a ∷ b ∷ [] → value_at P n a ≡ Some x → value_at P n b ≡ None → b < p → value_at P n p ≡ None
      → (Divides P n p → ⊥) → Case
  broken_two {a} {b} e v w l z d =
      broken b (step_is e ∙ ap (λ (u : Option ℕ). without u a (without (value_at P n b) b p)) v ∙ ap (λ (u : Option ℕ). without u b p) w) l (rw e (in_second a b)) w
      (λ r m f. ⊎_elim (λ k. clash v (rw k at f)) (λ k. k) (member_two a b r (rw e at m))) z d

  -- the operands that evaluation gets to, by the code
  reached_none : code P p < nay_node → reached P n p ≡ []
  unfolding reached
  reached_none h = rw (reached, lt-ltb (code P p) nay_node h)

  reached_one : nay_node ≤ code P p → code P p < pair_op → reached P n p ≡ (p - 1) ∷ []
  unfolding reached
  reached_one h l = rw (reached, le-ltb (code P p) nay_node h, lt-ltb (code P p) pair_op l)

  reached_by : {v : Option ℕ} → pair_op ≤ code P p → value_at P n (field P p 0) ≡ v → reached P n p ≡ field P p 0 ∷ second P p v
  unfolding reached
  reached_by h e =
      rw (reached, le-ltb (code P p) nay_node (omega arith), le-ltb (code P p) pair_op h) (ap (λ (v : Option ℕ). field P p 0 ∷ second P p v) e)

  reached_settled : {x : ℕ} → pair_op ≤ code P p → value_at P n (field P p 0) ≡ Some x → code P p < choice_node → settled_by (op_of (code P p - pair_op)) x ≡ true
      → reached P n p ≡ field P p 0 ∷ []
  reached_settled h e l s = reached_by h e ∙ rw (second, lt-ltb (code P p) choice_node l, s)

  reached_both : {x : ℕ} → pair_op ≤ code P p → value_at P n (field P p 0) ≡ Some x → code P p < choice_node → settled_by (op_of (code P p - pair_op)) x ≡ false
      → reached P n p ≡ field P p 0 ∷ (p - 1) ∷ []
  reached_both h e l s = reached_by h e ∙ rw (second, lt-ltb (code P p) choice_node l, s)

  reached_no : {x : ℕ} → choice_node ≤ code P p → value_at P n (field P p 0) ≡ Some x → eqb x 0 ≡ true → reached P n p ≡ field P p 0 ∷ (p - 1) ∷ []
  reached_no h e z = reached_by (omega arith) e ∙ rw (second, le-ltb (code P p) choice_node h, z)

  reached_chosen : {x : ℕ} → choice_node ≤ code P p → code P p < ternary_node → value_at P n (field P p 0) ≡ Some x → eqb x 0 ≡ false → reached P n p ≡ field P p 0 ∷ []
  reached_chosen h l e z = reached_by (omega arith) e ∙ rw (second, le-ltb (code P p) choice_node h, z, lt-ltb (code P p) ternary_node l)

  reached_yes : {x : ℕ} → ternary_node ≤ code P p → value_at P n (field P p 0) ≡ Some x → eqb x 0 ≡ false → reached P n p ≡ field P p 0 ∷ field P p 1 ∷ []
  reached_yes h e z = reached_by (omega arith) e ∙ rw (second, le-ltb (code P p) choice_node (omega arith), z, le-ltb (code P p) ternary_node h)

  -- a node that is no binary operator, or an operand of which has no value, does not itself divide by zero
  not_nay : {b : Tree} → nay_node ≤ code P p → tree_of P p ≡ nay b → Divides P n p → ⊥
  not_nay h e (own op s t x is d v w) = let k = sym e ∙ is in let z : ◌≡◌ {A = ℕ} 0 1 = cc in omega arith
  not_nay h e (rest l m z) = omega arith

  not_cond : {a b c : Tree} → nay_node ≤ code P p → tree_of P p ≡ cond a b c → Divides P n p → ⊥
  not_cond h e (own op s t x is d v w) = let k = sym e ∙ is in let z : ◌≡◌ {A = ℕ} 0 1 = cc in omega arith
  not_cond h e (rest l m z) = omega arith

  not_left : {o : Op} {a b : Tree} → nay_node ≤ code P p → tree_of P p ≡ bin o a b → eval_tree a n ≡ None → Divides P n p → ⊥
  not_left h e f (own op s t x is d v w) = let k = same_left (sym e ∙ is) in clash v (rw k at f)
  not_left h e f (rest l m z) = omega arith

  not_right : {o : Op} {a b : Tree} → nay_node ≤ code P p → tree_of P p ≡ bin o a b → eval_tree b n ≡ None → Divides P n p → ⊥
  not_right h e f (own op s t x is d v w) = let k = same_right (sym e ∙ is) in clash w (rw k at f)
  not_right h e f (rest l m z) = omega arith

  -- the value of a tree is told
  its_value : {t : Tree} {v : Option ℕ} → tree_of P p ≡ t → eval_tree t n ≡ v → value_at P n p ≡ v
  its_value e f = ap (λ (t : Tree). eval_tree t n) e ∙ f

  -- a binary operator at numbers
  divides_own : {o : Op} {a b : Tree} {x y : ℕ} → tree_of P p ≡ bin o a b → eval_tree a n ≡ Some x → eval_tree b n ≡ Some y → value_at P n p ≡ None
      → Divides P n p
  unfolding eval_tree
  divides_own {o} {a} {b} {x} {y} e v w f =
      let k : binary o (Some x) (Some y) ≡ None = sym (its_value e (ap (λ (u : Option ℕ). binary o u (eval_tree b n)) v ∙ ap (binary o (Some x)) w)) ∙ f in
      let z = binary_zero o x y k in
      own o a b x e z.0 v (w ∙ ap Some z.1)

  is_plain : code P p < n_op → tree_of P p ≡ elim (eqb (code P p) 0) [ true ↦ var | false ↦ int (value P p) ]
  is_plain h = tree_leaf P p (omega arith) ∙ rw (leaf, lt-ltb (code P p) n_op h)

  -- x ? y : b, by the value of x
  module _ {y b : Tree} (t : tree_of P p ≡ cond (tree_of P (field P p 0)) y b) where
    none_value : value_at P n (field P p 0) ≡ None → value_at P n p ≡ None
    unfolding eval_tree chosen
    none_value e = its_value t (ap (λ (u : Option ℕ). chosen u (eval_tree y n) (eval_tree b n)) e)

    no_value : {x : ℕ} → value_at P n (field P p 0) ≡ Some x → eqb x 0 ≡ true → value_at P n p ≡ eval_tree b n
    unfolding eval_tree chosen
    no_value e d =
        its_value t (ap (λ (u : Option ℕ). chosen u (eval_tree y n) (eval_tree b n)) e ∙ ap (λ (c : Bool). pick_v c (eval_tree b n) (eval_tree y n)) d)

    yes_value : {x : ℕ} → value_at P n (field P p 0) ≡ Some x → eqb x 0 ≡ false → value_at P n p ≡ eval_tree y n
    unfolding eval_tree chosen
    yes_value e d =
        its_value t (ap (λ (u : Option ℕ). chosen u (eval_tree y n) (eval_tree b n)) e ∙ ap (λ (c : Bool). pick_v c (eval_tree b n) (eval_tree y n)) d)

  module _ (s : Sound P p) where
    leaf_case : code P p < nay_node → Case
    unfolding eval_tree binary
    leaf_case h = whole_none (reached_none h) (λ f. low (ltb (code P p) n_op) refl f)
      where
        number : (b : Bool) → eval_tree (elim b [ true ↦ var | false ↦ int (value P p) ]) n ≡ None → ⊥
        number true e = no e
        number false e = no e

        modulus : (b : Bool) → rest_op ≤ code P p → eqb (field P p 0) 0 ≡ b → value_at P n p ≡ None → Divides P n p
        modulus true l e f = rest l h (eqb-true (field P p 0) 0 e)
        modulus false l e f =
            let k = named (code P p - rest_op) (omega arith) in
            divides_own (tree_leaf P p h ∙ leaf_rest (code P p) (field P p 0) (value P p) k.is l) (ap (λ (b : Bool). pick_v b None (Some (n % field P p 0))) e) refl f

        high : (b : Bool) → n_op ≤ code P p → ltb (code P p) rest_op ≡ b → value_at P n p ≡ None → Divides P n p
        high true l e f =
            let k = named (code P p - n_op) (omega (arith, ltb-true (code P p) rest_op e)) in
            divides_own (tree_leaf P p h ∙ leaf_op (code P p) (field P p 0) (value P p) k.is l (ltb-true (code P p) rest_op e)) refl refl f
        high false l e f = modulus (eqb (field P p 0) 0) (ltb-false (code P p) rest_op e) refl f

        low : (b : Bool) → ltb (code P p) n_op ≡ b → value_at P n p ≡ None → Divides P n p
        low true e f =
            absurd (number (eqb (code P p) 0) (sym (its_value (is_plain (ltb-true (code P p) n_op e)) refl) ∙ f))
        low false e f = high (ltb (code P p) rest_op) (ltb-false (code P p) n_op e) refl f

    is_nay : code P p ≡ nay_node → tree_of P p ≡ nay (tree_of P (p - 1))
    is_nay h = tree_one P p (omega arith) (omega arith) (before_in s (omega arith)) ∙ rw (one, eq-eqb (code P p) nay_node h)

    is_pick : nay_node < code P p → code P p < value_op → tree_of P p ≡ cond (tree_of P (p - 1)) (int (value P p)) (int (field P p 0))
    is_pick h l =
        tree_one P p (omega arith) (omega arith) (before_in s (omega arith)) ∙ rw (one, ne_eqb (code P p) nay_node (omega arith), lt-ltb (code P p) value_op l)

    is_one : value_op ≤ code P p → code P p < pair_op → (k : Named (code P p - value_op)) → tree_of P p ≡ bin k.op (tree_of P (p - 1)) (int (value P p))
    is_one h l k =
        tree_one P p (omega arith) l (before_in s (omega arith))
        ∙ one_op (code P p) (field P p 0) (value P p) (tree_of P (p - 1)) k.is h

    is_two : pair_op ≤ code P p → code P p < choice_node → (k : Named (code P p - pair_op)) → tree_of P p ≡ bin k.op (tree_of P (field P p 0)) (tree_of P (p - 1))
    is_two h l k =
        tree_two P p h (omega arith) (before_in s (omega arith)) (first_in s h)
        ∙ two_op (code P p) (value P p) (tree_of P (field P p 0)) (tree_of P (p - 1)) k.is l

    is_choice : choice_node ≤ code P p → code P p < ternary_node → tree_of P p ≡ cond (tree_of P (field P p 0)) (int (value P p)) (tree_of P (p - 1))
    is_choice h l = tree_two P p (omega arith) l (before_in s (omega arith)) (first_in s (omega arith)) ∙ rw (two, le-ltb (code P p) choice_node h)

    is_three : ternary_node ≤ code P p → tree_of P p ≡ cond (tree_of P (field P p 0)) (tree_of P (field P p 1)) (tree_of P (p - 1))
    is_three h = tree_three P p h (before_in s (omega arith)) (first_in s (omega arith)) (second_in s h)

    nay_case : (v : Option ℕ) → code P p ≡ nay_node → value_at P n (p - 1) ≡ v → Case
    unfolding eval_tree negated
    nay_case (Some x) h e =
        whole_one (reached_one (omega arith) (omega arith)) e (λ f. clash (its_value (is_nay h) (ap negated e)) f)
    nay_case None h e =
        broken_one (reached_one (omega arith) (omega arith)) e (before_in s (omega arith)) (its_value (is_nay h) (ap negated e)) (not_nay (omega arith) (is_nay h))

    pick_case : (v : Option ℕ) → nay_node < code P p → code P p < value_op → value_at P n (p - 1) ≡ v → Case
    unfolding eval_tree chosen
    pick_case (Some x) h l e =
        whole_one (reached_one (omega arith) (omega arith)) e
        (λ f. absurd (number (eqb x 0) (sym (its_value (is_pick h l) (ap (λ (u : Option ℕ). chosen u (Some (value P p)) (Some (field P p 0))) e)) ∙ f)))
      where
        number : (b : Bool) → pick_v b (Some (field P p 0)) (Some (value P p)) ≡ None → ⊥
        number true d = no d
        number false d = no d
    pick_case None h l e =
        broken_one (reached_one (omega arith) (omega arith)) e (before_in s (omega arith))
        (its_value (is_pick h l) (ap (λ (u : Option ℕ). chosen u (Some (value P p)) (Some (field P p 0))) e)) (not_cond (omega arith) (is_pick h l))

    one_case : (v : Option ℕ) → value_op ≤ code P p → code P p < pair_op → Named (code P p - value_op) → value_at P n (p - 1) ≡ v → Case
    unfolding eval_tree binary
    one_case (Some x) h l k e = whole_one (reached_one (omega arith) l) e (λ f. divides_own (is_one h l k) e refl f)
    one_case None h l k e =
        broken_one (reached_one (omega arith) l) e (before_in s (omega arith))
        (its_value (is_one h l k) (ap (λ (u : Option ℕ). binary k.op u (Some (value P p))) e)) (not_left (omega arith) (is_one h l k) e)

    both_case : (w : Option ℕ) {x : ℕ} → pair_op ≤ code P p → code P p < choice_node → (k : Named (code P p - pair_op)) → value_at P n (field P p 0) ≡ Some x
        → settled_by (op_of (code P p - pair_op)) x ≡ false → value_at P n (p - 1) ≡ w → Case
    unfolding eval_tree
    both_case (Some y) h l k e d f = whole_two (reached_both h e l d) e f (λ g. divides_own (is_two h l k) e f g)
    both_case None {x} h l k e d f =
        broken_two (reached_both h e l d) e f (before_in s (omega arith))
        (its_value (is_two h l k) (ap (λ (u : Option ℕ). binary k.op u (value_at P n (p - 1))) e ∙ ap (binary k.op (Some x)) f
        ∙ unsettled k.op x (sym (ap (λ (o : named.Option Op). settled_by o x) k.is) ∙ d)))
        (not_right (omega arith) (is_two h l k) f)

    two_case : (v : Option ℕ) → pair_op ≤ code P p → code P p < choice_node → Named (code P p - pair_op) → value_at P n (field P p 0) ≡ v → Case
    unfolding eval_tree binary
    two_case None h l k e =
        broken_one (reached_by h e) e (first_in s h)
        (its_value (is_two h l k) (ap (λ (u : Option ℕ). binary k.op u (value_at P n (p - 1))) e)) (not_left (omega arith) (is_two h l k) e)
    two_case (Some x) h l k e = go (settled_by (op_of (code P p - pair_op)) x) refl
      where
        go : (b : Bool) → settled_by (op_of (code P p - pair_op)) x ≡ b → Case
        go true d =
            whole_one (reached_settled h e l d) e
            (λ f. absurd (settled_value k.op x (value_at P n (p - 1)) (sym (ap (λ (o : named.Option Op). settled_by o x) k.is) ∙ d)
            (sym (its_value (is_two h l k) (ap (λ (u : Option ℕ). binary k.op u (value_at P n (p - 1))) e)) ∙ f)))
        go false d = both_case (value_at P n (p - 1)) h l k e d refl

    -- of x ? y : b, where x is 0: what b is
    no_case : (w : Option ℕ) {x : ℕ} {y : Tree} → choice_node ≤ code P p → tree_of P p ≡ cond (tree_of P (field P p 0)) y (tree_of P (p - 1))
        → value_at P n (field P p 0) ≡ Some x → eqb x 0 ≡ true → value_at P n (p - 1) ≡ w → Case
    unfolding eval_tree chosen
    no_case (Some z) {x} {y} h t e d f = whole_two (reached_no h e d) e f (λ g. clash (no_value t e d ∙ f) g)
    no_case None {x} {y} h t e d f =
        broken_two (reached_no h e d) e f (before_in s (omega arith)) (no_value t e d ∙ f) (not_cond (omega arith) t)

    -- and where it is not: what y is
    yes_case : (w : Option ℕ) {x : ℕ} → ternary_node ≤ code P p → value_at P n (field P p 0) ≡ Some x → eqb x 0 ≡ false → value_at P n (field P p 1) ≡ w → Case
    yes_case (Some z) h e d f = whole_two (reached_yes h e d) e f (λ g. clash (yes_value (is_three h) e d ∙ f) g)
    yes_case None h e d f =
        broken_two (reached_yes h e d) e f (second_in s h) (yes_value (is_three h) e d ∙ f) (not_cond (omega arith) (is_three h))

    choice_case : (v : Option ℕ) → choice_node ≤ code P p → code P p < ternary_node → value_at P n (field P p 0) ≡ v → Case
    unfolding eval_tree
    choice_case None h l e =
        broken_one (reached_by (omega arith) e) e (first_in s (omega arith)) (none_value (is_choice h l) e) (not_cond (omega arith) (is_choice h l))
    choice_case (Some x) h l e = go (eqb x 0) refl
      where
        go : (b : Bool) → eqb x 0 ≡ b → Case
        go true d = no_case (value_at P n (p - 1)) h (is_choice h l) e d refl
        go false d = whole_one (reached_chosen h l e d) e (λ g. clash (yes_value (is_choice h l) e d) g)

    three_case : (v : Option ℕ) → ternary_node ≤ code P p → value_at P n (field P p 0) ≡ v → Case
    three_case None h e =
        broken_one (reached_by (omega arith) e) e (first_in s (omega arith)) (none_value (is_three h) e) (not_cond (omega arith) (is_three h))
    three_case (Some x) h e = go (eqb x 0) refl
      where
        go : (b : Bool) → eqb x 0 ≡ b → Case
        go true d = no_case (value_at P n (p - 1)) (omega arith) (is_three h) e d refl
        go false d = yes_case (value_at P n (field P p 1)) h e d refl

    case_of : Case
    case_of = at_nay (ltb (code P p) nay_node) refl
      where
        at_ternary : (b : Bool) → choice_node ≤ code P p → ltb (code P p) ternary_node ≡ b → Case
        at_ternary true h e = choice_case (value_at P n (field P p 0)) h (ltb-true (code P p) ternary_node e) refl
        at_ternary false h e = three_case (value_at P n (field P p 0)) (ltb-false (code P p) ternary_node e) refl

        at_choice : (b : Bool) → pair_op ≤ code P p → ltb (code P p) choice_node ≡ b → Case
        at_choice true h e = let l = ltb-true (code P p) choice_node e in two_case (value_at P n (field P p 0)) h l (named _ (omega arith)) refl
        at_choice false h e = at_ternary (ltb (code P p) ternary_node) (ltb-false (code P p) choice_node e) refl

        at_pair : (b : Bool) → value_op ≤ code P p → ltb (code P p) pair_op ≡ b → Case
        at_pair true h e = let l = ltb-true (code P p) pair_op e in one_case (value_at P n (p - 1)) h l (named _ (omega arith)) refl
        at_pair false h e = at_choice (ltb (code P p) choice_node) (ltb-false (code P p) pair_op e) refl

        at_value : (b : Bool) → nay_node < code P p → ltb (code P p) value_op ≡ b → Case
        at_value true h e = pick_case (value_at P n (p - 1)) h (ltb-true (code P p) value_op e) refl
        at_value false h e = at_pair (ltb (code P p) pair_op) (ltb-false (code P p) value_op e) refl

        at_pick : (b : Bool) → nay_node ≤ code P p → ltb (code P p) pick_node ≡ b → Case
        at_pick true h e = let l = ltb-true (code P p) pick_node e in nay_case (value_at P n (p - 1)) (omega arith) refl
        at_pick false h e = at_value (ltb (code P p) value_op) (ltb-false (code P p) pick_node e) refl

        at_nay : (b : Bool) → ltb (code P p) nay_node ≡ b → Case
        at_nay true e = leaf_case (ltb-true (code P p) nay_node e)
        at_nay false e = at_pick (ltb (code P p) pick_node) (ltb-false (code P p) nay_node e) refl

    divides_fails : Divides P n p → value_at P n p ≡ None
    unfolding eval_tree binary
    divides_fails (own op a b x is d v w) =
        its_value is (ap (λ (u : Option ℕ). binary op u (eval_tree b n)) v ∙ ap (binary op (Some x)) w ∙ divided op x d)
    divides_fails (rest h l z) =
        let k = named (code P p - rest_op) (omega arith) in
        its_value (tree_leaf P p l ∙ leaf_rest (code P p) (field P p 0) (value P p) k.is h)
        (ap (λ (b : Bool). binary k.op (pick_v b None (Some (n % field P p 0))) (Some (value P p))) (eq-eqb (field P p 0) 0 z))

    -- the operands lie below
    low_two : {b r : ℕ} → pair_op ≤ code P p → b < p → member r (field P p 0 ∷ b ∷ []) ≡ true → r < p
    low_two h l m = ⊎_elim (λ z. omega (arith, first_in s h)) (λ z. omega arith) (member_two (field P p 0) _ _ m)

    low_one : {r : ℕ} → pair_op ≤ code P p → member r (field P p 0 ∷ []) ≡ true → r < p
    low_one h m = omega (arith, first_in s h, member_one (field P p 0) _ m)

    low_second : (v : Option ℕ) {r : ℕ} → pair_op ≤ code P p → member r (field P p 0 ∷ second P p v) ≡ true → r < p
    low_second None h m = low_one h m
    low_second (Some x) {r} h m = go (ltb (code P p) choice_node) refl
      where
        settles : (b : Bool) → member r (field P p 0 ∷ elim b [ true ↦ [] | false ↦ (p - 1) ∷ [] ]) ≡ true → r < p
        settles true k = low_one h k
        settles false k = low_two h (before_in s (omega arith)) k

        arm : (b : Bool) → ltb (code P p) ternary_node ≡ b → member r (field P p 0 ∷ elim b [ true ↦ [] | false ↦ field P p 1 ∷ [] ]) ≡ true → r < p
        arm true e k = low_one h k
        arm false e k = low_two h (second_in s (ltb-false (code P p) ternary_node e)) k

        chooses : (b : Bool)
            → member r (field P p 0 ∷ elim b [ true ↦ (p - 1) ∷ [] | false ↦ elim (ltb (code P p) ternary_node) [ true ↦ [] | false ↦ field P p 1 ∷ [] ] ]) ≡ true
            → r < p
        chooses true k = low_two h (before_in s (omega arith)) k
        chooses false k = arm (ltb (code P p) ternary_node) refl k

        go : (b : Bool) → ltb (code P p) choice_node ≡ b → r < p
        go true e = settles (settled_by (op_of (code P p - pair_op)) x) (rw (second, e) at m)
        go false e = chooses (eqb x 0) (rw (second, e) at m)

    reached_low : {r : ℕ} → member r (reached P n p) ≡ true → r < p
    unfolding member
    reached_low {r} m = at_nay (ltb (code P p) nay_node) refl
      where
        at_pair : (b : Bool) → nay_node ≤ code P p → ltb (code P p) pair_op ≡ b → r < p
        at_pair true h e =
            let z = member_one (p - 1) r (rw (reached_one h (ltb-true (code P p) pair_op e)) at m) in
            omega (arith, before_in s h)
        at_pair false h e = let l = ltb-false (code P p) pair_op e in low_second (value_at P n (field P p 0)) l (rw (reached_by l refl) at m)

        at_nay : (b : Bool) → ltb (code P p) nay_node ≡ b → r < p
        at_nay true e = never (rw (reached_none (ltb-true (code P p) nay_node e)) at m)
        at_nay false e = at_pair (ltb (code P p) pair_op) (ltb-false (code P p) nay_node e) refl

-- evaluation at n of the tree at p gets to the node at q, which divides by zero
pub record Meets (P : Pool) (n p q : ℕ) : Type 0 where
  pub gets : Reaches P n p q
  pub divides : Divides P n q

met_by : (P : Pool) (n p : ℕ) → Sound P p → value_at P n p ≡ None
    → ((q : ℕ) → q < p → Sound P q → value_at P n q ≡ None → Meets P n q (zero_at P n q)) → Case P n p → Meets P n p (zero_at P n p)
met_by P n p s v r (whole st vs d) = rw (← zero_here P n p st) (record { gets = here; divides = d v })
met_by P n p s v r (broken q st l m f only z no) =
    let k = r q l (down s refl l refl).1 f in
    rw (zero_on P n p s (sym st) (λ e. omega arith)) (record { gets = on m k.gets; divides = k.divides })

met_to : (P : Pool) (n f p : ℕ) → p < f → Sound P p → value_at P n p ≡ None → Meets P n p (zero_at P n p)
met_to P n zero p h s v = absurd (omega arith)
met_to P n (suc f) p h s v = met_by P n p s v (λ q l w t. met_to P n f q (omega arith) w t) (case_of P n p s)

-- where the tree has no value, the node that is told is such a one
pub zero_met : (P : Pool) (n p : ℕ) → Sound P p → value_at P n p ≡ None → Meets P n p (zero_at P n p)
zero_met P n p s v = met_to P n (suc p) p (omega arith) s v

-- and there is no other: where there is one, the tree has no value, and the one that is told is this one
exact_here : (P : Pool) (n p : ℕ) → Divides P n p → value_at P n p ≡ None → Case P n p → (value_at P n p ≡ None) × (zero_at P n p ≡ p)
exact_here P n p d v (whole st vs w) = (v, sym (zero_here P n p st))
exact_here P n p d v (broken q st l m f only z no) = absurd (no d)

exact_on : (P : Pool) (n p r q : ℕ) → Sound P p → member r (reached P n p) ≡ true → (value_at P n r ≡ None) × (zero_at P n r ≡ q) → Case P n p
    → (value_at P n p ≡ None) × (zero_at P n p ≡ q)
exact_on P n p r q s m k (whole st vs w) = absurd (vs r m k.0)
exact_on P n p r q s m k (broken o st l i f only z no) =
    (z, zero_on P n p s (sym st) (λ e. omega arith) ∙ ap (zero_at P n) (sym (only r m k.0)) ∙ k.1)

exactly : (P : Pool) (n : ℕ) {p q : ℕ} → Sound P p → Reaches P n p q → Divides P n q → (value_at P n p ≡ None) × (zero_at P n p ≡ q)
exactly P n {p} s here d = exact_here P n p d (divides_fails P n p s d) (case_of P n p s)
exactly P n {p} {q} s (on {r = r} m w) d =
    exact_on P n p r q s m (exactly P n (down s refl (reached_low P n p s m) refl).1 w d) (case_of P n p s)

pub zero_exactly : (P : Pool) (n p q : ℕ) → Sound P p → Meets P n p q → (value_at P n p ≡ None) × (zero_at P n p ≡ q)
zero_exactly P n p q s w = exactly P n s w.gets w.divides
