-- The tree that a pool holds at a place, by the code there; what a walk over a sound pool knows at a place, and what the tree test tells it.
-- The definition counts down from the place; after `tree_is` nothing does.
use mathlib.Core.Path.{◌≡◌, refl, sym, ◌∙◌}
use mathlib.Core.Bool.{Bool, true, false, ◌&&◌}
use mathlib.Core.List.{List, [], ◌∷◌}
use mathlib.Core.Logic.{⊎_elim}
use mathlib.Core.Option.{some}
use Prim.Native.Nat.{ℕ, zero, suc, ◌-◌, ◌<◌, ◌≤◌}
use native.Mathlib.Omega.{arith}
use native.Mathlib.Nat.{eq-or-lt_of_le, le_of_suc-le-suc}
use lib.Dec.{ltb, leb}
use borrow.Author.Tests.{lt-ltb, le-ltb, ltb-true, leb-true, eq-eqb, ne_eqb}
use Rattle.rules.specs.Tree.{Tree, var, int, bin, cond, rem, Op}
use Rattle.rules.specs.Operator.{op_of}
use Rattle.rules.specs.Pool.{Pool, pool, code, field, value, known, leaf, one, two, node, build, below, tree_at, tree_of, fields, operands_to, operands, all_below, used, member, shaped, is_tree, n_op, rest_op, nay_node, value_op, pair_op, choice_node, ternary_node}
use Rattle.rules.specs.Promise.{Sound}
use Rattle.rules.proofs.Operators.{never, split, either}

pub both_left : (a b : Bool) → (a && b) ≡ true → a ≡ true
both_left true b e = refl
both_left false b e = e

pub both_right : (a b : Bool) → (a && b) ≡ true → b ≡ true
both_right true b e = e
both_right false b e = never e

pub member_head : (q i : ℕ) (xs : List ℕ) → i ≡ q → member i (q ∷ xs) ≡ true
unfolding member
member_head q i xs e = rw (member, eq-eqb i q e)

pub member_tail : (q i : ℕ) (xs : List ℕ) → (i ≡ q → ⊥) → member i (q ∷ xs) ≡ member i xs
unfolding member
member_tail q i xs e = rw (member, ne_eqb i q e)

pub below_in : (f : ℕ → Tree) (p q : ℕ) → q < p → below f p q ≡ f q
below_in f p q h = rw (below, lt-ltb _ _ h)

-- two ways to find the operands' trees agree below the place
below_same : (f g : ℕ → Tree) (p q : ℕ) → ((i : ℕ) → i < p → f i ≡ g i) → below f p q ≡ below g p q
below_same f g p q h = split (ltb q p) (λ e. rw (below, e) (h q (ltb-true q p e))) (λ e. rw (below, e))

pub node_same : (P : Pool) (p : ℕ) (f g : ℕ → Tree) → ((i : ℕ) → i < p → f i ≡ g i) → node P p f ≡ node P p g
node_same P p f g h = cc (below_same f g p (field P p 0) h, below_same f g p (field P p 1) h, below_same f g p (p - 1) h)

fuel : (P : Pool) (f g p : ℕ) → p < f → p < g → tree_at f P p ≡ tree_at g P p
unfolding tree_at
fuel P zero g p h k = absurd (omega arith)
fuel P (suc f) zero p h k = absurd (omega arith)
fuel P (suc f) (suc g) p h k = node_same P p (tree_at f P) (tree_at g P) (λ i l. fuel P f g i (omega arith) (omega arith))

pub tree_is : (P : Pool) (p : ℕ) → tree_of P p ≡ node P p (tree_of P)
unfolding tree_of tree_at
tree_is P p = node_same P p (tree_at p P) (tree_of P) (λ i l. fuel P p (suc i) i l (omega arith))

-- a node by how many operands its code has
module _ (c m v : ℕ) (x y b : Tree) where
  pub build_leaf : c < nay_node → build c m v x y b ≡ leaf c m v
  build_leaf h = rw (build, lt-ltb c nay_node h)

  pub build_one : nay_node ≤ c → c < pair_op → build c m v x y b ≡ one c m v b
  build_one h l = rw (build, le-ltb c nay_node h, lt-ltb c pair_op l)

  pub build_two : pair_op ≤ c → c < ternary_node → build c m v x y b ≡ two c v x b
  build_two h l = rw (build, le-ltb c nay_node (omega arith), le-ltb c pair_op h, lt-ltb c ternary_node l)

  pub build_three : ternary_node ≤ c → build c m v x y b ≡ cond x y b
  build_three h = rw (build, le-ltb c nay_node (omega arith), le-ltb c pair_op (omega arith), le-ltb c ternary_node h)

-- and by the code
module _ (c m v : ℕ) {op : Op} where
  pub leaf_op : op_of (c - n_op) ≡ some op → n_op ≤ c → c < rest_op → leaf c m v ≡ bin op var (int v)
  leaf_op e h l = rw (leaf, le-ltb c n_op h, lt-ltb c rest_op l, e)

  pub leaf_rest : op_of (c - rest_op) ≡ some op → rest_op ≤ c → leaf c m v ≡ bin op (bin rem var (int m)) (int v)
  leaf_rest e h = rw (leaf, le-ltb c n_op (omega arith), le-ltb c rest_op h, e)

  pub one_op : (b : Tree) → op_of (c - value_op) ≡ some op → value_op ≤ c → one c m v b ≡ bin op b (int v)
  one_op b e h = rw (one, ne_eqb c nay_node (omega arith), le-ltb c value_op h, e)

pub two_op : (c v : ℕ) (x b : Tree) {op : Op} → op_of (c - pair_op) ≡ some op → c < choice_node → two c v x b ≡ bin op x b
two_op c v x b e h = rw (two, lt-ltb c choice_node h, e)

-- the tree at a place likewise
module _ (P : Pool) (p : ℕ) where
  pub tree_leaf : code P p < nay_node → tree_of P p ≡ leaf (code P p) (field P p 0) (value P p)
  tree_leaf h = tree_is P p ∙ build_leaf _ _ _ _ _ _ h

  pub tree_one : nay_node ≤ code P p → code P p < pair_op → p - 1 < p → tree_of P p ≡ one (code P p) (field P p 0) (value P p) (tree_of P (p - 1))
  tree_one h l b = rw (tree_is P p, below_in (tree_of P) p (p - 1) b) (build_one _ _ _ _ _ _ h l)

  pub tree_two : pair_op ≤ code P p → code P p < ternary_node → p - 1 < p → field P p 0 < p
      → tree_of P p ≡ two (code P p) (value P p) (tree_of P (field P p 0)) (tree_of P (p - 1))
  tree_two h l b x =
      rw (tree_is P p, below_in (tree_of P) p (p - 1) b, below_in (tree_of P) p (field P p 0) x) (build_two _ _ _ _ _ _ h l)

  pub tree_three : ternary_node ≤ code P p → p - 1 < p → field P p 0 < p → field P p 1 < p
      → tree_of P p ≡ cond (tree_of P (field P p 0)) (tree_of P (field P p 1)) (tree_of P (p - 1))
  tree_three h b x y =
      rw (tree_is P p, below_in (tree_of P) p (p - 1) b, below_in (tree_of P) p (field P p 0) x, below_in (tree_of P) p (field P p 1) y)
      (build_three _ _ _ _ _ _ h)

-- an operator on two nodes has a field that is a place, and ?: has two
pub some_fields : (c : ℕ) → pair_op ≤ c → 0 < fields c
some_fields c h = rw (fields, le-ltb c pair_op h) (either (λ n. 0 < n) (ltb c ternary_node) (omega arith) (omega arith))

pub both_fields : (c : ℕ) → ternary_node ≤ c → fields c ≡ 2
both_fields c h = rw (fields, le-ltb c pair_op (omega arith), le-ltb c ternary_node h)

pub has_operands : (P : Pool) (p : ℕ) → nay_node ≤ code P p → operands P p ≡ operands_to P p (fields (code P p))
unfolding operands
has_operands P p h = rw (operands, le-ltb (code P p) nay_node h)

-- a place below the node count of a sound pool has a known code and its operands below it
in_shape : (P : Pool) (k p : ℕ) → p < k → shaped P k ≡ true → (known (code P p) && all_below p (operands P p)) ≡ true
unfolding shaped
in_shape P zero p h e = absurd (omega arith)
in_shape P (suc k) p h e =
    ⊎_elim
    (λ q. rw q (both_right (shaped P k) _ e))
    (λ l. in_shape P k p l (both_left (shaped P k) _ e))
    (eq-or-lt_of_le (le_of_suc-le-suc h))

before_low : (P : Pool) (p a : ℕ) → all_below p (operands_to P p a) ≡ true → p - 1 < p
unfolding operands_to all_below
before_low P p zero e = ltb-true _ _ (both_left (ltb (p - 1) p) true e)
before_low P p (suc a) e = before_low P p a (both_right (ltb (field P p a) p) _ e)

field_low : (P : Pool) (p a j : ℕ) → j < a → all_below p (operands_to P p a) ≡ true → field P p j < p
unfolding operands_to all_below
field_low P p zero j h e = absurd (omega arith)
field_low P p (suc a) j h e =
    ⊎_elim
    (λ q. rw q (ltb-true _ _ (both_left (ltb (field P p a) p) _ e)))
    (λ l. field_low P p a j l (both_right (ltb (field P p a) p) _ e))
    (eq-or-lt_of_le (le_of_suc-le-suc h))

module _ {P : Pool} {p : ℕ} (s : Sound P p) where
  shape_in : (known (code P p) && all_below p (operands P p)) ≡ true
  shape_in = in_shape P s.count p s.inside s.shape

  pub known_in : code P p ≤ ternary_node
  known_in = leb-true _ _ (both_left (known (code P p)) _ shape_in)

  all_in : nay_node ≤ code P p → all_below p (operands_to P p (fields (code P p))) ≡ true
  all_in h = rw (has_operands P p h) at (both_right (known (code P p)) _ shape_in)

  pub before_in : nay_node ≤ code P p → p - 1 < p
  before_in h = before_low P p (fields (code P p)) (all_in h)

  pub first_in : pair_op ≤ code P p → field P p 0 < p
  first_in h = field_low P p (fields (code P p)) 0 (some_fields (code P p) h) (all_in (omega arith))

  pub second_in : ternary_node ≤ code P p → field P p 1 < p
  second_in h = field_low P p (fields (code P p)) 1 (rw (both_fields (code P p) h) (omega arith)) (all_in (omega arith))

  pub down : {q x t : ℕ} → p ≡ t → x < p → q ≡ x → (q < t) × Sound P q
  down e l d = (omega arith, record { count = s.count; inside = omega (arith, s.inside); few = s.few; shape = s.shape })

module _ (P : Pool) (count root : ℕ) where
  pub sound : is_tree P count root ≡ true → Sound P root
  unfolding is_tree
  sound e =
      let d = both_right (leb count 512) _ e in
      record {
        count = count;
        inside = ltb-true _ _ (both_left (ltb root count) _ d);
        few = leb-true _ _ (both_left (leb count 512) _ e);
        shape = both_left (shaped P count) _ (both_right (ltb root count) _ d);
      }

-- two pools have the same code and the same fields at a place
pub record Alike (P Q : Pool) (p : ℕ) : Type 0 where
  pub code_same : code P p ≡ code Q p
  pub field_same : (j : ℕ) → j < 2 → field P p j ≡ field Q p j

-- pools that have them below k pass the test there alike: it looks at no values
fields_most : (c : ℕ) → fields c ≤ 2
fields_most c = either (λ n. n ≤ 2) (ltb c pair_op) (omega arith) (either (λ n. n ≤ 2) (ltb c ternary_node) (omega arith) (omega arith))

operands_to_lem : (P Q : Pool) (p a : ℕ) → a ≤ 2 → Alike P Q p → operands_to P p a ≡ operands_to Q p a
unfolding operands_to
operands_to_lem P Q p zero h s = refl
operands_to_lem P Q p (suc a) h s = rw (s.field_same a (omega arith), operands_to_lem P Q p a (omega arith) s)

operands_same : (P Q : Pool) (p : ℕ) → Alike P Q p → operands P p ≡ operands Q p
unfolding operands
operands_same P Q p s =
    split (ltb (code Q p) nay_node)
    (λ e. rw (operands, s.code_same, e))
    (λ e. rw (operands, s.code_same, e, s.code_same) (operands_to_lem P Q p (fields (code Q p)) (fields_most (code Q p)) s))

pub used_same : (P Q : Pool) (k : ℕ) → ((i : ℕ) → i < k → Alike P Q i) → used P k ≡ used Q k
unfolding used
used_same P Q zero h = refl
used_same P Q (suc k) h = rw (operands_same P Q k (h k (omega arith)), used_same P Q k (λ i j. h i (omega arith)))

pub shaped_same : (P Q : Pool) (k : ℕ) → ((i : ℕ) → i < k → Alike P Q i) → shaped P k ≡ shaped Q k
unfolding shaped
shaped_same P Q zero h = refl
shaped_same P Q (suc k) h =
    rw (shaped_same P Q k (λ i j. h i (omega arith)), operands_same P Q k (h k (omega arith)), (h k (omega arith)).code_same)

pub tree_any : (c s v w : List ℕ) (count root : ℕ) → is_tree (pool c s v) count root ≡ is_tree (pool c s w) count root
unfolding is_tree
tree_any c s v w count root =
    let a : (i : ℕ) → i < count → Alike (pool c s v) (pool c s w) i = λ i h. record { code_same = refl; field_same = λ j l. refl } in
    rw (shaped_same (pool c s v) (pool c s w) count a, used_same (pool c s v) (pool c s w) count a)

-- what the test told
pub told : (P : Pool) (count root : ℕ) {r b : Bool} → r ≡ is_tree (pool P.codes P.places []) count root → r ≡ b → is_tree P count root ≡ b
told P count root e d = tree_any P.codes P.places P.values [] count root ∙ sym e ∙ d
