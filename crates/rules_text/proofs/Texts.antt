-- The text of a tree is put by putting its parts' texts one after the other.
use Prim.Native.Nat.{ℕ, ◌-◌, ◌<◌, ◌≤◌}
use mathlib.Core.Path.{◌≡◌, sym, ap, ◌∙◌}
use mathlib.Core.List.{List, [], ◌∷◌, ◌++◌}
use native.Mathlib.Omega.{arith}
use borrow.Author.Tests.{lt-ltb, le-ltb, eq-eqb, ne_eqb}
use mathlib.Core.Option.{Option}
use Rattle.rules.specs.Tree.{Tree, Op, var, int, bin, rem}
use Rattle.rules.specs.Operator.{op_of}
use Rattle.rules.specs.Pool.{Pool, code, field, value, leaf, tree_of, n_op, nay_node, value_op, pair_op, choice_node, ternary_node}
use Rattle.rules.proofs.Trees.{tree_leaf}
use Rattle.rules_text.specs.Bracketed.{decimal, bracketed}
use Rattle.rules_text.specs.Private.{sign_by, lead_of, head_of, tail_of, Puts, PutsTree, PutsValue, PutsHead, PutsTail, HeadBounded, TailBounded}
use Rattle.rules_text.proofs.Laid.{reworded, joined}
use Rattle.rules_text.proofs.Nodes.{Binary, value_text}

-- n % m
pub rest_put :
    (m : ℕ) {at p q r s t : ℕ} {u v w x y z : List ℕ} →
    Puts (40 ∷ []) at u v p → Puts (110 ∷ []) p v w q → Puts (37 ∷ []) q w x r → PutsTree (int m) r x y s → Puts (41 ∷ []) s y z t →
    PutsTree (bin rem var (int m)) at u z t
unfolding bracketed
rest_put m a b c d e = record { text = joined (joined (joined (joined a b) c) d.text) e; bounded = (tt, d.bounded) }

pub put_n : {at r : ℕ} {x y : List ℕ} → Puts (110 ∷ []) at x y r → PutsTree var at x y r
unfolding bracketed
put_n w = record { text = w; bounded = tt }

pub put_rest : {m n at r : ℕ} {x y : List ℕ} → m ≡ n → PutsTree (bin rem var (int m)) at x y r → PutsTree (bin rem var (int n)) at x y r
put_rest e w = rw (← e) w

-- an operator and an integer, its last operand
pub value_put : (i v : ℕ) {at q r t : ℕ} {w x y z : List ℕ} → Puts (sign_by (op_of i)) at w x q → PutsTree (int v) q x y r → Puts (41 ∷ []) r y z t → PutsValue i v at w z t
unfolding bracketed
value_put i v a b c = record { text = joined (joined a b.text) c; bounded = b.bounded }

-- a node that has no operand
module _ (P : Pool) (p : ℕ) {at : ℕ} where
  pub put_count : {r : ℕ} {x y : List ℕ} → code P p ≡ 0 → Puts (110 ∷ []) at x y r → PutsTree (tree_of P p) at x y r
  put_count h w = let e : tree_of P p ≡ var = tree_leaf P p (omega arith) ∙ rw h in rw e (put_n w)

  pub put_integer : {r : ℕ} {x y : List ℕ} → (code P p ≡ 0 → ⊥) → code P p < n_op → PutsTree (int (value P p)) at x y r → PutsTree (tree_of P p) at x y r
  put_integer d h w =
      let e : tree_of P p ≡ int (value P p) = tree_leaf P p (omega arith) ∙ rw (leaf, lt-ltb (code P p) n_op h, ne_eqb (code P p) 0 d) in
      rw e w

  pub put_binary : {s : Tree} {g i j r : ℕ} {u v w x : List ℕ} → Binary P p g s (int (value P p)) → Puts (40 ∷ []) at u v i → PutsTree s i v w j
      → PutsValue (code P p - g) (value P p) j w x r → PutsTree (tree_of P p) at u x r
  put_binary {s} b a c d =
      record {
        text = reworded (ap bracketed b.is ∙ value_text b.named.op s (value P p)) (joined (joined a c.text) (reworded (ap (λ (o : Option Op). sign_by o ++ decimal (value P p) ++ 41 ∷ []) (sym b.named.is)) d.text));
        bounded = rw b.is (c.bounded, d.bounded);
      }

-- a node at a place that is this one
placed : (P : Pool) {q n at r : ℕ} {x y : List ℕ} → q ≡ n → PutsTree (tree_of P q) at x y r → PutsTree (tree_of P n) at x y r
placed P e w = rw (← e) w

-- what stands before and after the node before
module _ (P : Pool) (p : ℕ) {at : ℕ} where
  pub tail_not : {r : ℕ} {x y : List ℕ} → code P p ≡ nay_node → Puts (41 ∷ []) at x y r → PutsTail P p at x y r
  tail_not h w = let e = eq-eqb (code P p) nay_node h in record { text = reworded (rw (tail_of, e)) w; bounded = rw (TailBounded, e) tt }

  pub tail_pick : {i j k l m r : ℕ} {u v w x y z : List ℕ} → (code P p ≡ nay_node → ⊥) → code P p < value_op → Puts (63 ∷ []) at u v i → PutsTree (int (value P p)) i v w j
      → Puts (58 ∷ []) j w x k → m ≡ field P p 0 → PutsTree (int m) k x y l → Puts (41 ∷ []) l y z r → PutsTail P p at u z r
  unfolding bracketed
  tail_pick d h a b c e f g =
      let n = ne_eqb (code P p) nay_node d in
      let t = lt-ltb (code P p) value_op h in
      record {
        text = reworded (rw (tail_of, n, t)) (joined (joined (joined a b.text) (joined c (reworded (ap decimal (sym e)) f.text))) g);
        bounded = rw (TailBounded, n, t) (b.bounded, rw (← e) f.bounded);
      }

  pub tail_value : {r : ℕ} {x y : List ℕ} → value_op ≤ code P p → code P p < pair_op → PutsValue (code P p - value_op) (value P p) at x y r → PutsTail P p at x y r
  tail_value h l w =
      let n = ne_eqb (code P p) nay_node (omega arith) in
      let t = le-ltb (code P p) value_op h in
      let f = lt-ltb (code P p) pair_op l in
      record { text = reworded (rw (tail_of, n, t, f)) w.text; bounded = rw (TailBounded, n, t, f) w.bounded }

  pub tail_last : {r : ℕ} {x y : List ℕ} → pair_op ≤ code P p → Puts (41 ∷ []) at x y r → PutsTail P p at x y r
  tail_last h w =
      let n = ne_eqb (code P p) nay_node (omega arith) in
      let t = le-ltb (code P p) value_op (omega arith) in
      let f = le-ltb (code P p) pair_op h in
      record { text = reworded (rw (tail_of, n, t, f)) w; bounded = rw (TailBounded, n, t, f) tt }

  module _ {i : ℕ} {u v : List ℕ} (a : Puts (40 ∷ []) at u v i) where
    pub head_not : {r : ℕ} {x : List ℕ} → code P p ≡ nay_node → Puts (33 ∷ []) i v x r → PutsHead P p at u x r
    head_not h w = record { text = reworded (rw (head_of, eq-eqb (code P p) nay_node h)) (joined a w); bounded = rw (HeadBounded, lt-ltb (code P p) pair_op (omega arith)) tt }

    pub head_first : (code P p ≡ nay_node → ⊥) → code P p < pair_op → PutsHead P p at u v i
    head_first d h =
        let t = lt-ltb (code P p) pair_op h in
        record { text = reworded (rw (head_of, ne_eqb (code P p) nay_node d, t)) a; bounded = rw (HeadBounded, t) tt }

    module _ {q j : ℕ} {w : List ℕ} (h : pair_op ≤ code P p) (e : q ≡ field P p 0) (b : PutsTree (tree_of P q) i v w j) where
      lead_as : {l : List ℕ} → lead_of P p ≡ l → head_of P p ≡ 40 ∷ l
      lead_as f = rw (head_of, ne_eqb (code P p) nay_node (omega arith), le-ltb (code P p) pair_op h, f)

      first : PutsTree (tree_of P (field P p 0)) i v w j
      first = placed P e b

      pub head_sign : {r : ℕ} {x : List ℕ} → code P p < choice_node → Puts (sign_by (op_of (code P p - pair_op))) j w x r → PutsHead P p at u x r
      head_sign l c =
          let t = lt-ltb (code P p) choice_node l in
          record { text = reworded (lead_as (rw (lead_of, t))) (joined (joined a first.text) c); bounded = rw (HeadBounded, le-ltb (code P p) pair_op h, t) first.bounded }

      module _ {k : ℕ} {x : List ℕ} (l : choice_node ≤ code P p) (c : Puts (63 ∷ []) j w x k) where
        pub head_value : {m r : ℕ} {y z : List ℕ} → code P p < ternary_node → PutsTree (int (value P p)) k x y m → Puts (58 ∷ []) m y z r → PutsHead P p at u z r
        unfolding bracketed
        head_value g d f =
            let s = le-ltb (code P p) choice_node l in
            let t = lt-ltb (code P p) ternary_node g in
            record {
              text = reworded (lead_as (rw (lead_of, s, t))) (joined (joined (joined a first.text) (joined c d.text)) f);
              bounded = rw (HeadBounded, le-ltb (code P p) pair_op h, s, t) (first.bounded, d.bounded);
            }

        pub head_node : {m n r : ℕ} {y z : List ℕ} → ternary_node ≤ code P p → n ≡ field P p 1 → PutsTree (tree_of P n) k x y m → Puts (58 ∷ []) m y z r
            → PutsHead P p at u z r
        head_node g o d f =
            let s = le-ltb (code P p) choice_node l in
            let t = le-ltb (code P p) ternary_node g in
            let second = placed P o d in
            record {
              text = reworded (lead_as (rw (lead_of, s, t))) (joined (joined (joined a first.text) (joined c second.text)) f);
              bounded = rw (HeadBounded, le-ltb (code P p) pair_op h, s, t) (first.bounded, second.bounded);
            }
