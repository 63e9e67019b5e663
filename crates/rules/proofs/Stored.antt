-- A tree that was stored, packed or as a reader puts it, is the tree at its last place, and passes the tree test: a node more changes no place
-- before it, pools that agree below a place hold the same trees there, and each node's operands are the last places of the trees before it, which
-- no node before it uses.
use Prim.Native.Nat.{ℕ, zero, suc, ◌+◌, ◌-◌, ◌*◌, ◌<◌, ◌≤◌}
use mathlib.Core.Path.{◌≡◌, refl, sym, ap, ◌∙◌, ap₂}
use mathlib.Core.Bool.{true, false}
use mathlib.Core.List.{List, ◌∷◌, [], ◌++◌}
use mathlib.Core.Logic.{⊎_elim}
use native.Mathlib.Omega.{arith}
use native.Mathlib.Nat.{zero-add, eq-or-lt_of_le}
use lib.ListN.{length, get_or, set, replicate, length-set, length-replicate}
use lib.Seq.{get_or-set_same, get_or-set_other}
use borrow.Author.Tests.{lt-ltb, le-ltb, le-leb}
use Rattle.rules.specs.Tree.{Tree, default_tree, cond}
use Rattle.rules.specs.Operator.{op_code}
use Rattle.rules.specs.Pool.{Pool, pool, code, field, value, build, below, tree_of, n_op, fields, operands_to, operands, all_below, member, distinct, used, shaped, is_tree, nay_node, pair_op, ternary_node}
use Rattle.rules.specs.Pool as at
use Rattle.rules.specs.Store.{push, zeros, blank}
use Rattle.rules.specs.Pack.{Packed, leaf, one, two, three, pack, nodes, keep, packed_size, packed, unpack}
use Rattle.rules.proofs.Trees.{Alike, below_in, node_same, tree_is, member_tail, both_fields, has_operands, used_same, shaped_same, build_leaf, build_one, build_two, build_three}
use Rattle.rules.proofs.Packs.{Fits}

pub nodes_pos : (x : Packed) → 0 < nodes x
unfolding nodes
nodes_pos (leaf c m v) = omega arith
nodes_pos (one c m v x) = omega arith
nodes_pos (two c v x y) = omega arith
nodes_pos (three x y z) = omega arith

-- the arrays have room for n nodes
pub record Long (P : Pool) (n : ℕ) : Type 0 where
  pub in_codes : n ≤ length P.codes
  pub in_places : 2 * n ≤ length P.places
  pub in_values : n ≤ length P.values

pub less : {P : Pool} {n : ℕ} (m : ℕ) → m ≤ n → Long P n → Long P m
less m h l = record { in_codes = omega arith; in_places = omega arith; in_values = omega arith }

-- two pools have the same node at a place
pub record Same (P Q : Pool) (p : ℕ) : Type 0 where
  pub alike : Alike P Q p
  pub value_same : value P p ≡ value Q p

pub same_as : {P Q R : Pool} {p : ℕ} → Same P Q p → Same Q R p → Same P R p
same_as s t = record {
  alike = record {
    code_same = s.alike.code_same ∙ t.alike.code_same;
    field_same = λ j h. s.alike.field_same j h ∙ t.alike.field_same j h;
  };
  value_same = s.value_same ∙ t.value_same;
}

pub itself : {P : Pool} {p : ℕ} → Same P P p
itself = record { alike = record { code_same = refl; field_same = λ j h. refl }; value_same = refl }

-- the node that a pool has at a place
pub record Node (P : Pool) (p c x y v : ℕ) : Type 0 where
  pub code_is : code P p ≡ c
  pub first_is : field P p 0 ≡ x
  pub second_is : field P p 1 ≡ y
  pub value_is : value P p ≡ v

-- a node more
module _ (P : Pool) (k c x y v : ℕ) where
  abbrev first : List ℕ
  first = set P.places (2 * k) x

  pub long_push : {n : ℕ} → Long P n → Long (push P k c x y v) n
  long_push l = record {
    in_codes = simp length-set l.in_codes;
    in_places = simp length-set l.in_places;
    in_values = simp length-set l.in_values;
  }

  pub push_below : (p : ℕ) → p < k → Same (push P k c x y v) P p
  push_below p h = record {
    alike = record {
      code_same = get_or-set_other P.codes k p c 0 (omega arith);
      field_same = λ j l. get_or-set_other first (2 * k + 1) (2 * p + j) y 0 (omega arith)
          ∙ get_or-set_other P.places (2 * k) (2 * p + j) x 0 (omega arith);
    };
    value_same = get_or-set_other P.values k p v 0 (omega arith);
  }

  pub pushed : Long P (k + 1) → Node (push P k c x y v) k c x y v
  pushed l =
      record {
        code_is = get_or-set_same P.codes k c 0 (omega (arith, l.in_codes));
        first_is = get_or-set_other first (2 * k + 1) (2 * k + 0) y 0 (omega arith)
            ∙ hit P.places (2 * k) (2 * k + 0) x (omega arith) (omega (arith, l.in_places));
        second_is = get_or-set_same first (2 * k + 1) y 0 (omega (arith, l.in_places, length-set P.places (2 * k) x));
        value_is = get_or-set_same P.values k v 0 (omega (arith, l.in_values));
      }
    where
      hit : (s : List ℕ) (i j a : ℕ) → j ≡ i → i < length s → get_or (set s i a) j 0 ≡ a
      hit s i j a e h = rw e (get_or-set_same s i a 0 h)

-- pools that agree below k hold the same trees there
frame : (f : ℕ) (P Q : Pool) (k : ℕ) → ((i : ℕ) → i < k → Same P Q i) → (p : ℕ) → p < f → p < k → tree_of P p ≡ tree_of Q p
frame zero P Q k s p h l = absurd (omega arith)
frame (suc f) P Q k s p h l =
    let e = s p l in
    tree_is P p ∙ node_same P p (tree_of P) (tree_of Q) (λ i j. frame f P Q k s i (omega arith) (omega arith))
    ∙ rw (e.alike.code_same, e.alike.field_same 0 (omega arith), e.alike.field_same 1 (omega arith), e.value_same) (sym (tree_is Q p))

-- the tree at a node, by the trees that its operands had before it was put
pub tree_at_lem : {X : Pool} {n c x y v : ℕ} → Node X n c x y v
    → tree_of X n ≡ build c x v (below (tree_of X) n x) (below (tree_of X) n y) (below (tree_of X) n (n - 1))
tree_at_lem {X} {n} k = tree_is X n ∙ rw (k.code_is, k.first_is, k.second_is, k.value_is)

-- an operand's tree is still there when its node is put: no place below m has changed since
pub earlier : (R Q : Pool) (n c x y v m q : ℕ) (t : Tree) → ((i : ℕ) → i < m → Same Q R i) → q < m → m ≤ n → tree_of R q ≡ t
    → below (tree_of (push Q n c x y v)) n q ≡ t
earlier R Q n c x y v m q t h l b e =
    below_in (tree_of (push Q n c x y v)) n q (omega arith)
    ∙ frame (suc q) (push Q n c x y v) R m (λ i j. same_as (push_below Q n c x y v i (omega arith)) (h i j)) q (omega arith) l ∙ e

-- the pool of no nodes has room for 512
zeros_are : (n : ℕ) → zeros n ≡ replicate n 0
unfolding zeros
zeros_are zero = refl
zeros_are (suc n) = ap (λ (l : List ℕ). 0 ∷ l) (zeros_are n)

pub blank_is : pool (replicate 512 0) (replicate 1024 0) (replicate 512 0) ≡ blank
unfolding blank
blank_is = rw (zeros_are 512, zeros_are 1024)

pub long_blank : Long blank 512
long_blank = rw (← blank_is) record {
  in_codes = omega (arith, length-replicate {A = ℕ} 512 0);
  in_places = omega (arith, length-replicate {A = ℕ} 1024 0);
  in_values = omega (arith, length-replicate {A = ℕ} 512 0);
}

-- xs is ys with places from k on, none twice, all below n
record Grown (xs ys : List ℕ) (k n : ℕ) : Type 0 where
  apart : distinct xs ≡ true
  above : (i : ℕ) → n ≤ i → member i xs ≡ false
  kept : (i : ℕ) → i < k → member i xs ≡ member i ys

add : {xs ys : List ℕ} {k n q : ℕ} → Grown xs ys k n → member q xs ≡ false → k ≤ q → q < n → Grown (q ∷ xs) ys k n
unfolding distinct
add {xs} {q = q} g h l b = record {
  apart = rw h g.apart;
  above = λ i j. member_tail q i xs (omega arith) ∙ g.above i j;
  kept = λ i j. member_tail q i xs (omega arith) ∙ g.kept i j;
}

-- the codes of a packed tree
abbrev pub Codes : (ℕ → Type 0) → Packed → Type 0
Codes C (leaf c m v) = C c
Codes C (one c m v x) = C c × Codes C x
Codes C (two c v x y) = C c × Codes C x × Codes C y
Codes C (three x y z) = C ternary_node × Codes C x × Codes C y × Codes C z

-- Q is P with the places from k to n: those below n pass the test, their codes are of C, and none from l on is used
record Filled (C : ℕ → Type 0) (P Q : Pool) (k n l : ℕ) : Type 0 where
  long : (m : ℕ) → Long P m → Long Q m
  same : (i : ℕ) → i < k → Same Q P i
  codes : (i : ℕ) → i < n → C (code Q i)
  shape : shaped Q n ≡ true
  uses : Grown (used Q n) (used P k) k l

again : {C : ℕ → Type 0} {P Q : Pool} {k n l : ℕ} → Filled C P Q k n l → l ≤ n → Filled C Q Q n n n
again f h = record {
  long = λ m w. w;
  same = λ i j. itself;
  codes = f.codes;
  shape = f.shape;
  uses = record { apart = f.uses.apart; above = λ i j. f.uses.above i (omega arith); kept = λ i j. refl };
}

further : {C : ℕ → Type 0} {P Q R : Pool} {j k l m n : ℕ} → Filled C Q R m n l → Filled C P Q k m j → k ≤ m → l ≤ n → Filled C P R k n n
further g f h b = record {
  long = λ m w. g.long m (f.long m w);
  same = λ i j. same_as (g.same i (omega arith)) (f.same i j);
  codes = g.codes;
  shape = g.shape;
  uses = record {
    apart = g.uses.apart;
    above = λ i j. g.uses.above i (omega arith);
    kept = λ i j. g.uses.kept i (omega arith) ∙ f.uses.kept i j;
  };
}

-- the operands of a node that was just pushed
module _ {X : Pool} {k c x y v : ℕ} (n : Node X k c x y v) where
  ops_leaf : c < nay_node → operands X k ≡ []
  unfolding operands
  ops_leaf h = rw (operands, n.code_is, lt-ltb c nay_node h)

  ops_to : (a : ℕ) → nay_node ≤ c → fields c ≡ a → operands X k ≡ operands_to X k a
  ops_to a h e = has_operands X k (rw n.code_is h) ∙ ap (operands_to X k) (ap fields n.code_is ∙ e)

  ops_one : nay_node ≤ c → c < pair_op → operands X k ≡ (k - 1) ∷ []
  unfolding operands_to
  ops_one h l = ops_to 0 h (rw (fields, lt-ltb c pair_op l))

  ops_two : pair_op ≤ c → c < ternary_node → operands X k ≡ x ∷ (k - 1) ∷ []
  unfolding operands_to
  ops_two h l = ops_to 1 (omega arith) (rw (fields, le-ltb c pair_op h, lt-ltb c ternary_node l)) ∙ rw n.first_is

  ops_three : ternary_node ≤ c → operands X k ≡ y ∷ x ∷ (k - 1) ∷ []
  unfolding operands_to
  ops_three h = ops_to 2 (omega arith) (both_fields c h) ∙ rw (n.first_is, n.second_is)

-- a node more, over operands that are below it and that none uses
module _ (C : ℕ → Type 0) (P Q : Pool) (k n c x y v : ℕ) where
  abbrev X : Pool
  X = push Q n c x y v

  node_filled : (m : ℕ) (ys : List ℕ) → m ≡ suc n → k ≤ n → Long Q (n + 1) → C c → c ≤ ternary_node → operands X n ≡ ys → all_below n ys ≡ true
      → Filled C P Q k n n → Grown (ys ++ used Q n) (used P k) k n → Filled C P X k m (m - 1)
  unfolding shaped used
  node_filled m ys e a l p h o b f g =
      let u : used X n ≡ used Q n = used_same X Q n (λ i j. (push_below Q n c x y v i j).alike) in
      let w : shaped X n ≡ true = shaped_same X Q n (λ i j. (push_below Q n c x y v i j).alike) ∙ f.shape in
      let d : used X m ≡ ys ++ used Q n = rw (e, o, u) in
      let z : m - 1 ≡ n = omega arith in
      record {
        long = λ i j. long_push Q n c x y v (f.long i j);
        same = λ i j. same_as (push_below Q n c x y v i (omega arith)) (f.same i j);
        codes = λ i j. ⊎_elim
            (λ (q : i ≡ n). rw (q, (pushed Q n c x y v l).code_is) p)
            (λ (q : i < n). rw (push_below Q n c x y v i q).alike.code_same (f.codes i q))
            (eq-or-lt_of_le (omega arith));
        shape = rw (e, w, o, (pushed Q n c x y v l).code_is, le-leb c ternary_node h, b);
        uses = rw (d, z) g;
      }

-- nodes kept from place k on: what they fill, and the tree at the last
record Kept (C : ℕ → Type 0) (x : Packed) (k : ℕ) (P : Pool) : Type 0 where
  filled : Filled C P (keep x k P) k (k + nodes x) (k + nodes x - 1)
  tree : (p : ℕ) → p + 1 ≡ k + nodes x → tree_of (keep x k P) p ≡ unpack x

same_cond : {a b c x y z : Tree} → a ≡ x → b ≡ y → c ≡ z → cond a b c ≡ cond x y z
same_cond p q r = cc

fill : (C : ℕ → Type 0) (x : Packed) (k : ℕ) (P : Pool) → Fits x → Codes C x → Long P (k + nodes x) → Filled C P P k k k → Kept C x k P
unfolding keep nodes all_below unpack
fill C (leaf c m v) k P f w l h = record {
  filled = node_filled C P P k k c m 0 v _ [] (omega arith) (omega arith) l w (omega arith) (ops_leaf (pushed P k c m 0 v l) f) refl h h.uses;
  tree = λ p e. let d : p ≡ k = omega arith in rw d (tree_at_lem (pushed P k c m 0 v l) ∙ build_leaf c m v _ _ _ f);
}
fill C (one c m v x) k P f w l h =
    let n = k + nodes x in
    let Q = keep x k P in
    let s = nodes_pos x in
    let a : Kept C x k P = fill C x k P f.2 w.1 (less n (omega arith) l) h in
    let g : Filled C P Q k n n = further a.filled h (omega arith) (omega arith) in
    let room : Long Q (n + 1) = g.long (n + 1) (less (n + 1) (omega arith) l) in
    record {
      filled = node_filled C P Q k n c m 0 v _ ((n - 1) ∷ []) (omega arith) (omega arith) room w.0 (omega (arith, f.1))
          (ops_one (pushed Q n c m 0 v room) f.0 f.1)
          (rw (lt-ltb (n - 1) n (omega arith)))
          g
          (add g.uses (a.filled.uses.above (n - 1) (omega arith)) (omega arith) (omega arith));
      tree = λ p e.
          let d : p ≡ n = omega arith in
          rw d (tree_at_lem (pushed Q n c m 0 v room) ∙ build_one c m v _ _ _ f.0 f.1
          ∙ ap (at.one c m v) (earlier Q Q n c m 0 v n (n - 1) (unpack x) (λ i j. itself) (omega arith) (omega arith) (a.tree (n - 1) (omega arith))));
    }
fill C (two c v x y) k P f w l h =
    let m = k + nodes x in
    let n = k + nodes x + nodes y in
    let R = keep x k P in
    let Q = keep y m R in
    let s = nodes_pos x in
    let t = nodes_pos y in
    let a : Kept C x k P = fill C x k P f.2 w.1 (less m (omega arith) l) h in
    let b : Kept C y m R = fill C y m R f.3 w.2 (a.filled.long n (less n (omega arith) l)) (again a.filled (omega arith)) in
    let g : Filled C P Q k n n = further b.filled a.filled (omega arith) (omega arith) in
    let room : Long Q (n + 1) = g.long (n + 1) (less (n + 1) (omega arith) l) in
    record {
      filled = node_filled C P Q k n c (m - 1) 0 v _ ((m - 1) ∷ (n - 1) ∷ []) (omega arith) (omega arith) room w.0 (omega (arith, f.1))
          (ops_two (pushed Q n c (m - 1) 0 v room) f.0 f.1)
          (rw (lt-ltb (n - 1) n (omega arith), lt-ltb (m - 1) n (omega arith)))
          g
          (add
          (add g.uses (b.filled.uses.above (n - 1) (omega arith)) (omega arith) (omega arith))
          (member_tail (n - 1) (m - 1) (used Q n) (omega arith) ∙ b.filled.uses.kept (m - 1) (omega arith)
          ∙ a.filled.uses.above (m - 1) (omega arith))
          (omega arith)
          (omega arith));
      tree = λ p e.
          let d : p ≡ n = omega arith in
          rw d (tree_at_lem (pushed Q n c (m - 1) 0 v room) ∙ build_two c (m - 1) v _ _ _ f.0 f.1
          ∙ ap₂ (at.two c v)
          (earlier R Q n c (m - 1) 0 v m (m - 1) (unpack x) b.filled.same (omega arith) (omega arith) (a.tree (m - 1) (omega arith)))
          (earlier Q Q n c (m - 1) 0 v n (n - 1) (unpack y) (λ i j. itself) (omega arith) (omega arith) (b.tree (n - 1) (omega arith))));
    }
fill C (three x y z) k P f w l h =
    let m = k + nodes x in
    let r = k + nodes x + nodes y in
    let n = k + nodes x + nodes y + nodes z in
    let R = keep x k P in
    let S = keep y m R in
    let Q = keep z r S in
    let s = nodes_pos x in
    let t = nodes_pos y in
    let u = nodes_pos z in
    let a : Kept C x k P = fill C x k P f.0 w.1 (less m (omega arith) l) h in
    let b : Kept C y m R = fill C y m R f.1 w.2 (a.filled.long r (less r (omega arith) l)) (again a.filled (omega arith)) in
    let e : Kept C z r S = fill C z r S f.2 w.3 (b.filled.long n (a.filled.long n (less n (omega arith) l))) (again b.filled (omega arith)) in
    let i : Filled C R Q m n n = further e.filled b.filled (omega arith) (omega arith) in
    let g : Filled C P Q k n n = further i a.filled (omega arith) (omega arith) in
    let room : Long Q (n + 1) = g.long (n + 1) (less (n + 1) (omega arith) l) in
    record {
      filled = node_filled C P Q k n ternary_node (m - 1) (r - 1) 0 _ ((r - 1) ∷ (m - 1) ∷ (n - 1) ∷ []) (omega arith) (omega arith) room w.0 (omega arith)
          (ops_three (pushed Q n ternary_node (m - 1) (r - 1) 0 room) (omega arith))
          (rw (lt-ltb (n - 1) n (omega arith), lt-ltb (m - 1) n (omega arith), lt-ltb (r - 1) n (omega arith)))
          g
          (add
          (add
          (add g.uses (e.filled.uses.above (n - 1) (omega arith)) (omega arith) (omega arith))
          (member_tail (n - 1) (m - 1) (used Q n) (omega arith) ∙ i.uses.kept (m - 1) (omega arith) ∙ a.filled.uses.above (m - 1) (omega arith))
          (omega arith)
          (omega arith))
          (member_tail (m - 1) (r - 1) ((n - 1) ∷ used Q n) (omega arith) ∙ member_tail (n - 1) (r - 1) (used Q n) (omega arith)
          ∙ e.filled.uses.kept (r - 1) (omega arith) ∙ b.filled.uses.above (r - 1) (omega arith))
          (omega arith)
          (omega arith));
      tree = λ p q.
          let d : p ≡ n = omega arith in
          rw d (tree_at_lem (pushed Q n ternary_node (m - 1) (r - 1) 0 room) ∙ build_three ternary_node (m - 1) 0 _ _ _ (omega arith)
          ∙ same_cond
          (earlier R Q n ternary_node (m - 1) (r - 1) 0 m (m - 1) (unpack x) i.same (omega arith) (omega arith) (a.tree (m - 1) (omega arith)))
          (earlier S Q n ternary_node (m - 1) (r - 1) 0 r (r - 1) (unpack y) e.filled.same (omega arith) (omega arith) (b.tree (r - 1) (omega arith)))
          (earlier Q Q n ternary_node (m - 1) (r - 1) 0 n (n - 1) (unpack z) (λ i j. itself) (omega arith) (omega arith) (e.tree (n - 1) (omega arith))));
    }

-- nodes for a tree of at most 512, kept from place 0 on, are a tree with its root at the last place, and it is the tree there
module _ (C : ℕ → Type 0) (x : Packed) (f : Fits x) (w : Codes C x) (h : nodes x ≤ 512) where
  kept : Kept C x 0 blank
  unfolding shaped used distinct member
  kept = fill C x 0 blank f w (less (0 + nodes x) (omega arith) long_blank) record {
    long = λ m l. l;
    same = λ i j. itself;
    codes = λ i j. absurd (omega arith);
    shape = refl;
    uses = record { apart = refl; above = λ i j. refl; kept = λ i j. refl };
  }

  pub kept_codes : (q : ℕ) → q < nodes x → C (code (keep x 0 blank) q)
  kept_codes q l = kept.filled.codes q (omega arith)

  pub kept_tree : tree_of (keep x 0 blank) (nodes x - 1) ≡ unpack x
  kept_tree = kept.tree (nodes x - 1) (omega (arith, nodes_pos x))

  pub kept_is_tree : is_tree (keep x 0 blank) (nodes x) (nodes x - 1) ≡ true
  unfolding is_tree
  kept_is_tree =
      let s : shaped (keep x 0 blank) (nodes x) ≡ true = rw zero-add at kept.filled.shape in
      let d : distinct (used (keep x 0 blank) (nodes x)) ≡ true = rw zero-add at kept.filled.uses.apart in
      rw (le-leb (nodes x) 512 h, lt-ltb (nodes x - 1) (nodes x) (omega (arith, nodes_pos x)), s, d)

-- whatever the codes
pub any : (x : Packed) → Codes (λ c. Unit {0}) x
any (leaf c m v) = tt
any (one c m v x) = (tt, any x)
any (two c v x y) = (tt, any x, any y)
any (three x y z) = (tt, any x, any y, any z)

-- the default rule is one node
pub default_node : {P Q : Pool} → Q ≡ push P 0 (n_op + 1) 0 0 1 → P ≡ blank → Q ≡ packed default_tree
unfolding packed keep pack op_code
default_node e d = e ∙ ap (λ (R : Pool). push R 0 (n_op + 1) 0 0 1) d

pub packed_pos : (t : Tree) → 0 < packed_size t
unfolding packed_size
packed_pos t = nodes_pos (pack t)
