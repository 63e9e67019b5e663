-- Packing place by place: what the nodes that a reader left say of the tree, what is packed then, and how much room it takes.
use mathlib.Core.Path.{◌≡◌, refl, sym, ap, ◌∙◌}
use mathlib.Core.Bool.{true, false, ◌&&◌}
use mathlib.Core.Logic.{by_cases}
use Prim.Native.Nat.{ℕ, ◌+◌, ◌-◌, ◌<◌, ◌≤◌}
use native.Mathlib.Omega.{arith}
use native.Mathlib.Decide.{ℕ_discrete}
use lib.ListN.{replicate}
use lib.Dec.{leb, ltb}
use borrow.Author.Tests.{ne_eqb, lt-leb, leb-true, ltb-true}
use Rattle.std.specs.Prelude.{Option, Some, None}
use Rattle.rules.specs.Tree.{Tree, var, int, nay, bin, cond, Op, cmp, and, or, rem, calc, div}
use Rattle.rules.specs.Operator.{op_of, op_at, op_code, Named}
use Rattle.rules.specs.Pool.{Pool, pool, code, value, field, tree_of, n_op, rest_op, nay_node, pick_node, value_op, pair_op, choice_node, ternary_node}
use Rattle.rules.specs.Promise.{plain, Plain}
use Rattle.rules.specs.declared.Left.{Left}
use Rattle.rules.specs.declared.Left.TheVariants as left
use Rattle.rules.specs.Store.{push}
use Rattle.rules.specs.Pack.{Packed, leaf, one, two, three, number_of, small_by, is_count, is_rem, rest_by, left_of, pack_bin, pack_cond, pack, nodes, keep, packed_size, packed}
use Rattle.rules.proofs.Operators.{named as operator, code_is, op_at_lem}
use Rattle.rules.proofs.Trees.{both_left, both_right, before_in, first_in, second_in, down, tree_leaf, tree_one, tree_two, tree_three, two_op}
use Rattle.rules.proofs.Stored.{packed_pos, blank_is}
use Rattle.rules_pack.specs.Private.{Packs, number_at}

-- the code of an operator on two nodes
abbrev pub Pair : ℕ → Type 0
Pair c = (pair_op ≤ c) × (c < choice_node)

-- a reader's code that is neither n nor an integer has an operand, one that is not ! has two, and one that is not ?: is an operator's
module _ (c : ℕ) (e : plain c ≡ true) (h0 : c ≡ 0 → ⊥) (h1 : c ≡ 1 → ⊥) where
  rest_of : (c ≡ nay_node → ⊥) → (c ≡ ternary_node → ⊥) → Pair c
  rest_of h2 h3 =
      let d : (leb pair_op c && ltb c choice_node) ≡ true = rw (lt-leb c 1 (omega arith), ne_eqb c nay_node h2, ne_eqb c ternary_node h3) at e in
      (leb-true pair_op c (both_left _ (ltb c choice_node) d), ltb-true c choice_node (both_right (leb pair_op c) _ d))

  past_not : (c ≡ nay_node → ⊥) → pair_op ≤ c
  past_not h2 = by_cases (ℕ_discrete c ternary_node) (λ d. omega arith) (λ d. (rest_of h2 d).0)

  past_leaf : nay_node ≤ c
  past_leaf = by_cases (ℕ_discrete c nay_node) (λ d. omega arith) (λ d. omega (arith, past_not d))

-- what a sound place up to which a reader wrote knows
module _ {P : Pool} {p : ℕ} (s : Plain P p) where
  here : plain (code P p) ≡ true
  here = s.codes p (omega arith)

  pub last_in_lem : (code P p ≡ 0 → ⊥) → (code P p ≡ 1 → ⊥) → p - 1 < p
  last_in_lem e f = before_in s.sound (past_leaf (code P p) here e f)

  pub left_in : (code P p ≡ 0 → ⊥) → (code P p ≡ 1 → ⊥) → (code P p ≡ nay_node → ⊥) → field P p 0 < p
  left_in e f g = first_in s.sound (past_not (code P p) here e f g)

  pub mid_in : code P p ≡ ternary_node → field P p 1 < p
  mid_in e = second_in s.sound (omega arith)

  pub binary : (code P p ≡ 0 → ⊥) → (code P p ≡ 1 → ⊥) → (code P p ≡ nay_node → ⊥) → (code P p ≡ ternary_node → ⊥) → Pair (code P p)
  binary e f g h = rest_of (code P p) here e f g h

  pub lower : {q x t : ℕ} → p ≡ t → x < p → q ≡ x → (q < t) × Plain P q
  lower e l d = (omega arith, record { sound = (down s.sound e l d).1; codes = λ i j. s.codes i (omega arith) })

  pub inside : {q x : ℕ} → x < p → q ≡ x → q < 512
  inside l d = omega (arith, s.sound.inside, s.sound.few)

  pub high : p < 512
  high = omega (arith, s.sound.inside, s.sound.few)

  named : Pair (code P p) → Named (code P p - pair_op)
  named e = operator (code P p - pair_op) (omega (arith, e.1))

  abbrev T : ℕ → Tree
  T q = tree_of P q

  tree_var : code P p ≡ 0 → T p ≡ var
  tree_var e = rw (tree_leaf P p (omega arith), e)

  tree_int : code P p ≡ 1 → T p ≡ int (value P p)
  tree_int e = rw (tree_leaf P p (omega arith), e)

  tree_nay : code P p ≡ nay_node → T p ≡ nay (T (p - 1))
  tree_nay e = rw (tree_one P p (omega arith) (omega arith) (before_in s.sound (omega arith)), e)

  tree_cond : code P p ≡ ternary_node → T p ≡ cond (T (field P p 0)) (T (field P p 1)) (T (p - 1))
  tree_cond e =
      tree_three P p (omega arith) (before_in s.sound (omega arith)) (first_in s.sound (omega arith)) (second_in s.sound (omega arith))

  tree_bin : (e : Pair (code P p)) → T p ≡ bin (named e).op (T (field P p 0)) (T (p - 1))
  tree_bin e =
      tree_two P p (omega arith) (omega arith) (before_in s.sound (omega arith)) (first_in s.sound (omega arith))
      ∙ two_op (code P p) (value P p) _ _ (named e).is (omega arith)

  -- what holds of each kind of node holds of this one
  pub of_each : (Q : Tree → Type 0) → (code P p ≡ 0 → Q var) → (code P p ≡ 1 → Q (int (value P p)))
      → ((code P p ≡ 0 → ⊥) → (code P p ≡ 1 → ⊥) → (t : Tree) → Q (nay t)) → ((code P p ≡ 0 → ⊥) → (code P p ≡ 1 → ⊥) → (t u v : Tree) → Q (cond t u v))
      → ((code P p ≡ 0 → ⊥) → (code P p ≡ 1 → ⊥) → (op : Op) → op_code op ≡ code P p - pair_op → Pair (code P p) → (t u : Tree) → Q (bin op t u)) → Q (T p)
  of_each Q q0 q1 q2 q3 q4 =
      by_cases (ℕ_discrete (code P p) 0) (λ e. rw (tree_var e) (q0 e))
      (λ e. by_cases (ℕ_discrete (code P p) 1) (λ f. rw (tree_int f) (q1 f))
      (λ f. by_cases (ℕ_discrete (code P p) nay_node) (λ g. rw (tree_nay g) (q2 e f _))
      (λ g. by_cases (ℕ_discrete (code P p) ternary_node) (λ h. rw (tree_cond h) (q3 e f _ _ _))
      (λ h. let k = binary e f g h in rw (tree_bin k) (q4 e f (named k).op (code_is _ (named k).op (named k).is) k _ _)))))

  pub number_at_lem : number_of (T p) ≡ number_at (code P p) (value P p)
  unfolding number_of
  number_at_lem =
      of_each (λ t. number_of t ≡ number_at (code P p) (value P p))
      (λ e. rw (number_at, e))
      (λ e. rw (number_at, e))
      (λ e f t. rw (number_at, ne_eqb _ _ f))
      (λ e f t u v. rw (number_at, ne_eqb _ _ f))
      (λ e f op g h t u. rw (number_at, ne_eqb _ _ f))

  not_count : (code P p ≡ 0 → ⊥) → is_count (T p) ≡ false
  unfolding is_count
  not_count h = of_each (λ t. is_count t ≡ false) (λ e. absurd (h e)) (λ e. refl) (λ e f t. refl) (λ e f t u v. refl) (λ e f op g k t u. refl)

not_rem : (op : Op) → (op_code op ≡ 8 → ⊥) → is_rem op ≡ false
unfolding is_rem op_code
not_rem (cmp k) h = refl
not_rem and h = refl
not_rem or h = refl
not_rem rem h = absurd (h refl)
not_rem div h = refl
not_rem (calc k) h = refl

-- the answers of `left_of`
module _ {P : Pool} {p : ℕ} (s : Plain P p) where
  pub left_count : code P p ≡ 0 → left.Count ≡ left_of (tree_of P p)
  unfolding left_of
  left_count e = rw (tree_var s e)

  pub left_other : (code P p ≡ 0 → ⊥) → (code P p ≡ pair_op + 8 → ⊥) → left.Other ≡ left_of (tree_of P p)
  unfolding left_of
  left_other e f =
      of_each s (λ t. left.Other ≡ left_of t) (λ g. absurd (e g)) (λ g. refl) (λ g h t. refl) (λ g h t u v. refl)
      (λ g h op i k t u. rw (left_of, not_rem op (λ j. f (omega arith))))

  -- n % m: the code says so, and what its operands' places hold
  module _ (e : code P p ≡ pair_op + 8) where
    group : Pair (code P p)
    group = (omega arith, omega arith)

    rem_here : left_of (tree_of P p) ≡ elim (is_count (tree_of P (field P p 0))) [ true ↦ rest_by (small_by (number_of (tree_of P (p - 1)))) | false ↦ left.Other ]
    unfolding left_of is_rem op_of op_at
    rem_here = rw (tree_bin s group, op_at_lem (code P p - pair_op) 8 (named s group).is (omega arith) refl)

    left_at : Plain P (field P p 0)
    left_at = (lower s refl (first_in s.sound (omega arith)) refl).1

    right_at : Plain P (p - 1)
    right_at = (lower s refl (before_in s.sound (omega arith)) refl).1

    pub left_no_count : {l : ℕ} → l ≡ field P p 0 → (code P l ≡ 0 → ⊥) → left.Other ≡ left_of (tree_of P p)
    left_no_count d h = sym (rem_here ∙ rw (not_count left_at (rw d at h)))

    pub left_rest : {l : ℕ} {o q : Option ℕ} → l ≡ field P p 0 → code P l ≡ 0 → o ≡ small_by (number_at (code P (p - 1)) (value P (p - 1))) → o ≡ q
        → rest_by q ≡ left_of (tree_of P p)
    unfolding is_count
    left_rest d h g i = sym (rem_here ∙ rw (tree_var left_at (rw d at h), number_at_lem right_at, ← g) (ap rest_by i))

-- what a tree is packed to: the trees s, u and w stay operands
pub record IsLeaf (t : Tree) (c m v : ℕ) : Type 0 where
  pub is : pack t ≡ leaf c m v

pub record IsOne (t s : Tree) (c m v : ℕ) : Type 0 where
  pub is : pack t ≡ one c m v (pack s)

pub record IsTwo (t s u : Tree) (c v : ℕ) : Type 0 where
  pub is : pack t ≡ two c v (pack s) (pack u)

pub record IsThree (t s u w : Tree) : Type 0 where
  pub is : pack t ≡ three (pack s) (pack u) (pack w)

-- the same at a place: l and m are the places in its fields, r the one before it
module _ {P : Pool} {p : ℕ} (s : Plain P p) where
  pub is_var : code P p ≡ 0 → IsLeaf (T s p) 0 0 0
  unfolding pack
  is_var e = record { is = rw (tree_var s e) }

  pub is_int : {v : ℕ} → code P p ≡ 1 → v ≡ value P p → IsLeaf (T s p) 1 0 v
  unfolding pack
  is_int e d = record { is = rw (tree_int s e, d) }

  pub is_nay : {l : ℕ} → code P p ≡ nay_node → l ≡ p - 1 → IsOne (T s p) (T s l) nay_node 0 0
  unfolding pack
  is_nay e d = record { is = rw (tree_nay s e, d) }

  module _ {l m r : ℕ} {o : Option ℕ} (e : code P p ≡ ternary_node) (d : l ≡ field P p 0) (f : m ≡ field P p 1) (g : r ≡ p - 1)
      (h : o ≡ number_at (code P m) (value P m)) where
    number_m : number_of (T s m) ≡ o
    number_m = number_at_lem (lower s refl (second_in s.sound (omega arith)) f).1 ∙ sym h

    number_r : number_of (T s r) ≡ number_at (code P r) (value P r)
    number_r = number_at_lem (lower s refl (before_in s.sound (omega arith)) g).1

    cond_is : {i : Option ℕ} {q : Option ℕ} → o ≡ i → small_by (number_of (T s r)) ≡ q → pack (T s p) ≡ pack_cond i q (pack (T s l)) (pack (T s m)) (pack (T s r))
    unfolding pack
    cond_is i k = rw (tree_cond s e, ← number_m ∙ i, ← k, d, f, g)

    pub is_three : o ≡ None → IsThree (T s p) (T s l) (T s m) (T s r)
    is_three i = record { is = cond_is i refl }

    pub is_chosen : {v : ℕ} {q : Option ℕ} → o ≡ Some v → q ≡ small_by (number_at (code P r) (value P r)) → q ≡ None
        → IsTwo (T s p) (T s l) (T s r) choice_node v
    is_chosen i j k = record { is = cond_is i (ap small_by number_r ∙ sym j ∙ k) }

    pub is_picked : {v w : ℕ} {q : Option ℕ} → o ≡ Some v → q ≡ small_by (number_at (code P r) (value P r)) → q ≡ Some w
        → IsOne (T s p) (T s l) pick_node w v
    is_picked i j k = record { is = cond_is i (ap small_by number_r ∙ sym j ∙ k) }

  module _ {l r : ℕ} {o : Option ℕ} (e : Pair (code P p)) (d : l ≡ field P p 0) (f : r ≡ p - 1) (h : o ≡ number_at (code P r) (value P r)) where
    op_is : op_code (named s e).op ≡ code P p - pair_op
    op_is = code_is (code P p - pair_op) (named s e).op (named s e).is

    bin_is : {k : Left} {i : Option ℕ} → left_of (T s l) ≡ k → o ≡ i → pack (T s p) ≡ pack_bin (named s e).op k i (pack (T s l)) (pack (T s r))
    unfolding pack
    bin_is g i =
        let n : number_of (T s r) ≡ o = number_at_lem (lower s refl (before_in s.sound (omega arith)) f).1 ∙ sym h in
        rw (tree_bin s e, ← g, ← n ∙ i, d, f)

    pub is_two : o ≡ None → IsTwo (T s p) (T s l) (T s r) (code P p) 0
    is_two i =
        let c : pair_op + op_code (named s e).op ≡ code P p = omega (arith, op_is) in
        record { is = bin_is refl i ∙ ap (λ (c : ℕ). two c 0 (pack (T s l)) (pack (T s r))) c }

    module _ {v : ℕ} {n : Left} (i : o ≡ Some v) (j : n ≡ left_of (T s l)) where
      -- an operator's number stays when its code goes to another group
      moved : (c : ℕ) → c + op_code (named s e).op ≡ c + (code P p - pair_op)
      moved c = omega (arith, op_is, e.0)

      pub is_op : n ≡ left.Count → IsLeaf (T s p) (n_op + (code P p - pair_op)) 0 v
      is_op g = record { is = bin_is (sym j ∙ g) i ∙ ap (λ (c : ℕ). leaf c 0 v) (moved n_op) }

      pub is_rest : {m : ℕ} → n ≡ left.Rest m → IsLeaf (T s p) (rest_op + (code P p - pair_op)) m v
      is_rest {m} g = record { is = bin_is (sym j ∙ g) i ∙ ap (λ (c : ℕ). leaf c m v) (moved rest_op) }

      pub is_one : n ≡ left.Other → IsOne (T s p) (T s l) (value_op + (code P p - pair_op)) 0 v
      is_one g = record { is = bin_is (sym j ∙ g) i ∙ ap (λ (c : ℕ). one c 0 v (pack (T s l))) (moved value_op) }

-- the room that it takes
pub size_leaf : {t : Tree} {c m v : ℕ} → IsLeaf t c m v → packed_size t ≡ 1
unfolding packed_size nodes
size_leaf e = rw e.is

pub size_one : {t s : Tree} {c m v : ℕ} → IsOne t s c m v → packed_size t ≡ packed_size s + 1
unfolding packed_size nodes
size_one e = rw e.is

pub size_two : {t s u : Tree} {c v : ℕ} → IsTwo t s u c v → packed_size t ≡ packed_size s + packed_size u + 1
unfolding packed_size nodes
size_two e = rw e.is

pub size_three : {t s u w : Tree} → IsThree t s u w → packed_size t ≡ packed_size s + packed_size u + packed_size w + 1
unfolding packed_size nodes
size_three e = rw e.is

pub past : {t : Tree} {k r : ℕ} {P Q : Pool} → Packs t k P Q r → 0 < r
past {t} a = omega (arith, a.end, packed_pos t)

-- and that it is stored
pub done_leaf : {t : Tree} {k c m v r : ℕ} {P Q : Pool} → IsLeaf t c m v → Q ≡ push P k c m 0 v → r ≡ k + 1 → Packs t k P Q r
unfolding keep
done_leaf e f g = record { end = omega (arith, g, size_leaf e); nodes = rw (e.is, f) }

pub done_one : {t s : Tree} {k c m v n r : ℕ} {P Q R : Pool} → IsOne t s c m v → Packs s k P Q n → R ≡ push Q n c m 0 v → r ≡ n + 1
    → Packs t k P R r
unfolding packed_size keep nodes
done_one e a f g = record { end = omega (arith, a.end, size_one e); nodes = rw (e.is, f, a.nodes, a.end) }

pub done_two : {t s u : Tree} {k c v b m n r : ℕ} {P Q R S : Pool} → IsTwo t s u c v → Packs s k P Q m → Packs u m Q R n → b ≡ m - 1
    → S ≡ push R n c b 0 v → r ≡ n + 1 → Packs t k P S r
unfolding packed_size keep nodes
done_two e a d h f g =
    record { end = omega (arith, a.end, d.end, size_two e); nodes = rw (e.is, f, d.nodes, d.end, a.nodes, h, a.end) }

pub done_three : {t s u w : Tree} {k b d l m n r : ℕ} {P Q R S O : Pool} → IsThree t s u w → Packs s k P Q m → Packs u m Q R l → Packs w l R S n
    → b ≡ m - 1 → d ≡ l - 1 → O ≡ push S n ternary_node b d 0 → r ≡ n + 1 → Packs t k P O r
unfolding packed_size keep nodes
done_three e x y z h j f g =
    record {
      end = omega (arith, x.end, y.end, z.end, size_three e);
      nodes = rw (e.is, f, z.nodes, z.end, y.nodes, h, j, y.end, x.nodes, x.end);
    }

-- a condition takes the room of its first operand and more
cond_least : (n : Option ℕ) (q : Option ℕ) (x y z : Packed) → nodes x < nodes (pack_cond n q x y z)
unfolding nodes
cond_least (Some v) (Some m) x y z = omega arith
cond_least (Some v) None x y z = omega arith
cond_least None q x y z = omega arith

pub cond_room : {P : Pool} {p l : ℕ} → Plain P p → code P p ≡ ternary_node → l ≡ field P p 0 → packed_size (tree_of P l) < packed_size (tree_of P p)
unfolding packed_size pack
cond_room {P} {p} s e d =
    rw (tree_cond s e, d)
    (cond_least (number_of (tree_of P (field P p 1))) (small_by (number_of (tree_of P (p - 1)))) (pack (tree_of P (field P p 0))) (pack (tree_of P (field P p 1)))
    (pack (tree_of P (p - 1))))

-- what a call at an operand's place asks
pub call : {P : Pool} {p q x t : ℕ} {M : Type 0} → Plain P p → p ≡ t → x < p → q ≡ x → M → (q < t) × (Plain P q × M)
call s e l d h = let w = lower s e l d in (w.0, (w.1, h))

-- into arrays of zeros
pub from_blank : {t : Tree} {Q : Pool} {r : ℕ} → Packs t 0 (pool (replicate 512 0) (replicate 1024 0) (replicate 512 0)) Q r
    → (Q ≡ packed t) × (r ≡ packed_size t)
unfolding packed
from_blank {t} a = (a.nodes ∙ ap (keep (pack t) 0) blank_is, omega (arith, a.end))
