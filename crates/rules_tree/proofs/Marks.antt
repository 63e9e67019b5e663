-- The tree test place by place: what a mark says of an operand, and what a failed operand or node says of the whole.
use mathlib.Core.Path.{◌≡◌, refl, sym, ap, ◌∙◌}
use mathlib.Core.Bool.{Bool, true, false, not, ◌&&◌, and-false, and_assoc}
use mathlib.Core.List.{List, [], ◌∷◌, ◌++◌}
use mathlib.Core.Logic.{⊎_elim, by_cases}
use Prim.Native.Nat.{ℕ, zero, suc, ◌+◌, ◌-◌, ◌<◌, ◌≤◌}
use native.Mathlib.Omega.{arith}
use native.Mathlib.Nat.{eq-or-lt_of_le, le_of_suc-le-suc}
use native.Mathlib.Numerals.{add-one}
use native.Mathlib.Decide.{ℕ_discrete}
use lib.ListN.{length, get_or, set, replicate, length-set, length-replicate, get_or-replicate}
use lib.Seq.{get_or-set_same, get_or-set_other}
use lib.Dec.{ltb, eqb}
use borrow.Author.Tests.{lt-ltb, le-ltb, le-leb, lt-leb, ltb-true, eq-eqb, ne_eqb, not-false}
use Rattle.rules.specs.Pool.{Pool, code, field, known, fields, operands_to, operands, all_below, member, distinct, used, shaped, is_tree, nay_node, pair_op, ternary_node}
use Rattle.rules_tree.specs.Private.{Unmarked, Marked, Took, Placed}
use Rattle.rules.proofs.Operators.{never, split}
use Rattle.rules.proofs.Trees.{both_left, both_right, member_head, member_tail, both_fields, has_operands}

-- the answers of the test of one operand
module _ {q x p : ℕ} (m : List ℕ) (e : q ≡ x) where
  pub took_high : p ≤ q → Took x p m m false
  took_high h = record { answer = rw (le-ltb x p (omega arith)); marks = λ d. never d }

  pub took_marked : q < p → (get_or m q 0 ≡ 0 → ⊥) → Took x p m m false
  took_marked h d = record {
    answer = rw (lt-ltb x p (omega arith)) (sym (ne_eqb _ _ (rw e at d)));
    marks = λ d. never d;
  }

  pub took_now : q < p → get_or m q 0 ≡ 0 → Took x p m (set m q 1) true
  took_now h d = record {
    answer = rw (lt-ltb x p (omega arith)) (sym (eq-eqb _ _ (rw e at d)));
    marks = λ f. rw e;
  }

-- no place is marked at the start
pub cleared : (n : ℕ) → Unmarked (replicate n 0)
cleared n = record { none = λ q h. get_or-replicate {A = ℕ} n q 0 0 (rw (length-replicate {A = ℕ} n 0) at h) }

-- an operand that was taken lies below its parent, and is one of the marked now
module _ {q p : ℕ} {m n xs : List ℕ} {r : Bool} (k : Marked m xs) (few : p ≤ length m) (t : Took q p m n r) where
  taken_fresh : r ≡ true → (q < p) × (member q xs ≡ false)
  taken_fresh e =
      let d : (ltb q p && eqb (get_or m q 0) 0) ≡ true = sym t.answer ∙ e in
      let l : q < p = ltb-true q p (both_left (ltb q p) _ d) in
      (l, sym (k.says q (omega arith)) ∙ ap not (both_right (ltb q p) _ d))

  taken_marked : r ≡ true → Marked n (q ∷ xs)
  unfolding distinct
  taken_marked e =
      let w : n ≡ set m q 1 = t.marks e in
      let l : q < length m = omega (arith, (taken_fresh e).0) in
      record {
        says = λ i h. rw w (by_cases (ℕ_discrete i q)
            (λ d. rw (d, get_or-set_same m q 1 0 l, member_head q q xs refl))
            (λ d. rw (get_or-set_other m q i 1 0 d, member_tail q i xs d) (k.says i (rw (w, length-set) at h))));
        apart = rw (taken_fresh e).1 k.apart;
      }

  -- one that was not is not below its parent, or is an operand already
  untaken : r ≡ false → (ltb q p && not (member q xs)) ≡ false
  untaken e =
      split (ltb q p)
      (λ f. rw (f, ← k.says q (omega (arith, ltb-true q p f)), rw f at (sym t.answer ∙ e)))
      (λ f. rw f)

and_swap : (x b y d : Bool) → ((x && b) && (y && d)) ≡ ((x && y) && (b && d))
and_swap true true y d = refl
and_swap true false y d = sym (and-false y)
and_swap false b y d = refl

-- the place before a node and the operands in its fields before the j-th were taken
pub record Taken (P : Pool) (p j : ℕ) (l m : List ℕ) : Type 0 where
  pub lower : all_below p (operands_to P p j) ≡ true
  pub marked : Marked m (operands_to P p j ++ used P p)
  pub long : length m ≡ length l
  pub room : p ≤ length l

module _ (P : Pool) (p : ℕ) where
  -- an operand that was not taken fails the node
  operand_fails : (a j : ℕ) → j < a → (ltb (field P p j) p && not (member (field P p j) (operands_to P p j ++ used P p))) ≡ false
      → (all_below p (operands_to P p a) && distinct (operands_to P p a ++ used P p)) ≡ false
  unfolding operands_to all_below distinct
  operand_fails zero j h e = absurd (omega arith)
  operand_fails (suc a) j h e =
      ⊎_elim
      (λ q. rw (and_swap, rw q at e))
      (λ l. rw (and_swap, operand_fails a j l e, and-false))
      (eq-or-lt_of_le (le_of_suc-le-suc h))

-- no node below k has taken the last place below it or one after that
member_below : (q k : ℕ) (xs ys : List ℕ) → k ≤ q → all_below k xs ≡ true → member q ys ≡ false → member q (xs ++ ys) ≡ false
unfolding all_below
member_below q k [] ys h e f = f
member_below q k (x ∷ xs) ys h e f =
    let l = ltb-true x k (both_left (ltb x k) _ e) in
    member_tail x q (xs ++ ys) (omega arith) ∙ member_below q k xs ys h (both_right (ltb x k) _ e) f

free : (P : Pool) (q k : ℕ) → k ≤ q + 1 → shaped P k ≡ true → member q (used P k) ≡ false
unfolding shaped used member
free P q zero h e = refl
free P q (suc k) h e =
    let d = both_right (shaped P k) _ e in
    member_below q k (operands P k) (used P k) (omega arith) (both_right (known (code P k)) _ d) (free P q k (omega arith) (both_left (shaped P k) _ e))

-- at place 0 there is none before
none_below : (P : Pool) (a : ℕ) → all_below 0 (operands_to P 0 a) ≡ false
unfolding operands_to all_below
none_below P zero = refl
none_below P (suc a) = rw (le-ltb (field P 0 a) 0 (omega arith))

module _ (P : Pool) (p : ℕ) {l : List ℕ} where
  pub before_taken : 0 < p → p < length l → shaped P p ≡ true → Marked l (used P p) → Taken P p 0 l (set l (p - 1) 1)
  unfolding operands_to all_below
  before_taken z h e k =
      let f : eqb (get_or l (p - 1) 0) 0 ≡ true = not-false _ (k.says (p - 1) (omega arith) ∙ free P (p - 1) p (omega arith) e) in
      let t : Took (p - 1) p l (set l (p - 1) 1) true = record { answer = rw (lt-ltb (p - 1) p (omega arith), f); marks = λ d. refl } in
      let few : p ≤ length l = omega arith in
      record {
        lower = rw (lt-ltb (p - 1) p (omega arith));
        marked = taken_marked k few t refl;
        long = length-set l (p - 1) 1;
        room = few;
      }

  pub one_more : (j : ℕ) {m n : List ℕ} {r : Bool} → Taken P p j l m → Took (field P p j) p m n r → r ≡ true → Taken P p (j + 1) l n
  unfolding operands_to all_below
  one_more j {m} k t e =
      let few : p ≤ length m = omega (arith, k.room, k.long) in
      record {
        lower = rw (add-one, lt-ltb _ _ (taken_fresh k.marked few t e).0, k.lower);
        marked = rw add-one (taken_marked k.marked few t e);
        long = rw (t.marks e, length-set) k.long;
        room = k.room;
      }

  -- the answers of the test of one node
  pub leaf : code P p < nay_node → Marked l (used P p) → Placed P p l l true
  unfolding operands all_below
  leaf h k = record {
    answer = rw (le-leb (code P p) ternary_node (omega arith), operands, lt-ltb (code P p) nay_node h, k.apart);
    marks = λ e. rw (operands, lt-ltb (code P p) nay_node h) k;
    long = λ e. refl;
  }

  no : {n : List ℕ} → (known (code P p) && (all_below p (operands P p) && distinct (operands P p ++ used P p))) ≡ false → Placed P p l n false
  no e = record { answer = sym e; marks = λ e. never e; long = λ e. never e }

  pub first : p ≡ 0 → nay_node ≤ code P p → Placed P p l l false
  first e h = no (rw (has_operands P p h, e, none_below P (fields (code P 0))) (and-false (known (code P 0))))

  pub unknown : {n : List ℕ} → ternary_node < code P p → Placed P p l n false
  unknown h = no (rw (lt-leb (code P p) ternary_node h))

  pub refused : (j : ℕ) {m n : List ℕ} {r : Bool} → nay_node ≤ code P p → j < fields (code P p) → Taken P p j l m → Took (field P p j) p m n r
      → r ≡ false → Placed P p l n false
  refused j h i k t e =
      no (rw (has_operands P p h, operand_fails P p (fields (code P p)) j i (untaken k.marked (omega (arith, k.room, k.long)) t e)) (and-false (known (code P p))))

  placed : (j : ℕ) {m : List ℕ} → code P p ≤ ternary_node → nay_node ≤ code P p → j ≡ fields (code P p) → Taken P p j l m → Placed P p l m true
  placed j b h i k =
      let k' : Taken P p (fields (code P p)) _ _ = rw i at k in
      record {
        answer = rw (le-leb (code P p) ternary_node b, has_operands P p h, k'.lower, k'.marked.apart);
        marks = λ e. rw (has_operands P p h) k'.marked;
        long = λ e. k.long;
      }

  pub one_operand : {m : List ℕ} → nay_node ≤ code P p → code P p < pair_op → Taken P p 0 l m → Placed P p l m true
  one_operand h i k = placed 0 (omega arith) h (rw (fields, lt-ltb _ _ i)) k

  pub two_operands : {m : List ℕ} → pair_op ≤ code P p → code P p < ternary_node → Taken P p 1 l m → Placed P p l m true
  two_operands h i k = placed 1 (omega arith) (omega arith) (rw (fields, le-ltb _ _ h, lt-ltb _ _ i)) k

  -- a third operand is the last, so it decides
  pub third_decides : (r : Bool) {m n : List ℕ} → code P p ≡ ternary_node → Taken P p 1 l m → Took (field P p 1) p m n r → Placed P p l n r
  third_decides true h k t = placed 2 (omega arith) (omega arith) (sym (both_fields (code P p) (omega arith))) (one_more 1 k t refl)
  third_decides false h k t = refused 1 (omega arith) (rw (both_fields (code P p) (omega arith)) (omega arith)) k t refl

distinct_tail : (ys zs : List ℕ) → distinct zs ≡ false → distinct (ys ++ zs) ≡ false
unfolding distinct
distinct_tail [] zs e = e
distinct_tail (y ∷ ys) zs e = rw (distinct_tail ys zs e) (and-false (not (member y (ys ++ zs))))

-- every place below k was passed
pub record Passed (P : Pool) (k : ℕ) (m : List ℕ) : Type 0 where
  pub whole : shaped P k ≡ true
  pub marked : Marked m (used P k)

module _ (P : Pool) where
  pub none_passed : {m : List ℕ} → Unmarked m → Passed P 0 m
  unfolding shaped used member distinct
  none_passed k = record { whole = refl; marked = record { says = λ q h. rw (k.none q h); apart = refl } }

  pub one_passed : (p : ℕ) {m n : List ℕ} {r : Bool} → Passed P p m → Placed P p m n r → r ≡ true → Passed P (p + 1) n
  unfolding shaped used
  one_passed p k t e =
      let d : (known (code P p) && (all_below p (operands P p) && distinct (operands P p ++ used P p))) ≡ true = sym t.answer ∙ e in
      let b = both_right (known (code P p)) _ d in
      record {
        whole = rw (add-one, k.whole, both_left (known (code P p)) _ d, both_left (all_below p (operands P p)) _ b);
        marked = rw add-one (t.marks e);
      }

  -- what fails at the places below k fails the whole
  whole_fails : (k p : ℕ) → k ≤ p → (shaped P k && distinct (used P k)) ≡ false → (shaped P p && distinct (used P p)) ≡ false
  unfolding shaped used
  whole_fails k zero h e = let z : k ≡ 0 = omega arith in rw z at e
  whole_fails k (suc p) h e =
      ⊎_elim
      (λ q. rw q at e)
      (λ l. let f = whole_fails k p (le_of_suc-le-suc l) e in
      split (shaped P p) (λ s. rw (s, distinct_tail (operands P p) (used P p) (rw s at f), and-false)) (λ s. rw s))
      (eq-or-lt_of_le h)

  -- the answers of the test of all nodes
  pub stopped : {m n : List ℕ} {r : Bool} (k p : ℕ) → p < k → Placed P p m n r → r ≡ false → false ≡ (shaped P k && distinct (used P k))
  unfolding shaped used
  stopped k p h t e = sym (whole_fails (suc p) k h (rw (and_assoc, and_assoc, sym t.answer ∙ e) (and-false (shaped P p))))

  pub passed : {m : List ℕ} (k : ℕ) → Passed P k m → true ≡ (shaped P k && distinct (used P k))
  passed k t = rw (t.whole, t.marked.apart)

-- the answers of the tree test
module _ (P : Pool) (count root : ℕ) where
  pub too_many : 512 < count → false ≡ is_tree P count root
  unfolding is_tree
  too_many h = rw (lt-leb count 512 h)

  pub no_root : count ≤ 512 → count ≤ root → false ≡ is_tree P count root
  unfolding is_tree
  no_root h l = rw (le-leb count 512 h, le-ltb root count l)

  pub tested : {r : Bool} → count ≤ 512 → root < count → r ≡ (shaped P count && distinct (used P count)) → r ≡ is_tree P count root
  unfolding is_tree
  tested h l t = rw (le-leb count 512 h, lt-ltb root count l) t
