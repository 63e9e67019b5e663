-- What a node's operands have written, and the node over them: the answers that `Gives` allows, read and made. Assumes nothing.
use Prim.Native.Nat.{ℕ, ◌+◌, ◌-◌, ◌<◌, ◌≤◌}
use mathlib.Core.Path.{◌≡◌, refl, ap, ◌∙◌}
use native.Mathlib.Omega.{arith}
use Rattle.std.specs.Prelude.{Option, Some, None}
use Rattle.rules.specs.Tree.{Tree, var, int, nay, bin, cond, Op, Reading, tree, none}
use Rattle.rules.specs.Pool.{Pool, nay_node, ternary_node}
use Rattle.rules.specs.Store.{size, store, push, node_code}
use Rattle.reading_shipped.specs.Shipped.{one, two, three}
use Rattle.reading_shipped.specs.Private.{Stored, Wrote, Gives}

size_pos : (t : Tree) → 0 < size t
unfolding size
size_pos var = omega arith
size_pos (int v) = omega arith
size_pos (nay t) = omega arith
size_pos (bin op s t) = omega arith
size_pos (cond s t u) = omega arith

-- what a reading is, by the answer
pub record Taken (o : Reading) (n k : ℕ) (P Q : Pool) (m : ℕ) : Type 0 where
  pub t : Tree
  pub is : o ≡ tree t
  pub free : m ≡ k + size t
  pub stored : Q ≡ store t k P
  pub small : size t ≤ n

module _ {o : Reading} {n k : ℕ} {P Q : Pool} {r : Option ℕ} where
  pub taken : {m : ℕ} → Gives o n k P Q r → r ≡ Some m → Taken o n k P Q m
  taken {m} w e = go o refl w.wrote
    where
      go : (x : Reading) → o ≡ x → Wrote x n k P Q r → Taken o n k P Q m
      go (tree t) q d =
          let a : r ≡ Some (k + size t) = d.answer in record { t = t; is = q; free = cc; stored = d.stored; small = d.small }
      go none q d = let a : r ≡ None = d in let z : ◌≡◌ {A = ℕ} 0 1 = cc in absurd (omega arith)

  pub refused : Gives o n k P Q r → r ≡ None → o ≡ none
  refused w e = go o refl w.wrote
    where
      go : (x : Reading) → o ≡ x → Wrote x n k P Q r → o ≡ none
      go (tree t) q d = let a : r ≡ Some (k + size t) = d.answer in let z : ◌≡◌ {A = ℕ} 0 1 = cc in absurd (omega arith)
      go none q d = q

  -- the next place, of an answer that has one
  pub gave : {m : ℕ} → Gives o n k P Q r → r ≡ Some m → (k < m) × (m ≤ k + n)
  gave {m} w e =
      let g : Taken o n k P Q m = taken w e in omega (arith, g.free, g.small, size_pos g.t)

  -- an equal reading; and of a longer text
  pub as_read : {p : Reading} → p ≡ o → Gives o n k P Q r → Gives p n k P Q r
  as_read e w = rw e w

  pub wider : {p : Reading} {m : ℕ} → p ≡ o → n ≤ m → Gives o n k P Q r → Gives p m k P Q r
  wider {p} {m} e h w = rw e (record { wrote = go o w.wrote })
    where
      go : (x : Reading) → Wrote x n k P Q r → Wrote x m k P Q r
      go (tree t) d = record { answer = d.answer; stored = d.stored; small = omega (arith, d.small) }
      go none d = d

pub gives_none : {o : Reading} {n k : ℕ} {P Q : Pool} → o ≡ none → Gives o n k P Q None
gives_none e = rw e (record { wrote = refl })

-- the node of an integer, of n, of !, of a binary operator, of ?:
pub gives_int : (v : ℕ) {n k : ℕ} {P Q : Pool} → 0 < n → Q ≡ push P k 1 0 0 v → Gives (tree (int v)) n k P Q (Some (k + 1))
unfolding size store
gives_int v h e = record { wrote = record { answer = refl; stored = e; small = h } }

pub gives_var : {n k : ℕ} {P Q : Pool} → 0 < n → Q ≡ push P k 0 0 0 0 → Gives (tree var) n k P Q (Some (k + 1))
unfolding size store
gives_var h e = record { wrote = record { answer = refl; stored = e; small = h } }

-- the nodes of the operands one after the other, and the node over them
over_one :
    (n k a m : ℕ) (P Q R : Pool) (t : Tree) → m ≡ k + size t → R ≡ store t k P → size t ≤ a → a + 1 ≤ n →
    Q ≡ push R m nay_node 0 0 0 → Stored (nay t) n k P Q (Some (m + 1))
unfolding size store
over_one n k a m P Q R t mf ms mt h p = record { answer = ap Some (omega arith); stored = p ∙ rw (mf, ms); small = omega arith }

over_two :
    (op : Op) (n k a b m e : ℕ) (P Q R S : Pool) (t u : Tree) → m ≡ k + size t → R ≡ store t k P → size t ≤ a →
    e ≡ m + size u → S ≡ store u m R → size u ≤ b → a + b + 1 ≤ n → Q ≡ push S e (node_code op) (m - 1) 0 0 →
    Stored (bin op t u) n k P Q (Some (e + 1))
unfolding size store
over_two op n k a b m e P Q R S t u mf ms mt ef es et h p =
    record { answer = ap Some (omega arith); stored = p ∙ rw (ef, es, mf, ms); small = omega arith }

over_three :
    (n k a b d m e f : ℕ) (P Q R S T : Pool) (t u v : Tree) → m ≡ k + size t → R ≡ store t k P → size t ≤ a →
    e ≡ m + size u → S ≡ store u m R → size u ≤ b → f ≡ e + size v → T ≡ store v e S → size v ≤ d →
    a + b + d + 1 ≤ n → Q ≡ push T f ternary_node (m - 1) (e - 1) 0 → Stored (cond t u v) n k P Q (Some (f + 1))
unfolding size store
over_three n k a b d m e f P Q R S T t u v mf ms mt ef es et ff fs ft h p =
    record { answer = ap Some (omega arith); stored = p ∙ rw (ff, fs, ef, es, mf, ms); small = omega arith }

module _ {x : Reading} {a k : ℕ} {P R : Pool} {r : Option ℕ} (w : Gives x a k P R r) where
  pub one_none : {n : ℕ} {Q : Pool} → r ≡ None → Gives (one x) n k P Q None
  one_none e = gives_none (rw (refused w e))

  pub one_some :
      {n m : ℕ} {Q : Pool} {i : Option ℕ} → r ≡ Some m → a + 1 ≤ n → i ≡ Some (m + 1) → Q ≡ push R m nay_node 0 0 0 →
      Gives (one x) n k P Q i
  one_some {n} {m} {Q} {i} e h j p =
      let g : Taken x a k P R m = taken w e in
      rw (g.is, j) (record { wrote = over_one n k a m P Q R g.t g.free g.stored g.small h p })

  pub two_left : (op : Op) (y : Reading) {n : ℕ} {Q : Pool} → r ≡ None → Gives (two op x y) n k P Q None
  two_left op y e = gives_none (rw (refused w e))

  pub three_first : (y z : Reading) {n : ℕ} {Q : Pool} → r ≡ None → Gives (three x y z) n k P Q None
  three_first y z e = gives_none (rw (refused w e))

  module _ {m : ℕ} (e : r ≡ Some m) {y : Reading} {b : ℕ} {S : Pool} {q : Option ℕ} (v : Gives y b m R S q) where
    pub two_right : (op : Op) {n : ℕ} {Q : Pool} → q ≡ None → Gives (two op x y) n k P Q None
    two_right op d = gives_none (rw ((taken w e).is, refused v d))

    pub two_both :
        (op : Op) {n f : ℕ} {Q : Pool} {i : Option ℕ} → q ≡ Some f → a + b + 1 ≤ n → i ≡ Some (f + 1) →
        Q ≡ push S f (node_code op) (m - 1) 0 0 → Gives (two op x y) n k P Q i
    two_both op {n} {f} {Q} {i} d h l p =
        let g : Taken x a k P R m = taken w e in
        let j : Taken y b m R S f = taken v d in
        rw (g.is, j.is, l)
        (record {
          wrote =
              over_two op n k a b m f P Q R S g.t j.t g.free g.stored g.small j.free j.stored j.small h p;
        })

    pub three_second : (z : Reading) {n : ℕ} {Q : Pool} → q ≡ None → Gives (three x y z) n k P Q None
    three_second z d = gives_none (rw ((taken w e).is, refused v d))

    module _ {f : ℕ} (d : q ≡ Some f) {z : Reading} {c : ℕ} {T : Pool} {o : Option ℕ} (u : Gives z c f S T o) where
      pub three_third : {n : ℕ} {Q : Pool} → o ≡ None → Gives (three x y z) n k P Q None
      three_third i = gives_none (rw ((taken w e).is, (taken v d).is, refused u i))

      pub three_all :
          {n g : ℕ} {Q : Pool} {j : Option ℕ} → o ≡ Some g → a + b + c + 1 ≤ n → j ≡ Some (g + 1) →
          Q ≡ push T g ternary_node (m - 1) (f - 1) 0 → Gives (three x y z) n k P Q j
      three_all {n} {g} {Q} {j} i h y p =
          let s = taken w e in
          let t = taken v d in
          let o = taken u i in
          rw (s.is, t.is, o.is, y)
          (record {
            wrote =
                over_three n k a b c m f g P Q R S T s.t t.t o.t s.free s.stored s.small t.free t.stored
                t.small o.free o.stored o.small h p;
          })
