-- A packed tree is unpacked to the tree itself, its codes are those of their operands, and it has no more nodes than the tree.
use mathlib.Core.Path.{◌≡◌, refl, ap}
use mathlib.Core.Bool.{true, false, ◌&&◌}
use mathlib.Core.Option.{some}
use Prim.Native.Nat.{ℕ, ◌+◌, ◌-◌, ◌<◌, ◌≤◌}
use native.Mathlib.Omega.{arith}
use lib.Dec.{ltb}
use Rattle.std.specs.Prelude.{Option, Some, None}
use Rattle.rules.specs.Tree.{Tree, var, int, nay, bin, cond, Op, cmp, and, or, rem, div, calc}
use Rattle.rules.specs.Operator.{op_of, op_code}
use Rattle.rules.specs.declared.Left.{Left}
use Rattle.rules.specs.declared.Left.TheVariants as left
use Rattle.rules.specs.Pool.{n_op, rest_op, nay_node, value_op, pair_op, ternary_node}
use Rattle.rules.specs.Pool as pool
use Rattle.rules.specs.Store.{size}
use Rattle.rules.specs.Pack.{Packed, leaf, one, two, three, unpack, number_of, small_by, small_of, is_count, is_rem, rest_by, left_of, pack_bin, pack_cond, pack, nodes, packed_size}
use Rattle.rules.proofs.Operators.{either, op_code_lem, code_in}
use Rattle.rules.proofs.Trees.{leaf_op, leaf_rest, one_op, two_op}

-- each code has as many operands as there are
abbrev pub Fits : Packed → Type 0
Fits (leaf c m v) = c < nay_node
Fits (one c m v x) = (nay_node ≤ c) × (c < pair_op) × Fits x
Fits (two c v x y) = (pair_op ≤ c) × (c < ternary_node) × Fits x × Fits y
Fits (three x y z) = Fits x × Fits y × Fits z

-- an operator's code in each of its groups
op_of_lem : (op : Op) (c : ℕ) → c ≡ op_code op → op_of c ≡ some op
op_of_lem op c e = rw e (op_code_lem op)

is_op : (op : Op) (m v : ℕ) → pool.leaf (n_op + op_code op) m v ≡ bin op var (int v)
is_op op m v = let h = code_in op in leaf_op _ m v (op_of_lem op (n_op + op_code op - n_op) (omega arith)) (omega arith) (omega arith)

is_rest : (op : Op) (m v : ℕ) → pool.leaf (rest_op + op_code op) m v ≡ bin op (bin rem var (int m)) (int v)
is_rest op m v = let h = code_in op in leaf_rest _ m v (op_of_lem op (rest_op + op_code op - rest_op) (omega arith)) (omega arith)

is_one : (op : Op) (m v : ℕ) (x : Tree) → pool.one (value_op + op_code op) m v x ≡ bin op x (int v)
is_one op m v x = let h = code_in op in one_op _ m v x (op_of_lem op (value_op + op_code op - value_op) (omega arith)) (omega arith)

pub is_two : (op : Op) (v : ℕ) (x y : Tree) → pool.two (pair_op + op_code op) v x y ≡ bin op x y
is_two op v x y = let h = code_in op in two_op _ v x y (op_of_lem op (pair_op + op_code op - pair_op) (omega arith)) (omega arith)

-- what was found in an operand is the operand
abbrev NumberIs : Tree → Option ℕ → Type 0
NumberIs t (Some v) = t ≡ int v
NumberIs t None = Unit {0}

number_is : (t : Tree) → NumberIs t (number_of t)
unfolding number_of
number_is var = tt
number_is (int v) = refl
number_is (nay t) = tt
number_is (bin op s t) = tt
number_is (cond s t u) = tt

abbrev SmallIs : Tree → Option ℕ → Type 0
SmallIs t (Some m) = t ≡ int m
SmallIs t None = Unit {0}

small_by_lem : (t : Tree) (n : Option ℕ) → NumberIs t n → SmallIs t (small_by n)
small_by_lem t (Some m) e = either (SmallIs t) (ltb m 65536) e tt
small_by_lem t None e = tt

small_is : (t : Tree) → SmallIs t (small_of t)
small_is t = small_by_lem t (number_of t) (number_is t)

abbrev LeftIs : Tree → Left → Type 0
LeftIs t left.Count = t ≡ var
LeftIs t (left.Rest m) = t ≡ bin rem var (int m)
LeftIs t left.Other = Unit {0}

rest_by_lem : (t : Tree) (n : Option ℕ) → SmallIs t n → LeftIs (bin rem var t) (rest_by n)
rest_by_lem t (Some m) e = ap (bin rem var) e
rest_by_lem t None e = tt

rest_is : (op : Op) (s t : Tree) → LeftIs (bin op s t) (elim (is_rem op && is_count s) [ true ↦ rest_by (small_of t) | false ↦ left.Other ])
unfolding is_rem is_count
rest_is rem var t = rest_by_lem t (small_of t) (small_is t)
rest_is rem (int v) t = tt
rest_is rem (nay s) t = tt
rest_is rem (bin op s u) t = tt
rest_is rem (cond s u w) t = tt
rest_is (cmp k) s t = tt
rest_is and s t = tt
rest_is or s t = tt
rest_is div s t = tt
rest_is (calc c) s t = tt

left_is : (t : Tree) → LeftIs t (left_of t)
unfolding left_of
left_is var = refl
left_is (int v) = tt
left_is (nay t) = tt
left_is (bin op s t) = rest_is op s t
left_is (cond s t u) = tt

-- what packing gives, by what was found
pub record Right (t : Tree) (x : Packed) : Type 0 where
  pub same : unpack x ≡ t
  pub fits : Fits x
  pub few : nodes x ≤ size t

bin_right : (op : Op) (s t : Tree) (l : Left) (n : Option ℕ) (x y : Packed) → LeftIs s l → NumberIs t n → Right s x → Right t y
    → Right (bin op s t) (pack_bin op l n x y)
unfolding unpack nodes size
bin_right op s t left.Count (Some v) x y d e f g =
    let h = code_in op in record { same = rw (d, e) (is_op op 0 v); fits = omega arith; few = omega arith }
bin_right op s t (left.Rest m) (Some v) x y d e f g =
    let h = code_in op in record { same = rw (d, e) (is_rest op m v); fits = omega arith; few = omega arith }
bin_right op s t left.Other (Some v) x y d e f g =
    let h = code_in op in
    record { same = rw (e, f.same) (is_one op 0 v s); fits = (omega arith, omega arith, f.fits); few = omega (arith, f.few) }
bin_right op s t l None x y d e f g =
    let h = code_in op in
    record {
      same = rw (f.same, g.same) (is_two op 0 s t);
      fits = (omega arith, omega arith, f.fits, g.fits);
      few = omega (arith, f.few, g.few);
    }

cond_right : (s t u : Tree) (n : Option ℕ) (o : Option ℕ) (x y z : Packed) → NumberIs t n → SmallIs u o → Right s x → Right t y → Right u z
    → Right (cond s t u) (pack_cond n o x y z)
unfolding unpack nodes size
cond_right s t u (Some v) (Some m) x y z d e f g h =
    record { same = rw (d, e, f.same); fits = (omega arith, omega arith, f.fits); few = omega (arith, f.few) }
cond_right s t u (Some v) None x y z d e f g h = record {
  same = rw (d, f.same, h.same);
  fits = (omega arith, omega arith, f.fits, h.fits);
  few = omega (arith, f.few, h.few);
}
cond_right s t u None o x y z d e f g h = record {
  same = rw (f.same, g.same, h.same);
  fits = (f.fits, g.fits, h.fits);
  few = omega (arith, f.few, g.few, h.few);
}

pub right : (t : Tree) → Right t (pack t)
unfolding pack unpack nodes size
right var = record { same = refl; fits = omega arith; few = omega arith }
right (int v) = record { same = refl; fits = omega arith; few = omega arith }
right (nay t) =
    let f = right t in record { same = rw f.same; fits = (omega arith, omega arith, f.fits); few = omega (arith, f.few) }
right (bin op s t) = bin_right op s t (left_of s) (number_of t) (pack s) (pack t) (left_is s) (number_is t) (right s) (right t)
right (cond s t u) =
    cond_right s t u (number_of t) (small_of u) (pack s) (pack t) (pack u) (number_is t) (small_is u) (right s) (right t) (right u)

-- a packed tree has no more nodes than the tree
pub no_more : (t : Tree) → packed_size t ≤ size t
unfolding packed_size
no_more t = (right t).few
