-- How a tree is packed, its leaves folded into their parents where a code says so; how a packed tree is unfolded; and where its nodes go.
-- proofs/Packs.antt: what is packed is unfolded to the same tree; proofs/Stored.antt: and it is the tree that the arrays hold.
use Rattle.std.specs.Prelude.{ℕ, ◌+◌, ◌-◌, Bool, true, false, ◌&&◌, ltb, Option, Some, None}
use Rattle.rules.specs.Tree.{Tree, var, int, nay, bin, cond, Op, cmp, and, or, rem, div, calc}
use Rattle.rules.specs.Operator.{op_code}
use Rattle.rules.specs.declared.Left.{Left}
use Rattle.rules.specs.declared.Left.TheVariants as left
use Rattle.rules.specs.Pool as pool
use Rattle.rules.specs.Pool.{Pool, n_op, rest_op, nay_node, pick_node, value_op, pair_op, choice_node, ternary_node}
use Rattle.rules.specs.Store.{push, blank}

-- a node with no, one, two or three operands: its code (ternary_node where there are three), the number in its first field, its value
pub data Packed : Type 0 where
  leaf : ℕ → ℕ → ℕ → Packed
  one : ℕ → ℕ → ℕ → Packed → Packed
  two : ℕ → ℕ → Packed → Packed → Packed
  three : Packed → Packed → Packed → Packed

unfoldable pub unpack : Packed → Tree
unpack (leaf c m v) = pool.leaf c m v
unpack (one c m v x) = pool.one c m v (unpack x)
unpack (two c v x y) = pool.two c v (unpack x) (unpack y)
unpack (three x y z) = cond (unpack x) (unpack y) (unpack z)

-- what is looked for in an operand: whether it is an integer, and which; one that a field can hold; n, or n % m with such an m
unfoldable pub number_of : Tree → Option ℕ
number_of var = None
number_of (int v) = Some v
number_of (nay t) = None
number_of (bin op s t) = None
number_of (cond s t u) = None

abbrev pub small_by : Option ℕ → Option ℕ
small_by (Some m) = elim (ltb m 65536) [ true ↦ Some m | false ↦ None ]
small_by None = None

abbrev pub small_of : Tree → Option ℕ
small_of t = small_by (number_of t)

unfoldable pub is_count : Tree → Bool
is_count var = true
is_count (int v) = false
is_count (nay t) = false
is_count (bin op s t) = false
is_count (cond s t u) = false

unfoldable pub is_rem : Op → Bool
is_rem (cmp k) = false
is_rem and = false
is_rem or = false
is_rem rem = true
is_rem div = false
is_rem (calc c) = false

abbrev pub rest_by : Option ℕ → Left
rest_by (Some m) = left.Rest m
rest_by None = left.Other

unfoldable pub left_of : Tree → Left
unfolding number_of is_count is_rem
left_of var = left.Count
left_of (int v) = left.Other
left_of (nay t) = left.Other
left_of (bin op s t) = elim (is_rem op && is_count s) [ true ↦ rest_by (small_of t) | false ↦ left.Other ]
left_of (cond s t u) = left.Other

-- an operator on s and t, by what they are; x and y are their packed trees
abbrev pub pack_bin : Op → Left → Option ℕ → Packed → Packed → Packed
pack_bin op left.Count (Some v) x y = leaf (n_op + op_code op) 0 v
pack_bin op (left.Rest m) (Some v) x y = leaf (rest_op + op_code op) m v
pack_bin op left.Other (Some v) x y = one (value_op + op_code op) 0 v x
pack_bin op l None x y = two (pair_op + op_code op) 0 x y

abbrev pub pack_cond : Option ℕ → Option ℕ → Packed → Packed → Packed → Packed
pack_cond (Some v) (Some m) x y z = one pick_node m v x
pack_cond (Some v) None x y z = two choice_node v x z
pack_cond None u x y z = three x y z

unfoldable pub pack : Tree → Packed
unfolding number_of left_of
pack var = leaf 0 0 0
pack (int v) = leaf 1 0 v
pack (nay t) = one nay_node 0 0 (pack t)
pack (bin op s t) = pack_bin op (left_of s) (number_of t) (pack s) (pack t)
pack (cond s t u) = pack_cond (number_of t) (small_of u) (pack s) (pack t) (pack u)

-- where the nodes of a packed tree go, as those of a tree do
unfoldable pub nodes : Packed → ℕ
nodes (leaf c m v) = 1
nodes (one c m v x) = nodes x + 1
nodes (two c v x y) = nodes x + nodes y + 1
nodes (three x y z) = nodes x + nodes y + nodes z + 1

unfoldable pub keep : Packed → ℕ → Pool → Pool
unfolding nodes
keep (leaf c m v) k P = push P k c m 0 v
keep (one c m v x) k P = push (keep x k P) (k + nodes x) c m 0 v
keep (two c v x y) k P = push (keep y (k + nodes x) (keep x k P)) (k + nodes x + nodes y) c (k + nodes x - 1) 0 v
keep (three x y z) k P =
    push
    (keep z (k + nodes x + nodes y) (keep y (k + nodes x) (keep x k P)))
    (k + nodes x + nodes y + nodes z)
    ternary_node
    (k + nodes x - 1)
    (k + nodes x + nodes y - 1)
    0

-- a tree packed, alone in the arrays, and how many nodes it then has
unfoldable pub packed_size : Tree → ℕ
packed_size t = nodes (pack t)

unfoldable pub packed : Tree → Pool
packed t = keep (pack t) 0 blank
