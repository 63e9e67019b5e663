-- A rule as nodes in arrays of numbers: a code at each place, two fields, and a value. The operands are places, of which the last is
-- always the place before the node's own. These are the codes, without a gap:
--
--   0; 1                                 n; v
--   n_op + i; rest_op + i                  n op v; n % m op v
--   nay_node; pick_node; value_op + i       !b; b ? v : m; b op v
--   pair_op + i; choice_node               x op b; x ? v : b
--   ternary_node                          x ? y : b
--
-- with v the value, m the first field, x and y the trees at the places that the fields name, b the tree at the place before, and op the
-- operator of number i. A reader writes 0, 1, nay_node, pair_op + i and ternary_node, a node for each n, integer and operator; packing folds leaves
-- into the others. SPEC 8: what makes nodes no tree, a code that is not among these first.
use Rattle.std.specs.Prelude.{ℕ, zero, suc, ◌+◌, ◌*◌, ◌-◌, Bool, true, false, not, ◌&&◌, List, [], ◌∷◌, ◌++◌, get_or, length, leb, ltb, eqb}
use Rattle.std.proofs.Math.Option.{Option, none, some}
use Rattle.rules.specs.declared.Nodes.{Nodes}
use Rattle.rules.specs.Tree.{Tree, var, int, nay, bin, cond, Op, rem}
use Rattle.rules.specs.Operator.{operators, op_of}

-- the fields of the node at place p are at 2 * p and 2 * p + 1 of places
pub record Pool : Type 0 where
  pub codes : List ℕ
  pub places : List ℕ
  pub values : List ℕ

abbrev pub pool : List ℕ → List ℕ → List ℕ → Pool
pool c p v = record { codes = c; places = p; values = v }

-- the pool that nodes are lent as
abbrev pub pool_in : Nodes → Pool
pool_in n = pool n.codes.now n.places.now n.values.now

abbrev pub code : Pool → ℕ → ℕ
code P p = get_or P.codes p 0

abbrev pub field : Pool → ℕ → ℕ → ℕ
field P p j = get_or P.places (2 * p + j) 0

abbrev pub value : Pool → ℕ → ℕ
value P p = get_or P.values p 0

-- the codes: a group of the operators' has as many as there are operators
abbrev pub n_op : ℕ
n_op = 2

abbrev pub rest_op : ℕ
rest_op = n_op + length operators

abbrev pub nay_node : ℕ
nay_node = rest_op + length operators

abbrev pub pick_node : ℕ
pick_node = nay_node + 1

abbrev pub value_op : ℕ
value_op = pick_node + 1

abbrev pub pair_op : ℕ
pair_op = value_op + length operators

abbrev pub choice_node : ℕ
choice_node = pair_op + length operators

abbrev pub ternary_node : ℕ
ternary_node = choice_node + 1

-- no other is known
abbrev pub known : ℕ → Bool
known c = leb c ternary_node

-- operator number i on two trees
abbrev pub joined : Option Op → Tree → Tree → Tree
joined (some op) x y = bin op x y
joined none x y = var

-- a node with no operand, by its code; with one, which is b; with two, which are x and b
abbrev pub leaf : ℕ → ℕ → ℕ → Tree
leaf c m v =
    elim (ltb c n_op) [
      | true ↦ elim (eqb c 0) [ true ↦ var | false ↦ int v ]
      | false ↦ elim (ltb c rest_op) [
        | true ↦ joined (op_of (c - n_op)) var (int v)
        | false ↦ joined (op_of (c - rest_op)) (bin rem var (int m)) (int v)
      ]
    ]

abbrev pub one : ℕ → ℕ → ℕ → Tree → Tree
one c m v b =
    elim (eqb c nay_node) [
      | true ↦ nay b
      | false ↦ elim (ltb c value_op) [ true ↦ cond b (int v) (int m) | false ↦ joined (op_of (c - value_op)) b (int v) ]
    ]

abbrev pub two : ℕ → ℕ → Tree → Tree → Tree
two c v x b = elim (ltb c choice_node) [ true ↦ joined (op_of (c - pair_op)) x b | false ↦ cond x (int v) b ]

-- the tree of a node
abbrev pub build : ℕ → ℕ → ℕ → Tree → Tree → Tree → Tree
build c m v x y b =
    elim (ltb c nay_node) [
      | true ↦ leaf c m v
      | false ↦ elim (ltb c pair_op) [ true ↦ one c m v b | false ↦ elim (ltb c ternary_node) [ true ↦ two c v x b | false ↦ cond x y b ] ]
    ]

-- an operand place that is not below its parent's holds no tree
abbrev pub below : (ℕ → Tree) → ℕ → ℕ → Tree
below sub p q = elim (ltb q p) [ true ↦ sub q | false ↦ var ]

abbrev pub node : Pool → ℕ → (ℕ → Tree) → Tree
node P p sub =
    build (code P p) (field P p 0) (value P p) (below sub p (field P p 0)) (below sub p (field P p 1)) (below sub p (p - 1))

unfoldable pub tree_at : ℕ → Pool → ℕ → Tree
tree_at zero P p = var
tree_at (suc f) P p = node P p (tree_at f P)

-- the tree that the pool holds at a place
unfoldable pub tree_of : Pool → ℕ → Tree
unfolding tree_at
tree_of P p = tree_at (suc p) P p

-- how many fields of a node with operands are places
abbrev pub fields : ℕ → ℕ
fields c = elim (ltb c pair_op) [ true ↦ 0 | false ↦ elim (ltb c ternary_node) [ true ↦ 1 | false ↦ 2 ] ]

unfoldable pub operands_to : Pool → ℕ → ℕ → List ℕ
operands_to P p zero = (p - 1) ∷ []
operands_to P p (suc j) = field P p j ∷ operands_to P p j

-- the operands of the node at p
unfoldable pub operands : Pool → ℕ → List ℕ
unfolding operands_to
operands P p = elim (ltb (code P p) nay_node) [ true ↦ [] | false ↦ operands_to P p (fields (code P p)) ]

unfoldable pub all_below : ℕ → List ℕ → Bool
all_below p [] = true
all_below p (q ∷ qs) = ltb q p && all_below p qs

-- those of all places below k
unfoldable pub used : Pool → ℕ → List ℕ
unfolding operands
used P zero = []
used P (suc k) = operands P k ++ used P k

unfoldable pub member : ℕ → List ℕ → Bool
member q [] = false
member q (x ∷ xs) = elim (eqb q x) [ true ↦ true | false ↦ member q xs ]

-- none stands twice
unfoldable pub distinct : List ℕ → Bool
unfolding member
distinct [] = true
distinct (x ∷ xs) = not (member x xs) && distinct xs

-- every place below k has a known code and operands below it
unfoldable pub shaped : Pool → ℕ → Bool
unfolding operands all_below
shaped P zero = true
shaped P (suc k) = shaped P k && (known (code P k) && all_below k (operands P k))

-- the nodes are a tree
unfoldable pub is_tree : Pool → ℕ → ℕ → Bool
unfolding shaped used distinct
is_tree P count root = leb count 512 && (ltb root count && (shaped P count && distinct (used P count)))
