-- Where the nodes of a tree go as a reader puts them: one after the other from a place on, each operand before its parent, the last just
-- before it; each n, integer and operator is a node.
use Rattle.std.specs.Prelude.{ℕ, zero, suc, ◌+◌, ◌-◌, ◌*◌, List, [], ◌∷◌, set}
use Rattle.rules.specs.Tree.{Tree, var, int, nay, bin, cond, Op}
use Rattle.rules.specs.Operator.{op_code}
use Rattle.rules.specs.Pool.{Pool, pool, nay_node, pair_op, ternary_node}

abbrev pub push : Pool → ℕ → ℕ → ℕ → ℕ → ℕ → Pool
push P k code x y v = pool (set P.codes k code) (set (set P.places (2 * k) x) (2 * k + 1) y) (set P.values k v)

-- the code of an operator's node
abbrev pub node_code : Op → ℕ
node_code op = pair_op + op_code op

unfoldable pub size : Tree → ℕ
size var = 1
size (int v) = 1
size (nay t) = size t + 1
size (bin op s t) = size s + size t + 1
size (cond s t u) = size s + size t + size u + 1

unfoldable pub store : Tree → ℕ → Pool → Pool
unfolding size op_code
store var k P = push P k 0 0 0 0
store (int v) k P = push P k 1 0 0 v
store (nay t) k P = push (store t k P) (k + size t) nay_node 0 0 0
store (bin op s t) k P = push (store t (k + size s) (store s k P)) (k + size s + size t) (node_code op) (k + size s - 1) 0 0
store (cond s t u) k P =
    push
    (store u (k + size s + size t) (store t (k + size s) (store s k P)))
    (k + size s + size t + size u)
    ternary_node
    (k + size s - 1)
    (k + size s + size t - 1)
    0

unfoldable pub zeros : ℕ → List ℕ
zeros zero = []
zeros (suc n) = 0 ∷ zeros n

-- the arrays in which nothing is stored yet
unfoldable pub blank : Pool
unfolding zeros
blank = pool (zeros 512) (zeros 1024) (zeros 512)
