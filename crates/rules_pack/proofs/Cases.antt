-- Rules and what they are packed to, computed from the definition: codes, fields and values of the nodes. Assumes nothing.
use Prim.Native.Nat.{ℕ, ◌+◌}
use mathlib.Core.Path.{◌≡◌, refl}
use mathlib.Core.List.{List, [], ◌∷◌, map}
use Rattle.rules.specs.Tree.{Tree, var, int, nay, bin, cond, cmp, and, rem, eq, ne}
use Rattle.rules.specs.Operator.{op_code}
use Rattle.rules.specs.Pool.{n_op, rest_op, nay_node, pick_node, value_op, pair_op, choice_node}
use Rattle.rules.specs.Pack.{Packed, leaf, one, two, three, number_of, is_count, is_rem, left_of, pack}

-- n % m
abbrev rest : ℕ → Tree
rest m = bin rem var (int m)

abbrev rows : List (Tree × Packed)
rows =
    (bin (cmp ne) var (int 1), leaf (n_op + 1) 0 1)
    ∷ (bin (cmp eq) (rest 10) (int 1), leaf rest_op 10 1)
    ∷ (rest 10, leaf (n_op + 8) 0 10)
    -- the largest number that a field holds, and one more
    ∷ (bin (cmp eq) (rest 65535) (int 1), leaf rest_op 65535 1)
    ∷ (bin (cmp eq) (rest 65536) (int 1), one value_op 0 1 (leaf (n_op + 8) 0 65536))
    ∷ (cond var (int 1) (int 65535), one pick_node 65535 1 (leaf 0 0 0))
    ∷ (cond var (int 1) (int 65536), two choice_node 1 (leaf 0 0 0) (leaf 1 0 65536))
    ∷ (cond var var (int 2), three (leaf 0 0 0) (leaf 0 0 0) (leaf 1 0 2))
    -- an integer on the left is a node
    ∷ (bin (cmp ne) (int 1) var, two (pair_op + 1) 0 (leaf 1 0 1) (leaf 0 0 0))
    ∷ (nay (rest 2), one nay_node 0 0 (leaf (n_op + 8) 0 2))
    -- n%10==1 && n%100!=11 ? 0 : n!=0 ? 1 : 2
    ∷ (
      cond (bin and (bin (cmp eq) (rest 10) (int 1)) (bin (cmp ne) (rest 100) (int 11))) (int 0) (cond (bin (cmp ne) var (int 0)) (int 1) (int 2)),
      two choice_node 0 (two (pair_op + 6) 0 (leaf rest_op 10 1) (leaf (rest_op + 1) 100 11)) (one pick_node 2 1 (leaf (n_op + 1) 0 0)),
    )
    ∷ []

pub rows_hold : map (λ r. pack r.0) rows ≡ map (λ r. r.1) rows
unfolding pack number_of is_count is_rem left_of op_code
rows_hold = refl
