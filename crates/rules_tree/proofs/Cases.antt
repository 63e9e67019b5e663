-- Pools as an altered record may have them, computed from the definition of the test. SPEC 8: five reasons why nodes
-- are no tree, tested at every place below the count; what a code does not use is not looked at. Assumes nothing.
use Prim.Native.Nat.{ℕ, ◌+◌}
use mathlib.Core.Path.{◌≡◌, refl}
use mathlib.Core.Bool.{Bool, true, false}
use mathlib.Core.List.{List, [], ◌∷◌, map}
use lib.Dec.{leb}
use Rattle.rules.specs.Pool.{Pool, pool, known, operands_to, operands, all_below, used, member, distinct, shaped, is_tree, n_op, rest_op, nay_node, pick_node, value_op, pair_op, choice_node, ternary_node}

-- n and n, with fields that they do not use, and a node over them
abbrev pub over : ℕ → ℕ → ℕ → Pool
over c x y = pool (0 ∷ 0 ∷ c ∷ []) (9 ∷ 9 ∷ 600 ∷ 600 ∷ x ∷ y ∷ []) []

-- n and n, a node over the second, and one over the first and it, or over the first two and it
abbrev beside : ℕ → ℕ → Pool
beside c x = pool (0 ∷ 0 ∷ nay_node ∷ c ∷ []) (0 ∷ 0 ∷ 0 ∷ 0 ∷ 0 ∷ 0 ∷ x ∷ 0 ∷ []) []

abbrev among : ℕ → ℕ → Pool
among x y = pool (0 ∷ 0 ∷ 0 ∷ ternary_node ∷ []) (0 ∷ 0 ∷ 0 ∷ 0 ∷ 0 ∷ 0 ∷ x ∷ y ∷ []) []

pub record Row : Type 0 where
  pub nodes : Pool
  pub count : ℕ
  pub root : ℕ
  pub answer : Bool

abbrev row : Pool → ℕ → ℕ → Bool → Row
row P k r b = record { nodes = P; count = k; root = r; answer = b }

abbrev pub rows : List Row
rows =
    row (over pair_op 0 9) 3 2 true
    ∷ row (among 0 1) 4 3 true
    -- a node without places uses neither field, one with one place not the second
    ∷ row (over nay_node 600 65535) 3 2 true
    ∷ row (over (rest_op + 8) 600 65535) 3 2 true
    ∷ row (over (pair_op + 8) 0 65535) 3 2 true
    ∷ row (beside choice_node 0) 4 3 true
    -- nodes off the root's tree, each at the root of its own
    ∷ row (over nay_node 0 0) 3 0 true
    -- more than 512 nodes
    ∷ row (over pair_op 0 0) 512 2 true
    ∷ row (over pair_op 0 0) 513 2 false
    -- the root outside
    ∷ row (over pair_op 0 0) 3 3 false
    ∷ row (over pair_op 0 0) 0 0 false
    -- an unknown code; at the count, and off the root's tree
    ∷ row (over (ternary_node + 1) 0 1) 3 2 false
    ∷ row (over 255 0 1) 2 1 true
    ∷ row (over 255 0 1) 3 1 false
    -- an operand at its parent, and above it; none before the first place
    ∷ row (over pair_op 2 0) 3 2 false
    ∷ row (over pair_op 65535 0) 3 2 false
    ∷ row (among 0 3) 4 3 false
    ∷ row (pool (nay_node ∷ []) (0 ∷ 0 ∷ []) []) 1 0 false
    -- an operand twice: of one parent, of one ?:, of two
    ∷ row (over pair_op 1 0) 3 2 false
    ∷ row (among 2 1) 4 3 false
    ∷ row (among 0 0) 4 3 false
    ∷ row (beside pair_op 1) 4 3 false
    ∷ []

pub rows_hold : map (λ r. is_tree r.nodes r.count r.root) rows ≡ map (λ r. r.answer) rows
unfolding is_tree shaped used operands operands_to all_below distinct member
rows_hold = refl

-- the codes' numbers, and which codes are known
pub code_numbers : (n_op ∷ rest_op ∷ nay_node ∷ pick_node ∷ value_op ∷ pair_op ∷ choice_node ∷ ternary_node ∷ []) ≡ (2 ∷ 15 ∷ 28 ∷ 29 ∷ 30 ∷ 43 ∷ 56 ∷ 57 ∷ [])
code_numbers = refl

pub known_codes : (c : ℕ) → known c ≡ leb c 57
known_codes c = refl
