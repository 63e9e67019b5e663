-- Worked trees and pools and their texts, computed; and the answers for buffers of several lengths.
use Prim.Native.Nat.{ℕ, ◌+◌}
use Prim.Native.String as Str
use mathlib.Core.Path.{◌≡◌, refl}
use mathlib.Core.List.{List, [], ◌∷◌, map}
use Rattle.text.specs.Bytes.{bytes}
use Rattle.rules.specs.Tree.{Tree, var, int, nay, bin, cond, cmp, and, or, rem, eq, ne, ge, le, gt, lt}
use Rattle.rules.specs.Operator.{op_of, op_at}
use Rattle.rules.specs.Pool.{Pool, pool, tree_at, tree_of, operands_to, operands, all_below, used, member, distinct, shaped, is_tree, n_op, rest_op, nay_node, pick_node, value_op, pair_op, choice_node, ternary_node}
use Rattle.std.specs.Prelude.{Result, Ok, Err}
use Rattle.rules_text.specs.declared.Unwritten.{Unwritten}
use Rattle.rules_text.specs.declared.Unwritten.TheVariants.{TooLong, NoTree}
use Rattle.rules_text.specs.Bracketed.{decimal_in, decimal, bracketed}
use Rattle.rules_text.specs.Writing.{writing_of, left_by}

abbrev pub texts : List (Tree × Str.String)
texts =
    (var, "n")
    ∷ (int 0, "0")
    ∷ (int 100, "100")
    ∷ (int 18446744073709551615, "18446744073709551615")
    ∷ (nay var, "(!n)")
    ∷ (nay (nay (int 7)), "(!(!7))")
    ∷ (bin (cmp ne) var (int 1), "(n!=1)")
    ∷ (bin (cmp gt) (bin (cmp ge) var (int 1)) (bin (cmp le) (int 2) var), "((n>=1)>(2<=n))")
    ∷ (bin or (bin (cmp lt) var (int 10)) (bin (cmp eq) (nay var) (int 20)), "((n<10)||((!n)==20))")
    ∷ (cond var (int 1) (cond (int 0) (int 2) (int 3)), "(n?1:(0?2:3))")
    ∷ (cond (bin and (bin (cmp eq) (bin rem var (int 10)) (int 1)) (bin (cmp ne) (bin rem var (int 100)) (int 11))) (int 0) (int 1), "((((n%10)==1)&&((n%100)!=11))?0:1)")
    ∷ []

pub texts_hold : map (λ (c : Tree × Str.String). bracketed c.0) texts ≡ map (λ (c : Tree × Str.String). bytes c.1) texts
unfolding bracketed decimal decimal_in
texts_hold = refl

-- a node of each kind, each an operand of a later one: its code, its fields, its value
abbrev P : Pool
P =
    pool
    (n_op ∷ (rest_op + 1) ∷ (pair_op + 6) ∷ pick_node ∷ (value_op + 4) ∷ nay_node ∷ 0 ∷ choice_node ∷ 1 ∷ 1 ∷ ternary_node ∷ [])
    (0 ∷ 0 ∷ 10 ∷ 0 ∷ 0 ∷ 0 ∷ 2 ∷ 0 ∷ 0 ∷ 0 ∷ 0 ∷ 0 ∷ 0 ∷ 0 ∷ 5 ∷ 0 ∷ 0 ∷ 0 ∷ 0 ∷ 0 ∷ 7 ∷ 8 ∷ [])
    (1 ∷ 11 ∷ 0 ∷ 0 ∷ 100 ∷ 0 ∷ 0 ∷ 3 ∷ 0 ∷ 7 ∷ 0 ∷ [])

abbrev pub node_texts : List (ℕ × Str.String)
node_texts =
    (0, "(n==1)")
    ∷ (1, "((n%10)!=11)")
    ∷ (2, "((n==1)&&((n%10)!=11))")
    ∷ (3, "(((n==1)&&((n%10)!=11))?0:2)")
    ∷ (4, "((((n==1)&&((n%10)!=11))?0:2)>100)")
    ∷ (5, "(!((((n==1)&&((n%10)!=11))?0:2)>100))")
    ∷ (6, "n")
    ∷ (7, "((!((((n==1)&&((n%10)!=11))?0:2)>100))?3:n)")
    ∷ (8, "0")
    ∷ (10, "(((!((((n==1)&&((n%10)!=11))?0:2)>100))?3:n)?0:7)")
    ∷ []

pub node_texts_hold : map (λ (c : ℕ × Str.String). bracketed (tree_of P c.0)) node_texts ≡ map (λ (c : ℕ × Str.String). bytes c.1) node_texts
unfolding bracketed decimal decimal_in tree_of tree_at op_of op_at
node_texts_hold = refl

-- a place and the length of a buffer: 11 where no node is, also if the buffer has no byte; 8 where the text does not fit; else its length
abbrev pub answers : List (ℕ × ℕ × Result ℕ Unwritten)
answers = (0, 6, Ok 6) ∷ (0, 5, Err TooLong) ∷ (0, 600, Ok 6) ∷ (6, 1, Ok 1) ∷ (6, 0, Err TooLong) ∷ (10, 512, Ok 49) ∷ (11, 512, Err NoTree) ∷ (11, 0, Err NoTree) ∷ []

pub answers_hold : map (λ (c : ℕ × ℕ × Result ℕ Unwritten). writing_of P 11 c.0 c.1) answers ≡ map (λ (c : ℕ × ℕ × Result ℕ Unwritten). c.2) answers
unfolding writing_of is_tree shaped used distinct member operands operands_to all_below bracketed decimal decimal_in tree_of tree_at op_of op_at
answers_hold = refl

-- what the buffer then holds
pub rest_stays : left_by (writing_of P 11 0 9) (bracketed (tree_of P 0)) (bytes "_________") ≡ bytes "(n==1)___"
unfolding writing_of is_tree shaped used distinct member operands operands_to all_below bracketed decimal decimal_in tree_of tree_at op_of op_at
rest_stays = refl

pub all_stays : left_by (writing_of P 11 0 5) (bracketed (tree_of P 0)) (bytes "_____") ≡ bytes "_____"
unfolding writing_of is_tree shaped used distinct member operands operands_to all_below bracketed decimal decimal_in tree_of tree_at op_of op_at
all_stays = refl
