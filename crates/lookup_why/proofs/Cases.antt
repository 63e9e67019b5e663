-- A case for each reason, computed. The file has two entries with the key "a": the first stores x, y and z, the last, which counts, b and c. Assumes
-- nothing.
use Prim.Native.Nat.{ℕ}
use mathlib.Core.Path.{◌≡◌, refl}
use mathlib.Core.Bool.{false}
use mathlib.Core.List.{List, [], ◌∷◌, map}
use Rattle.text.specs.Bytes.{bytes, front, same}
use Rattle.text.specs.Cut.{cut}
use Rattle.rules.specs.Tree.{Tree, var, int, nay, bin, rem}
use Rattle.rules.specs.Value.{eval_tree, binary, negated}
use Rattle.rules.specs.Operator.{op_at, op_of, op_code}
use Rattle.rules.specs.Pool.{tree_at, tree_of, operands_to, operands, all_below, used, member, distinct, shaped, is_tree}
use Rattle.rules.specs.Store.{zeros, blank}
use Rattle.rules.specs.Pack.{number_of, is_count, is_rem, left_of, pack, nodes, keep, packed_size, packed}
use Rattle.rules.specs.Answer.{resolved_of}
use Rattle.rules_zero.specs.Zero.{reached, step_of, steps, zero_at, traced_of}
use Rattle.container_layout.specs.Mo.{word, string, id_start, id_end, entry, piece_at, segment}
use Rattle.container_layout.specs.declared.Tables.{Tables}
use Rattle.lookup_scan.specs.Keys.{last_in, last_with}
use Rattle.lookup_why.specs.Why.{stored, why}
use Rattle.lookup_why.specs.declared.Why.{Why}
use Rattle.lookup_why.specs.declared.Why.TheVariants.{StaleLength, NoTree, ZeroDivisor, NoEntry, TooFewSegments, Answered}

abbrev file : List ℕ
file =
    222 ∷ 18 ∷ 4 ∷ 149 ∷ 0 ∷ 0 ∷ 0 ∷ 0 ∷ 2 ∷ 0 ∷ 0 ∷ 0 ∷ 28 ∷ 0 ∷ 0 ∷ 0 ∷ 44 ∷ 0 ∷ 0 ∷ 0 ∷ 0 ∷ 0 ∷ 0 ∷ 0 ∷ 60 ∷ 0 ∷ 0 ∷ 0
    -- the originals, both at 60, and the translations, at 62 and 68
    ∷ 1 ∷ 0 ∷ 0 ∷ 0 ∷ 60 ∷ 0 ∷ 0 ∷ 0 ∷ 1 ∷ 0 ∷ 0 ∷ 0 ∷ 60 ∷ 0 ∷ 0 ∷ 0
    ∷ 5 ∷ 0 ∷ 0 ∷ 0 ∷ 62 ∷ 0 ∷ 0 ∷ 0 ∷ 3 ∷ 0 ∷ 0 ∷ 0 ∷ 68 ∷ 0 ∷ 0 ∷ 0
    ∷ 97 ∷ 0 ∷ 120 ∷ 0 ∷ 121 ∷ 0 ∷ 122 ∷ 0 ∷ 98 ∷ 0 ∷ 99 ∷ 0 ∷ []

-- a record: the length that it says, its rule, and its root; a key and a count; what is told of them
abbrev Row : Type 0
Row = ℕ × Tree × ℕ × List ℕ × ℕ × Why

-- !(n%0): nodes n%0, !
abbrev by_zero : Tree
by_zero = nay (bin rem var (int 0))

abbrev table : List Row
table =
    (71, var, 0, bytes "a", 1, StaleLength) ∷ (71, var, 1, bytes "a", 1, StaleLength) ∷ (72, var, 1, bytes "a", 1, NoTree)
    ∷ (72, by_zero, 1, bytes "a", 7, ZeroDivisor 0) ∷ (72, by_zero, 1, bytes "z", 7, ZeroDivisor 0) ∷ (72, var, 0, bytes "z", 1, NoEntry)
    ∷ (72, var, 0, bytes "a", 2, TooFewSegments 1 2 2) ∷ (72, var, 0, bytes "a", 1, Answered 1 1 70 1)
    ∷ []

abbrev tables : ℕ → Tables
tables n = record { length = n; big = false; count = 2; originals = 28; translations = 44 }

abbrev said : Row → Why
said r = why file (tables r.0) (traced_of (packed r.1) (packed_size r.1) r.2 r.4) (last_with file (tables r.0) r.3)

abbrev meant : Row → Why
meant r = r.5

pub all_told : map said table ≡ map meant table
unfolding why stored traced_of zero_at steps step_of reached resolved_of eval_tree binary negated op_at op_of op_code tree_at tree_of operands_to operands all_below used member distinct shaped is_tree
    zeros blank number_of is_count is_rem left_of pack nodes keep packed_size packed
    last_with last_in entry word string id_start id_end front same cut piece_at segment
all_told = refl
