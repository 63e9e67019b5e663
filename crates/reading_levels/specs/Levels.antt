-- The levels of the Shipped reading: `parse_and`, `parse_or`, .. `parse_mod` of the Rust's plurals.rs as rows of one table. Document 01,
-- "Two readings of a rule".
use Rattle.std.specs.Prelude.{ℕ, suc, Bool, true, false, List, [], ◌∷◌, length, get_or, ltb, Option, Some, None}
use Rattle.rules.specs.Tree.{Op, cmp, and, or, rem, eq, ne, ge, le, gt, lt}
use Rattle.rules.specs.Pool.{ternary_node}
use Rattle.rules.specs.Store.{node_code}
use Rattle.reading_scan.specs.Scan.{index_of}

-- the levels, in the order in which the Rust tries them: the pattern that is sought, and what the text is cut into there
pub data Kind : Type 0 where
  binary : Op → Kind
  ternary : Kind

pub record Row : Type 0 where
  pub pattern : List ℕ
  pub kind : Kind

abbrev pub row : List ℕ → Kind → Row
row p k = record { pattern = p; kind = k }

-- && || ? >= > <= < == != %
abbrev pub rows : List Row
rows =
    row (38 ∷ 38 ∷ []) (binary and) ∷
    row (124 ∷ 124 ∷ []) (binary or) ∷
    row (63 ∷ []) ternary ∷
    row (62 ∷ 61 ∷ []) (binary (cmp ge)) ∷
    row (62 ∷ []) (binary (cmp gt)) ∷
    row (60 ∷ 61 ∷ []) (binary (cmp le)) ∷
    row (60 ∷ []) (binary (cmp lt)) ∷
    row (61 ∷ 61 ∷ []) (binary (cmp eq)) ∷
    row (33 ∷ 61 ∷ []) (binary (cmp ne)) ∷
    row (37 ∷ []) (binary rem) ∷
    []

-- `index_of` gives a place: the pattern stands in the text, outside brackets
abbrev pub found : List ℕ → List ℕ → Bool
found pat s = ltb (index_of pat s) (length s)

-- the row at a place of the table; the first that has a match, or the table's length
abbrev pub row_at : ℕ → Row
row_at l = get_or rows l (row [] (binary rem))

unfoldable pub row_of : List Row → List ℕ → ℕ
row_of [] s = 0
row_of (r ∷ rs) s = elim (found r.pattern s) [ true ↦ 0 | false ↦ suc (row_of rs s) ]

-- that row, if there is one
abbrev pub row_in : List ℕ → Option ℕ
row_in s = elim (ltb (row_of rows s) (length rows)) [ true ↦ Some (row_of rows s) | false ↦ None ]

-- the code of the node that a row makes
abbrev pub code_of : Kind → ℕ
code_of (binary op) = node_code op
code_of ternary = ternary_node
