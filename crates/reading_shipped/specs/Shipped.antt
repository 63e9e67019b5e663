-- The Shipped reading: `Ast::parse` of the Rust's plurals.rs, transcribed. SPEC 6.
-- Each definition names the Rust's function; `parse` stands for the reading of a piece.
use Rattle.std.specs.Prelude.{ℕ, zero, suc, ◌+◌, ◌-◌, true, false, List, [], ◌∷◌, length, get_or, take, drop, ltb, eqb, Option, Some, None}
use Rattle.rules.specs.Tree.{var, int, nay, bin, cond, Op, Reading, tree, none}
use Rattle.text_trim.specs.Trim.{trim, six}
use Rattle.text_digits.specs.Digits.{integer}
use Rattle.reading_scan.specs.Scan.{index_of, end_from}
use Rattle.reading_levels.specs.Levels.{Kind, binary, ternary, Row, rows, found}

-- a node over the readings of its operands: one that has none leaves none
abbrev pub one : Reading → Reading
one (tree s) = tree (nay s)
one none = none

abbrev pub two : Op → Reading → Reading → Reading
two op (tree s) (tree t) = tree (bin op s t)
two op (tree s) none = none
two op none r = none

abbrev pub three : Reading → Reading → Reading → Reading
three (tree s) (tree t) (tree u) = tree (cond s t u)
three (tree s) (tree t) none = none
three (tree s) none r = none
three none q r = none

-- `parse_n`, `parse_int`
abbrev pub read_n : List ℕ → Reading
read_n s = elim (eqb (length s) 1) [ true ↦ elim (eqb (get_or s 0 0) 110) [ true ↦ tree var | false ↦ none ] | false ↦ none ]

abbrev pub or_n : Option ℕ → List ℕ → Reading
or_n (Some v) s = tree (int v)
or_n None s = read_n (trim six s)

abbrev pub read_int : List ℕ → Reading
read_int s = or_n (integer s) s

abbrev pub bang : List ℕ
bang = 33 ∷ []

abbrev pub colon : List ℕ
colon = 58 ∷ []

-- `parse_not`: only where the first ! outside brackets is the first byte
unfoldable pub read_not : (List ℕ → Reading) → List ℕ → Reading
read_not parse s =
    elim (found bang s) [
      | true ↦ elim (eqb (index_of bang s) 0) [ true ↦ one (parse (drop 1 s)) | false ↦ read_int (trim six s) ]
      | false ↦ read_int (trim six s)
    ]

-- `parse_ternary`, the first ? at i and the first : at l: none without a :, and where it is ahead of the ?
unfoldable pub choose : (List ℕ → Reading) → ℕ → ℕ → List ℕ → Reading
choose parse i l s =
    elim (ltb l (length s)) [
      | true ↦ elim (ltb i l) [
        | true ↦ three (parse (take i s)) (parse (take (l - (i + 1)) (drop (i + 1) s))) (parse (drop (l + 1) s))
        | false ↦ none
      ]
      | false ↦ none
    ]

-- a text cut at the pattern of w signs that stands at i
abbrev pub cut : (List ℕ → Reading) → Kind → ℕ → ℕ → List ℕ → Reading
cut parse (binary op) i w s = two op (parse (take i s)) (parse (drop (i + w) s))
cut parse ternary i w s = choose parse i (index_of colon s) s

abbrev pub cut_at : (List ℕ → Reading) → Row → List ℕ → Reading
cut_at parse r s = cut parse r.kind (index_of r.pattern s) (length r.pattern) s

-- `parse_and`, `parse_or`, .. `parse_mod`: each hands the text on to the next, the last to `parse_not`
unfoldable pub level : (List ℕ → Reading) → List Row → List ℕ → Reading
level parse [] s = read_not parse (trim six s)
level parse (r ∷ rs) s = elim (found r.pattern s) [ true ↦ cut_at parse r s | false ↦ level parse rs s ]

-- `parse_parens`: without the first and the last byte, whatever that is, if the fold comes to the text's length.
-- A lone "(", where the Rust panics, is none.
abbrev pub inside : List ℕ → List ℕ
inside s = take (length s - 1 - 1) (drop 1 s)

unfoldable pub parens : (List ℕ → Reading) → List ℕ → Reading
parens parse s =
    elim (eqb (get_or s 0 0) 40) [
      | true ↦ elim (eqb (length s) 1) [
        | true ↦ none
        | false ↦ elim (eqb (end_from (inside s) 1 2) (length s)) [
          | true ↦ parse (trim six (inside s))
          | false ↦ level parse rows (trim six s)
        ]
      ]
      | false ↦ level parse rows (trim six s)
    ]

-- `parse`, for pieces of fewer bytes than the fuel
unfoldable pub parse_in : ℕ → List ℕ → Reading
parse_in zero s = none
parse_in (suc f) s = parens (parse_in f) (trim six s)

-- `Ast::parse`: every piece is shorter than its text, so this fuel does
unfoldable pub shipped : List ℕ → Reading
shipped s = parse_in (suc (length s)) s
