-- A reading makes trees of its own operators only: what the Shipped reading makes has document 01's, by the table of levels. So a rule that
-- was loaded in a reading is one that this reading gives back. Assumes nothing.
use Prim.Native.Nat.{ℕ, zero, suc, ◌+◌, ◌-◌}
use mathlib.Core.Bool.{Bool, true, false}
use mathlib.Core.List.{List, [], ◌∷◌}
use lib.ListN.{length, get_or, take, drop}
use lib.Dec.{eqb, ltb}
use Rattle.text.specs.Bytes.{all}
use Rattle.text_trim.specs.Trim.{trim, six, white_space}
use Rattle.std.specs.Prelude.{Option, Some, None}
use Rattle.text_digits.specs.Digits.{integer}
use Rattle.refusal.specs.Places.{at}
use Rattle.refusal.specs.declared.Where.{Where}
use Rattle.refusal.specs.declared.Error.TheVariants.{PluralParsing, RuleTooLong}
use Rattle.rules.specs.Tree.{Tree, var, int, nay, bin, cond, Op, Reading, tree, none}
use Rattle.reading_scan.specs.Scan.{index_of, end_from}
use Rattle.reading_levels.specs.Levels.{Kind, binary, ternary, Row, rows, found}
use Rattle.reading_shipped.specs.Shipped.{one, two, three, or_n, read_int, bang, colon, read_not, choose, cut, level, inside, parens, parse_in, shipped}
use Rattle.reading_rule.specs.declared.Reading as choice
use Rattle.reading_rule.specs.declared.Reading.TheVariants.{Shipped, Standard}
use Rattle.reading_rule.specs.Plurals.{norule, is_ascii, made, tested, parsed, tree_in}
use Rattle.reading_bracketed.specs.Plain.{Plain-op, Plain, Knows}

-- no other operators in what was read
pub data Only : Reading → Type 0 where
  plain : (t : Tree) → Plain t → Only (tree t)
  nothing : Only none

either : (b : Bool) {q r : Reading} → Only q → Only r → Only (elim b [ true ↦ q | false ↦ r ])
either true h k = h
either false h k = k

only_one : {r : Reading} → Only r → Only (one r)
only_one (plain s h) = plain (nay s) h
only_one nothing = nothing

only_two : (op : Op) → Plain-op op → {q r : Reading} → Only q → Only r → Only (two op q r)
only_two op p (plain s h) (plain t k) = plain (bin op s t) (p, h, k)
only_two op p (plain s h) nothing = nothing
only_two op p nothing k = nothing

only_three : {o q r : Reading} → Only o → Only q → Only r → Only (three o q r)
only_three (plain s h) (plain t k) (plain u l) = plain (cond s t u) (h, k, l)
only_three (plain s h) (plain t k) nothing = nothing
only_three (plain s h) nothing l = nothing
only_three nothing k l = nothing

only_int : (s : List ℕ) → Only (read_int s)
only_int s = go (integer s)
  where
    go : (v : Option ℕ) → Only (or_n v s)
    go (Some v) = plain (int v) tt
    go None = either (eqb (length (trim six s)) 1) (either (eqb (get_or (trim six s) 0 0) 110) (plain var tt) nothing) nothing

-- the rows of the table are of document 01's operators
abbrev Plain-kind : Kind → Type 0
Plain-kind (binary op) = Plain-op op
Plain-kind ternary = Unit {0}

abbrev Plain-rows : List Row → Type 0
Plain-rows [] = Unit {0}
Plain-rows (r ∷ rs) = Plain-kind r.kind × Plain-rows rs

plain_rows : Plain-rows rows
plain_rows = (tt, (tt, (tt, (tt, (tt, (tt, (tt, (tt, (tt, (tt, tt))))))))))

module _ (parse : List ℕ → Reading) (h : (s : List ℕ) → Only (parse s)) where
  only_not : (s : List ℕ) → Only (read_not parse s)
  unfolding read_not
  only_not s =
      either (found bang s)
      (either (eqb (index_of bang s) 0) (only_one (h (drop 1 s))) (only_int (trim six s)))
      (only_int (trim six s))

  only_cut : (k : Kind) → Plain-kind k → (i w : ℕ) (s : List ℕ) → Only (cut parse k i w s)
  unfolding choose
  only_cut (binary op) p i w s = only_two op p (h (take i s)) (h (drop (i + w) s))
  only_cut ternary p i w s =
      let l : ℕ = index_of colon s in
      either (ltb l (length s))
      (either (ltb i l) (only_three (h (take i s)) (h (take (l - (i + 1)) (drop (i + 1) s))) (h (drop (l + 1) s))) nothing)
      nothing

  only_level : (rs : List Row) → Plain-rows rs → (s : List ℕ) → Only (level parse rs s)
  unfolding level
  only_level [] p s = only_not (trim six s)
  only_level (r ∷ rs) p s =
      either (found r.pattern s) (only_cut r.kind p.0 (index_of r.pattern s) (length r.pattern) s) (only_level rs p.1 s)

  only_parens : (s : List ℕ) → Only (parens parse s)
  unfolding parens
  only_parens s =
      let d = only_level rows plain_rows (trim six s) in
      either (eqb (get_or s 0 0) 40)
      (either (eqb (length s) 1) nothing (either (eqb (end_from (inside s) 1 2) (length s)) (h (trim six (inside s))) d))
      d

only_in : (f : ℕ) (s : List ℕ) → Only (parse_in f s)
unfolding parse_in
only_in zero s = nothing
only_in (suc f) s = only_parens (parse_in f) (only_in f) (trim six s)

pub shipped_plain : (s : List ℕ) → Only (shipped s)
unfolding shipped
shipped_plain s = only_in (suc (length s)) s

-- the default rule, which stands for a refused one, has them too
plain_made : (place : Where) {r : Reading} → Only r → Plain (tree_in (made place r))
unfolding made
plain_made place (plain t h) = h
plain_made place nothing = (tt, tt, tt)

-- what a text gives in a reading, that reading has
pub read_known : (place : Where) (reading : choice.Reading) (s : List ℕ) → Knows reading (tree_in (parsed place reading s))
unfolding parsed tested
read_known place Standard s = tt
read_known place Shipped s = go (ltb 512 (length t)) (all is_ascii t)
  where
    t : List ℕ
    t = trim white_space s

    go : (p q : Bool) → Plain (tree_in (elim p [ true ↦ norule (at place RuleTooLong) | false ↦ elim q [ true ↦ made place (shipped t) | false ↦ norule (at place PluralParsing) ] ]))
    go true q = (tt, tt, tt)
    go false true = plain_made place (shipped_plain t)
    go false false = (tt, tt, tt)
