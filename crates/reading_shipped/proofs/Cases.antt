-- Rules that show the quirks of `index_of` and `parse_parens`, computed from the definition, as one list. Document 01's starred rules are in the
-- table of crate `starred`. Assumes nothing.
use Prim.Native.Nat.{ℕ}
use mathlib.Core.Path.{◌≡◌, refl}
use mathlib.Core.List.{List, [], ◌∷◌, map}
use Rattle.text.specs.Bytes.{bytes, begins}
use Rattle.text_trim.specs.Trim.{trim, trim_start, trim_end, edge_after, lead, encode}
use Rattle.text_digits.specs.Digits.{digits_from, integer}
use Rattle.rules.specs.Tree.{var, int, nay, bin, cond, cmp, or, rem, eq, gt, Reading, tree, none}
use Rattle.reading_scan.specs.Scan.{index_from, index_of, end_from}
use Rattle.reading_shipped.specs.Shipped.{shipped, parse_in, parens, level, choose, read_not}

abbrev rows : List (List ℕ × Reading)
rows =
    -- a bracket loses its last byte, whatever it is, and hands its inside to the loosest level
    (bytes "(n;", tree var)
    ∷ (bytes "(n==1)", tree (bin (cmp eq) var (int 1)))
    ∷ (bytes "(n)%(n)", tree (bin rem var var))
    -- a lone bracket, where the Rust panics; the empty rule, and blanks
    ∷ (bytes "(", none)
    ∷ ([], none)
    ∷ (bytes " \t", none)
    -- a sign without a number; decimal after a leading zero; 2^64-1 and 2^64
    ∷ (bytes "+", none)
    ∷ (bytes "007", tree (int 7))
    ∷ (bytes "18446744073709551615", tree (int 18446744073709551615))
    ∷ (bytes "18446744073709551616", none)
    -- a level below zero is not zero; a byte that breaks a begun match starts no other
    ∷ (bytes "n)&&(n", none)
    ∷ (bytes "n>>=1", none)
    -- ! binds tighter than %, and only in front
    ∷ (bytes "!n%2", tree (bin rem (nay var) (int 2)))
    ∷ (bytes "n!", none)
    -- || before ?:; a first : ahead of the first ?; > before ==, and before %
    ∷ (bytes "n||1?n:1", tree (bin or var (cond (int 1) var (int 1))))
    ∷ (bytes ":n?n", none)
    ∷ (bytes "n%2>1==n", tree (bin (cmp gt) (bin rem var (int 2)) (bin (cmp eq) (int 1) var)))
    ∷ []

pub rows_hold : map (λ (r : List ℕ × Reading). shipped r.0) rows ≡ map (λ (r : List ℕ × Reading). r.1) rows
unfolding shipped parse_in parens level choose read_not index_of index_from end_from integer digits_from trim trim_start trim_end edge_after lead encode begins
rows_hold = refl
