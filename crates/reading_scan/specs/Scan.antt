-- What the Shipped reading looks for in a text of bytes. The Rust's plurals.rs: the folds of `index_of` and `parse_parens`. Document 01,
-- "Two readings of a rule".
use Rattle.std.specs.Prelude.{ℕ, ◌+◌, ◌-◌, Bool, true, false, ◌&&◌, List, [], ◌∷◌, length, get_or, ltb, eqb, Option, Some, None}

-- `Some(ch) == pat.chars().nth(n)`
abbrev pub stands : List ℕ → ℕ → ℕ → Bool
stands pat n ch = elim (ltb n (length pat)) [ true ↦ eqb (get_or pat n 0) ch | false ↦ false ]

-- a count of the bytes b, one further; 40 and 41 are the brackets
abbrev pub counted : ℕ → ℕ → ℕ → ℕ
counted n b ch = elim (eqb ch b) [ true ↦ n + 1 | false ↦ n ]

-- `index_of`: after i bytes, n signs of the pattern matched, so many brackets opened and closed. The level, which may go below zero,
-- is zero where the two are equal. The text's length stands for `None`.
unfoldable pub index_from : List ℕ → List ℕ → ℕ → ℕ → ℕ → ℕ → ℕ
index_from pat [] i n opened closed = i
index_from pat (ch ∷ s) i n opened closed =
    elim (stands pat n ch) [
      | true ↦ elim (eqb (n + 1) (length pat) && eqb (counted opened 40 ch) (counted closed 41 ch)) [
        | true ↦ i - n
        | false ↦ index_from pat s (i + 1) (n + 1) (counted opened 40 ch) (counted closed 41 ch)
      ]
      | false ↦ index_from pat s (i + 1) 0 (counted opened 40 ch) (counted closed 41 ch)
    ]

unfoldable pub index_of : List ℕ → List ℕ → ℕ
index_of pat s = index_from pat s 0 0 0 0

-- the place, if the pattern stands in the text
abbrev pub found_at : List ℕ → List ℕ → Option ℕ
found_at pat s = elim (ltb (index_of pat s) (length s)) [ true ↦ Some (index_of pat s) | false ↦ None ]

-- the fold of `parse_parens`, (level, index): the level after a byte, and the index after it
abbrev pub deeper : ℕ → ℕ → ℕ
deeper level ch =
    elim (ltb 0 level) [
      | true ↦ elim (eqb ch 41) [ true ↦ level - 1 | false ↦ counted level 40 ch ]
      | false ↦ counted level 40 ch
    ]

abbrev pub further : ℕ → ℕ → ℕ → ℕ
further level index ch = elim (ltb 0 level) [ true ↦ index + 1 | false ↦ counted index 40 ch ]

unfoldable pub end_from : List ℕ → ℕ → ℕ → ℕ
end_from [] level index = index
end_from (ch ∷ s) level index = end_from s (deeper level ch) (further level index ch)
