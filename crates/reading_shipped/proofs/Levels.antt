-- What the first level with a match says of the reading. Assumes nothing.
use Prim.Native.Nat.{ℕ, suc, ◌<◌, ◌≤◌}
use mathlib.Core.Path.{◌≡◌, refl}
use mathlib.Core.Bool.{Bool, true, false}
use mathlib.Core.List.{List, [], ◌∷◌}
use native.Mathlib.Omega.{arith}
use lib.ListN.{length, get_or}
use borrow.Author.Tests.{ltb-true}
use Rattle.rules.specs.Tree.{rem, Reading}
use Rattle.text_trim.specs.Trim.{trim, six}
use Rattle.reading_scan.specs.Scan.{index_of}
use Rattle.reading_levels.specs.Levels.{Row, row, rows, binary, found, row_at, row_of}
use Rattle.reading_shipped.specs.Shipped.{cut_at, read_not, level, shipped}

-- the first row with a match says how the text is cut; without one the text goes on to `parse_not`
row_found : (rs : List Row) (s : List ℕ) → row_of rs s < length rs → found (get_or rs (row_of rs s) (row [] (binary rem))).pattern s ≡ true
unfolding row_of
row_found [] s h = absurd (omega arith)
row_found (r ∷ rs) s h = go (found r.pattern s) refl (row_found rs s) h
  where
    go :
        (b : Bool) → found r.pattern s ≡ b →
        (row_of rs s < length rs → found (get_or rs (row_of rs s) (row [] (binary rem))).pattern s ≡ true) →
        elim b [ true ↦ 0 | false ↦ suc (row_of rs s) ] < suc (length rs) →
        found (get_or (r ∷ rs) (elim b [ true ↦ 0 | false ↦ suc (row_of rs s) ]) (row [] (binary rem))).pattern s ≡ true
    go true e g h = e
    go false e g h = g (omega arith)

level_at :
    (parse : List ℕ → Reading) (rs : List Row) (s : List ℕ) → row_of rs s < length rs →
    level parse rs s ≡ cut_at parse (get_or rs (row_of rs s) (row [] (binary rem))) s
unfolding row_of level
level_at parse [] s h = absurd (omega arith)
level_at parse (r ∷ rs) s h = go (found r.pattern s) (level_at parse rs s) h
  where
    go :
        (b : Bool) → (row_of rs s < length rs → level parse rs s ≡ cut_at parse (get_or rs (row_of rs s) (row [] (binary rem))) s) →
        elim b [ true ↦ 0 | false ↦ suc (row_of rs s) ] < suc (length rs) →
        ◌≡◌ {A = Reading} (elim b [ true ↦ cut_at parse r s | false ↦ level parse rs s ])
        (cut_at parse (get_or (r ∷ rs) (elim b [ true ↦ 0 | false ↦ suc (row_of rs s) ]) (row [] (binary rem))) s)
    go true g h = refl
    go false g h = g (omega arith)

level_past :
    (parse : List ℕ → Reading) (rs : List Row) (s : List ℕ) → length rs ≤ row_of rs s → level parse rs s ≡ read_not parse (trim six s)
unfolding row_of level
level_past parse [] s h = refl
level_past parse (r ∷ rs) s h = go (found r.pattern s) (level_past parse rs s) h
  where
    go :
        (b : Bool) → (length rs ≤ row_of rs s → level parse rs s ≡ read_not parse (trim six s)) →
        suc (length rs) ≤ elim b [ true ↦ 0 | false ↦ suc (row_of rs s) ] →
        ◌≡◌ {A = Reading} (elim b [ true ↦ cut_at parse r s | false ↦ level parse rs s ]) (read_not parse (trim six s))
    go true g h = absurd (omega arith)
    go false g h = g (omega arith)

module _ (s : List ℕ) (l : ℕ) (e : l ≡ row_of rows s) where
  pub match_in : l < 10 → index_of (row_at l).pattern s < length s
  match_in h = rw e (ltb-true _ _ (row_found rows s (omega arith)))

  pub level_row : l < 10 → level shipped rows s ≡ cut_at shipped (row_at l) s
  level_row h = rw e (level_at shipped rows s (omega arith))

  pub level_rest : 10 ≤ l → level shipped rows s ≡ read_not shipped (trim six s)
  level_rest h = level_past shipped rows s (omega arith)
