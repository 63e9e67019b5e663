-- The row of RFC 3629's table that a byte begins. Assumes nothing.
use Prim.Native.Nat.{ℕ, ◌≤◌}
use mathlib.Core.Path.{◌≡◌, refl, ◌∙◌}
use native.Mathlib.Omega.{arith}
use mathlib.Core.Bool.{Bool, true, ◌&&◌}
use mathlib.Core.List.{List, [], ◌∷◌, ◌++◌}
use mathlib.Core.Option.{some}
use lib.Dec.{ltb}
use borrow.Author.Tests.{ltb-true}
use Rattle.text.proofs.Tests.{taken, left, and_left, and_right}
use Rattle.text.proofs.Bounds.{over, inside}
use Rattle.text_utf8.specs.Utf8.{Bytes, Row, after}

-- every row's first bytes end below lo
abbrev pub ended : ℕ → List Row → Bool
ended lo [] = true
ended lo (row ∷ rows) = ltb row.0.1 lo && ended lo rows

-- rows that end below b are passed over
passed : (pre rows : List Row) (lo b : ℕ) → ended lo pre ≡ true → lo ≤ b → after (pre ++ rows) b ≡ after rows b
passed [] rows lo b e h = refl
passed (row ∷ pre) rows lo b e h =
    left _ _ (over row.0.0 row.0.1 b (omega (arith, ltb-true row.0.1 lo (and_left (ltb row.0.1 lo) (ended lo pre) e))))
    ∙ passed pre rows lo b (and_right (ltb row.0.1 lo) (ended lo pre) e) h

-- b begins the row after them
pub row_at : (pre : List Row) (lo hi : ℕ) (rs : List Bytes) (post : List Row) (b : ℕ) → ended lo pre ≡ true → lo ≤ b → b ≤ hi
    → after (pre ++ ((lo, hi), rs) ∷ post) b ≡ some rs
row_at pre lo hi rs post b e h k = passed pre (((lo, hi), rs) ∷ post) lo b e h ∙ taken _ _ (inside lo hi b h k)
