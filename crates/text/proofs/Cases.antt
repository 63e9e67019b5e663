-- Pairs of texts compared, computed from the definitions. Assumes nothing.
use Prim.Native.Nat.{ℕ}
use mathlib.Core.Path.{◌≡◌, refl}
use mathlib.Core.Bool.{Bool, true, false, ◌&&◌}
use mathlib.Core.List.{List, [], ◌∷◌, map}
use Rattle.text.specs.Bytes.{bytes, within, all, same, begins, first, read}
use Rattle.std.specs.Prelude.{Option, Some, None}
use Rattle.text.specs.declared.Case.TheVariants.{Small}

-- a text and another: whether they are the same, and are with the first in small letters, whether the first begins with the other, and where
-- the other stands in it
pub record Row : Type 0 where
  pub text : List ℕ
  pub other : List ℕ
  pub equal : Bool
  pub equal_small : Bool
  pub starts : Bool
  pub found : Option ℕ

abbrev row : List ℕ → List ℕ → Bool → Bool → Bool → Option ℕ → Row
row s t e m b f = record { text = s; other = t; equal = e; equal_small = m; starts = b; found = f }

abbrev pub rows : List Row
rows =
    row (bytes "utf-8") (bytes "utf-8") true true true (Some 0)
    ∷ row (bytes "UTF-8") (bytes "utf-8") false true false None
    -- the other is taken as it is
    ∷ row (bytes "utf-8") (bytes "UTF-8") false false false None
    ∷ row (bytes "utf-8") (bytes "utf-") false false true (Some 0)
    -- the first of two places, and one that a search without going back passes over
    ∷ row (bytes "text/plain; charset=charset=") (bytes "charset=") false false false (Some 12)
    ∷ row (bytes "chcharset") (bytes "charset") false false false (Some 2)
    -- the bytes beside A and Z are no letters
    ∷ row (bytes "[@AZ{`") (bytes "[@az{`") false true false None
    ∷ row (bytes "[") (bytes "{") false false false None
    ∷ row (bytes "@") (bytes "`") false false false None
    ∷ row [] [] true true true (Some 0)
    ∷ row (bytes "x") [] false false true (Some 0)
    ∷ row [] (bytes "x") false false false None
    ∷ []

abbrev pub said : Row → Bool × Bool × Bool × Option ℕ
said r = (r.equal, r.equal_small, r.starts, r.found)

abbrev pub computed : Row → Bool × Bool × Bool × Option ℕ
computed r =
    (same r.other r.text, same r.other (map (read Small) r.text), begins r.other r.text, first r.other r.text)

pub rows_hold : map computed rows ≡ map said rows
unfolding same begins first
rows_hold = refl

-- a text, another and a bound: whether they are the same and have no byte below it
pub record Bounded : Type 0 where
  pub text : List ℕ
  pub other : List ℕ
  pub lo : ℕ
  pub same_from : Bool

abbrev bounded : List ℕ → List ℕ → ℕ → Bool → Bounded
bounded s t n b = record { text = s; other = t; lo = n; same_from = b }

abbrev pub bounds : List Bounded
bounds =
    bounded (bytes "charset") (bytes "charset") 97 true
    -- the least byte is the bound, and is below the next
    ∷ bounded (bytes "charset") (bytes "charset") 98 false
    ∷ bounded (bytes "charset") (bytes "charsets") 97 false
    ∷ bounded (bytes "charset") (bytes "charsex") 97 false
    -- a byte 0 in both is the same, and is below 1
    ∷ bounded (0 ∷ []) (0 ∷ []) 0 true
    ∷ bounded (0 ∷ []) (0 ∷ []) 1 false
    ∷ bounded [] [] 255 true
    ∷ []

pub bounds_hold : map (λ r. same r.other r.text && all (within (r.lo, 255)) r.other) bounds ≡ map (λ r. r.same_from) bounds
unfolding same all
bounds_hold = refl
