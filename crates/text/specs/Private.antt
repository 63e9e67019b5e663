-- What the functions behind the public ones promise.
use Rattle.std.specs.Prelude.{ℕ, ◌+◌, ◌<◌, ◌≤◌, ◌≡◌, Bool, true, false, not, List, [], ◌∷◌, length, get_or, drop, eqb}
use Rattle.text.specs.Bytes.{within, front}
use Rattle.text.specs.declared.Run.{Run}
use Rattle.text.specs.declared.Run.TheVariants.{Within, Without}

-- the bytes of a run
abbrev pub in_run : Run → ℕ × ℕ → ℕ → Bool
in_run Within bounds b = within bounds b
in_run Without bounds b = not (within bounds b)

-- 0 for a byte of the set, and 1 for any other
pub record Flags (w : ℕ → Bool) (b r : ℕ) : Type 0 where
  pub few : r ≤ 1
  pub zero : r ≡ 0 → w b ≡ true
  pub one : (r ≡ 0 → ⊥) → w b ≡ false

-- the bytes from a place up to another are of the set
abbrev pub Counted : (ℕ → Bool) → List ℕ → ℕ → ℕ → Type 0
Counted w s from i = from + front w (drop from s) ≡ i + front w (drop i s)

-- they are, and no whole block of bytes of the set comes next
pub record Blocks (w : ℕ → Bool) (s : List ℕ) (from i : ℕ) : Type 0 where
  pub counted : Counted w s from i
  pub after : from ≤ i
  pub inside : i ≤ length s
  pub stops : i + 16 ≤ length s → front w (drop i s) < 16

-- two texts of one length, byte by byte: 0 where they are alike, and 1 where they are not
abbrev pub differ_of : ℕ → ℕ → ℕ
differ_of a b = elim (eqb a b) [ true ↦ 0 | false ↦ 1 ]

unfoldable pub differences : List ℕ → List ℕ → List ℕ
differences [] t = []
differences (a ∷ s) [] = []
differences (a ∷ s) (b ∷ t) = differ_of a b ∷ differences s t

abbrev pub alike : ℕ → Bool
alike d = eqb d 0

-- the byte that two texts have in common, or 0 where they differ
abbrev pub common_of : ℕ → ℕ → ℕ
common_of a b = elim (eqb a b) [ true ↦ a | false ↦ 0 ]

-- from a place up to another, no byte that two texts have in common is below a bound
abbrev pub Over : List ℕ → List ℕ → ℕ → ℕ → ℕ → Type 0
Over s t from to lo = (i : ℕ) → from ≤ i → i < to → lo ≤ common_of (get_or s i 0) (get_or t i 0)

-- the least of a byte and of those in common
pub record Least (s t : List ℕ) (from to most r : ℕ) : Type 0 where
  pub few : r ≤ most
  pub over : Over s t from to r
  pub largest : (lo : ℕ) → lo ≤ most → Over s t from to lo → lo ≤ r
