-- The rest of a list at a place, as a loop that counts up meets it. Assumes nothing.
use Prim.Native.Nat.{ℕ, ◌+◌, ◌-◌, ◌<◌, ◌≤◌}
use mathlib.Core.Path.{◌≡◌}
use mathlib.Core.List.{List, [], ◌∷◌}
use native.Mathlib.Omega.{arith}
use native.Mathlib.Numerals.{add-one}
use lib.ListN.{length, get_or, take, drop, length-drop, drop_of_length-le}
use lib.Seq.{drop-cons, take_all}

-- one element and the rest after it
pub rest_at : (s : List ℕ) (i : ℕ) → i < length s → drop i s ≡ get_or s i 0 ∷ drop (i + 1) s
rest_at s i h = rw (add-one, drop-cons s i 0)

-- nothing is left at the end
pub rest_end : (s : List ℕ) (i : ℕ) → length s ≤ i → drop i s ≡ []
rest_end s i h = drop_of_length-le s h

-- the part of a slice from a place on, as the code's `&s[i..]` gives it
pub part_from : (s : List ℕ) (i : ℕ) → take (length s - i) (drop i s) ≡ drop i s
part_from s i = take_all (length s - i) (drop i s) (omega (arith, length-drop i s))
