-- What the functions that are not public promise each other.
use Rattle.std.specs.Prelude.{ℕ, ◌+◌, ◌*◌, ◌<◌, ◌≤◌, List, length}

-- of the cells of the first count indices, the first n lie in the file, and those after them do not
pub record Cells (s : List ℕ) (table count n : ℕ) : Type 0 where
  pub below : n ≤ count
  pub inside : (i : ℕ) → i < n → table + 8 * i + 8 ≤ length s
  pub outside : (i : ℕ) → n ≤ i → i < count → length s < table + 8 * i + 8
