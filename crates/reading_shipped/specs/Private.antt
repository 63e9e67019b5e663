-- What the functions inside the Shipped reader promise: the nodes of a piece's tree in the lent arrays, or no reading. Document 01, "Two
-- readings of a rule" and "The record"; where nodes go is rules' `store`, and what the reader itself promises is rules' `Answered`.
use Rattle.std.specs.Prelude.{ℕ, ◌+◌, ◌<◌, ◌≤◌, ◌≡◌, List, length, Option, Some, None}
use Rattle.rules.specs.Tree.{Tree, Reading, tree, none}
use Rattle.rules.specs.Pool.{Pool}
use Rattle.rules.specs.Store.{size, store}
use Rattle.reading_scan.specs.Scan.{index_of}
use Rattle.reading_levels.specs.Levels.{row_at}

-- a tree of at most n nodes from place k on: the next free place is the answer
pub record Stored (t : Tree) (n k : ℕ) (P Q : Pool) (r : Option ℕ) : Type 0 where
  pub answer : r ≡ Some (k + size t)
  pub stored : Q ≡ store t k P
  pub small : size t ≤ n

abbrev pub Wrote : Reading → ℕ → ℕ → Pool → Pool → Option ℕ → Type 0
Wrote (tree t) n k P Q r = Stored t n k P Q r
Wrote none n k P Q r = r ≡ None

-- what a text of n bytes with this reading leaves
pub record Gives (o : Reading) (n k : ℕ) (P Q : Pool) (r : Option ℕ) : Type 0 where
  pub wrote : Wrote o n k P Q r

-- a row with a match, and a place for each byte
pub record Cuts (l : ℕ) (s : List ℕ) (k : ℕ) : Type 0 where
  pub known : l < 10
  pub match : index_of (row_at l).pattern s < length s
  pub few : k + length s ≤ 512
