-- What reading a text as a rule leaves in lent arrays, in either reading. SPEC 6: where the text has a
-- tree, the tree's nodes from place 0 on, as many as the answer says and no more than the text has bytes; else there is no answer, and
-- nothing is said of the arrays.
use Rattle.std.specs.Prelude.{ℕ, ◌≤◌, ◌≡◌, List, length, Option, Some, None}
use Rattle.rules.specs.Tree.{Tree, Reading, tree, none}
use Rattle.rules.specs.Pool.{Pool}
use Rattle.rules.specs.Store.{size, store}

-- the tree t of a text s is stored: P are the arrays before, Q after
pub record Stored (t : Tree) (s : List ℕ) (P Q : Pool) (r : Option ℕ) : Type 0 where
  pub answer : r ≡ Some (size t)
  pub stored : Q ≡ store t 0 P
  pub fits : size t ≤ length s

abbrev pub Answer : Reading → List ℕ → Pool → Pool → Option ℕ → Type 0
Answer (tree t) s P Q r = Stored t s P Q r
Answer none s P Q r = r ≡ None

-- what a reader promises of a text s with the reading o
pub record Answered (o : Reading) (s : List ℕ) (P Q : Pool) (r : Option ℕ) : Type 0 where
  pub read : Answer o s P Q r
