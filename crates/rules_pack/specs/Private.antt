-- What the functions of packing promise one another.
use Rattle.std.specs.Prelude.{ℕ, ◌+◌, ◌≡◌, true, false, eqb, Option, Some, None}
use Rattle.rules.specs.Tree.{Tree}
use Rattle.rules.specs.Pool.{Pool}
use Rattle.rules.specs.Pack.{pack, keep, packed_size}

-- the integer of a node, by its code and its value
abbrev pub number_at : ℕ → ℕ → Option ℕ
number_at c v = elim (eqb c 1) [ true ↦ Some v | false ↦ None ]

-- the tree t was packed from place k on: P are the arrays before, Q after, and r is the place after the last
pub record Packs (t : Tree) (k : ℕ) (P Q : Pool) (r : ℕ) : Type 0 where
  pub end : r ≡ k + packed_size t
  pub nodes : Q ≡ keep (pack t) k P
