-- What the functions of this crate promise.
use Rattle.std.specs.Prelude.{ℕ, ◌≡◌, List}
use Rattle.container_layout.specs.Mo.{context_end, id_start, id_end}
use Rattle.container_layout.specs.declared.Parts.{Parts}

-- how an original, with the byte after it, is cut into context and id
pub record Splits (o : List ℕ) (r : Parts) : Type 0 where
  pub context : r.context ≡ context_end o
  pub id : r.id ≡ id_start o
  pub end : r.end ≡ id_end o
