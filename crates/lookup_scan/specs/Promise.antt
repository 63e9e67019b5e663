-- What the functions of this crate promise to other searches for a key.
use Rattle.std.specs.Prelude.{ℕ, ◌<◌, ◌≤◌, ◌≡◌, true, false, List, length, Option, Some, None}
use Rattle.lookup_scan.specs.Keys.{is_key, hit_of}
use Rattle.container_layout.specs.Mo.{entry}
use Rattle.lookup_scan.specs.declared.Hit.{Hit}
use Rattle.container_layout.specs.declared.Tables.{Tables}

-- the key's length, or that no key of a file of that size can be so long
abbrev pub Sizes : ℕ → List ℕ → Option ℕ → Type 0
Sizes size key (Some n) = (n ≡ length key) × (n < size)
Sizes size key None = size ≤ length key

pub record Sized (size : ℕ) (key : List ℕ) (r : Option ℕ) : Type 0 where
  pub sizes : Sizes size key r

-- entry i, where it has the key
unfoldable pub hit_if : List ℕ → Tables → List ℕ → ℕ → Option Hit
hit_if s t key i = elim (is_key s key (entry s t i)) [ true ↦ hit_of i (entry s t i) | false ↦ None ]
