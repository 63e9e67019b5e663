-- What the functions promise.
use Rattle.std.specs.Prelude.{ℕ, ◌<◌, ◌≡◌, true, false, List, leb, Option, Some, None}
use Rattle.lookup_slots.specs.Hash.{hash_from}
use Rattle.lookup_slots.specs.Used.{used}

-- the hash of the bytes after those that gave h, and that it has 32 bits
pub record Hashes (h : ℕ) (s : List ℕ) (r : ℕ) : Type 0 where
  pub is : r ≡ hash_from h s
  pub small : r < 4294967296

-- the slots used, unless fewer are lent
unfoldable pub room_in : ℕ → ℕ → Option ℕ
unfolding used
room_in count lent = elim (leb (used count) lent) [ true ↦ Some (used count) | false ↦ None ]
