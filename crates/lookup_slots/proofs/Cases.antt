-- Hashes, slots used, and an index of four entries, by computing; the numbers were computed apart. Assumes nothing.
use Prim.Native.Nat.{ℕ}
use mathlib.Core.Path.{◌≡◌, refl}
use mathlib.Core.List.{List, [], ◌∷◌}
use Rattle.std.specs.Prelude.{Option, Some, None}
use lib.ListN.{get_or}
use Rattle.text.specs.Bytes.{bytes, same}
use Rattle.lookup_slots.specs.Hash.{hash, hash_from}
use Rattle.lookup_slots.specs.Used.{used}
use Rattle.lookup_slots.specs.Slots.{first, place, built, walk}

pub hash_of_nothing : hash [] ≡ 5381
unfolding hash_from
hash_of_nothing = refl

pub hash_of_ab : hash (bytes "ab") ≡ 5863208
unfolding hash_from
hash_of_ab = refl

pub hash_of_many : hash (bytes "Hello, world! This is longer than eight bytes") ≡ 2022971404
unfolding hash_from
hash_of_many = refl

pub used_by_lem : used 0 ∷ used 1 ∷ used 2 ∷ used 3 ∷ used 4 ∷ used 5 ∷ used 8 ∷ used 9 ∷ [] ≡ 1 ∷ 2 ∷ 4 ∷ 8 ∷ 8 ∷ 16 ∷ 16 ∷ 32 ∷ []
unfolding used
used_by_lem = refl

-- entries b, j, none, b; the hashes of b, j and r all start at slot 7 of 8
abbrev keys : ℕ → Option (List ℕ)
keys i = get_or (Some (bytes "b") ∷ Some (bytes "j") ∷ None ∷ Some (bytes "b") ∷ []) i None

-- j goes round the end, and the second b takes over the slot of the first
pub four_entries : built keys 8 4 ≡ 2 ∷ 0 ∷ 0 ∷ 0 ∷ 0 ∷ 0 ∷ 0 ∷ 4 ∷ []
unfolding built place first hash_from same
four_entries = refl

pub last_b : walk keys (bytes "b") (built keys 8 4) ≡ 4
unfolding built place first hash_from same
last_b = refl

pub only_j : walk keys (bytes "j") (built keys 8 4) ≡ 2
unfolding built place first hash_from same
only_j = refl

pub no_r : walk keys (bytes "r") (built keys 8 4) ≡ 0
unfolding built place first hash_from same
no_r = refl

-- slots that are altered: a number above the count and another key's entry are passed by, an older entry is taken as it is
pub altered : walk keys (bytes "b") (9 ∷ 2 ∷ 1 ∷ 4 ∷ 0 ∷ 0 ∷ 0 ∷ 3 ∷ []) ≡ 1
unfolding place first hash_from same
altered = refl

-- a walk in full slots ends
pub full : walk keys (bytes "b") (2 ∷ 2 ∷ 2 ∷ 2 ∷ 2 ∷ 2 ∷ 2 ∷ 2 ∷ []) ≡ 0
unfolding place first hash_from same
full = refl
