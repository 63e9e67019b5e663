-- The file F of the starred cases with an index, by computing; where "a" goes was computed apart: 5381 * 33 + 97 is even. Assumes nothing.
use Prim.Native.Nat.{ℕ}
use mathlib.Core.Path.{◌≡◌, refl}
use mathlib.Core.Bool.{false}
use mathlib.Core.List.{List, [], ◌∷◌}
use Rattle.text.specs.Bytes.{bytes, same, front}
use Rattle.container_layout.specs.Mo.{word, string, id_start, id_end, entry}
use Rattle.container_layout.specs.declared.Tables.{Tables}
use Rattle.std.specs.Prelude.{Some, None, Ok, Err}
use Rattle.lookup_slots.specs.Hash.{hash_from}
use Rattle.lookup_slots.specs.Used.{used}
use Rattle.lookup_slots.specs.Slots.{first, place, built}
use Rattle.lookup_index.specs.Index.{too_few, key_at, index, indexed, sought_in, building, leaves, number}

abbrev file_f : List ℕ
file_f =
    0xde ∷ 0x12 ∷ 4 ∷ 0x95 ∷ 0 ∷ 0 ∷ 0 ∷ 0 ∷ 1 ∷ 0 ∷ 0 ∷ 0 ∷ 28 ∷ 0 ∷ 0 ∷ 0 ∷ 36 ∷ 0 ∷ 0 ∷ 0 ∷ 0 ∷ 0 ∷ 0 ∷ 0 ∷ 44 ∷ 0 ∷ 0 ∷ 0
    ∷ 1 ∷ 0 ∷ 0 ∷ 0 ∷ 44 ∷ 0 ∷ 0 ∷ 0 ∷ 1 ∷ 0 ∷ 0 ∷ 0 ∷ 46 ∷ 0 ∷ 0 ∷ 0 ∷ 0x61 ∷ 0 ∷ 0x62 ∷ 0 ∷ []

-- its tables, and with another count or length
abbrev tables : ℕ → ℕ → Tables
tables length count = record { length = length; big = false; count = count; originals = 28; translations = 36 }

-- one entry uses two slots, a third stays; an index that has no cell goes nowhere
pub slots_of_f : leaves file_f (tables 48 1) (7 ∷ 7 ∷ 7 ∷ []) (Ok tt) ≡ 1 ∷ 0 ∷ 7 ∷ []
unfolding index built place first key_at used hash_from same entry string word id_start id_end front
slots_of_f = refl

pub two_in_f : index file_f (tables 48 2) ≡ 0 ∷ 0 ∷ 1 ∷ 0 ∷ []
unfolding index built place first key_at used hash_from same entry string word id_start id_end front
two_in_f = refl

-- found, not found, passed by above the count, too few
pub found_in_f : sought_in file_f (tables 48 1) (1 ∷ 0 ∷ 7 ∷ []) (bytes "a") ≡ Ok (Some (record { entry = 0; start = 46; len = 1 }))
unfolding sought_in indexed place first key_at used hash_from same entry string word id_start id_end front
found_in_f = refl

pub passed_in_f : sought_in file_f (tables 48 1) (2 ∷ 1 ∷ []) (bytes "a") ≡ Ok (Some (record { entry = 0; start = 46; len = 1 }))
unfolding sought_in indexed place first key_at used hash_from same entry string word id_start id_end front
passed_in_f = refl

pub none_in_f : sought_in file_f (tables 48 1) (0 ∷ 1 ∷ []) (bytes "a") ≡ Ok None
unfolding sought_in indexed place first key_at used hash_from same entry string word id_start id_end front
none_in_f = refl

pub few_in_f : sought_in file_f (tables 48 1) (1 ∷ []) (bytes "a") ≡ Err too_few
unfolding sought_in used
few_in_f = refl

-- building: 11 before 12, 12 where one is missing, 0 where there are just enough; the empty catalog uses one slot
abbrev numbers : List ℕ
numbers =
    number (building file_f (tables 47 1) 1) ∷ number (building file_f (tables 48 1) 1) ∷ number (building file_f (tables 48 1) 2)
    ∷ number (building [] (tables 0 0) 0) ∷ number (building [] (tables 0 0) 1) ∷ []

pub numbers_are : numbers ≡ 11 ∷ 12 ∷ 0 ∷ 12 ∷ 0 ∷ []
unfolding building used
numbers_are = refl
