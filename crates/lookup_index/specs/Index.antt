-- The index of a catalog, and a lookup in slots that are lent. SPEC 10.
use Rattle.std.specs.Prelude.{ℕ, zero, suc, true, false, List, ◌++◌, length, take, drop, eqb, ltb, leb, Option, Some, None, Result, Ok, Err}
use Rattle.refusal.specs.Numbers.{number_of}
use Rattle.refusal.specs.declared.Error.TheVariants as error
use Rattle.container_layout.specs.Mo.{entry}
use Rattle.container_layout.specs.declared.Entry.{Entry}
use Rattle.container_layout.specs.declared.Tables.{Tables}
use Rattle.lookup_scan.specs.Keys.{hit_of}
use Rattle.lookup_scan.specs.declared.Hit.{Hit}
use Rattle.lookup_slots.specs.Used.{used}
use Rattle.lookup_slots.specs.Slots.{built, walk}
use Rattle.lookup_index.specs.declared.TooFewSlots.{TooFewSlots}
use Rattle.lookup_index.specs.declared.Unbuilt.{Unbuilt}
use Rattle.lookup_index.specs.declared.Unbuilt.TheVariants as unbuilt

abbrev pub too_few : TooFewSlots
too_few = record {}

-- the key of an entry of the file s
abbrev pub key_in : List ℕ → Option Entry → Option (List ℕ)
key_in s (Some e) = Some (take e.key_len (drop e.key s))
key_in s None = None

-- the key of entry i; from the count on there is no entry
unfoldable pub key_at : List ℕ → Tables → ℕ → Option (List ℕ)
unfolding entry
key_at s t i = elim (ltb i t.count) [ true ↦ key_in s (entry s t i) | false ↦ None ]

-- the index of a catalog: its entries by index, in the slots that it uses
unfoldable pub index : List ℕ → Tables → List ℕ
unfolding key_at used built
index s t = built (key_at s t) (used t.count) t.count

-- the entry that a slot names
abbrev pub hit_in : List ℕ → Tables → ℕ → Option Hit
hit_in s t zero = None
hit_in s t (suc i) = hit_of i (entry s t i)

-- a lookup in any slots: the walk ends at an entry, an empty slot, or after all of them
unfoldable pub indexed : List ℕ → Tables → List ℕ → List ℕ → Option Hit
unfolding key_at
indexed s t slots key = hit_in s t (walk (key_at s t) key slots)

-- of the slots lent the first are used; fewer are refused
unfoldable pub sought_in : List ℕ → Tables → List ℕ → List ℕ → Result (Option Hit) TooFewSlots
unfolding used indexed
sought_in s t lent key =
    elim (leb (used t.count) (length lent)) [ true ↦ Ok (indexed s t (take (used t.count) lent) key) | false ↦ Err too_few ]

-- building tests the length of the file, and then how many slots are lent
unfoldable pub building : List ℕ → Tables → ℕ → Result Unit Unbuilt
unfolding used
building s t lent =
    elim (eqb (length s) t.length) [
      | true ↦ elim (leb (used t.count) lent) [ true ↦ Ok tt | false ↦ Err unbuilt.TooFewSlots ]
      | false ↦ Err unbuilt.StaleLength
    ]

-- what it leaves in the slots lent: those that are not used stay, and after a refusal all of them
abbrev pub leaves : List ℕ → Tables → List ℕ → Result Unit Unbuilt → List ℕ
leaves s t lent (Ok tt) = index s t ++ drop (used t.count) lent
leaves s t lent (Err e) = lent

abbrev pub number : Result Unit Unbuilt → ℕ
number (Ok tt) = 0
number (Err unbuilt.StaleLength) = number_of error.BadRecord
number (Err unbuilt.TooFewSlots) = number_of error.IndexRoom
