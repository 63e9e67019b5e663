-- What the functions behind the public ones promise.
use Rattle.std.specs.Prelude.{ℕ, zero, suc, ◌^◌, ◌<◌, ◌≡◌, true, false, List, [], ◌∷◌, ◌++◌, take, drop, Option, Some, None}
use Rattle.std.specs.Borrow.{Bor}
use Rattle.container_layout.specs.Mo.{original, id_end, ended, entry}
use Rattle.container_layout.specs.declared.Entry.{Entry}
use Rattle.text.specs.declared.Stretch.{Stretch}
use Rattle.container_layout.specs.declared.Tables.{Tables}
use Rattle.lookup_scan.specs.Keys.{hit_of}
use Rattle.lookup_scan.specs.declared.Hit.{Hit}
use Rattle.lookup_scan.specs.declared.Key.{Key}
use Rattle.lookup_slots.specs.Hash.{hash}
use Rattle.lookup_slots.specs.Slots.{next, has, place}
use Rattle.lookup_index.specs.Index.{key_at, indexed}
use Rattle.lookup_index.specs.declared.KeyPlace.{KeyPlace}
use Rattle.lookup_index.specs.declared.Stop.{Stop}

-- what stands before the id in a key
abbrev pub before : Option (Bor (List ℕ)) → List ℕ
before (Some context) = context.now ++ 4 ∷ []
before None = []

abbrev pub before_id : Key → List ℕ
before_id k = before k.context

pub record Power (m : ℕ) : Type 0 where
  pub bits : ℕ
  pub is : m ≡ 2 ^ bits

pub record Next (m p r : ℕ) : Type 0 where
  pub is : r ≡ next m p
  pub inside : r < m

-- the entry that a slot names, where it has the key
unfoldable pub named : List ℕ → Tables → List ℕ → ℕ → Option Hit
unfolding key_at
named s t key zero = None
named s t key (suc i) = elim (has key (key_at s t i)) [ true ↦ hit_of i (entry s t i) | false ↦ None ]

-- where the search for a key stops
pub record Stops (s : List ℕ) (t : Tables) (slots key : List ℕ) (r : Stop) : Type 0 where
  pub place_is : r.place ≡ place (key_at s t) key slots
  pub hit_is : r.hit ≡ indexed s t slots key

-- where the key of an original of the file s lies, how long it is, and its hash
abbrev pub key_of_original : List ℕ → Stretch → Option KeyPlace
key_of_original s o =
    elim (ended (original s o.start o.len)) [
      | true ↦ Some (record {
        start = o.start;
        len = id_end (original s o.start o.len);
        hash = hash (take (id_end (original s o.start o.len)) (drop o.start s));
      })
      | false ↦ None
    ]

-- the same of an entry
abbrev pub key_of_entry : List ℕ → Option Entry → Option KeyPlace
key_of_entry s (Some e) = Some (record { start = e.key; len = e.key_len; hash = hash (take e.key_len (drop e.key s)) })
key_of_entry s None = None
