-- Slots, as SPEC 10 has them. A slot is a number: 0 is empty, and i + 1 is entry i. What the entries are like is left open:
-- `k i` is the key of entry i, or nothing where i is no entry.
use Rattle.std.specs.Prelude.{ℕ, zero, suc, ◌+◌, ◌%◌, Bool, true, false, List, length, get_or, set, replicate, eqb, Option, Some, None}
use Rattle.text.specs.Bytes.{same}
use Rattle.lookup_slots.specs.Hash.{hash}

-- the next of m slots, round the end
abbrev pub next : ℕ → ℕ → ℕ
next m p = elim (eqb (p + 1) m) [ true ↦ 0 | false ↦ p + 1 ]

-- the first of m places that passes the test, from p on and round the end, or m where none of so many does
unfoldable pub first : (ℕ → Bool) → ℕ → ℕ → ℕ → ℕ
first f m zero p = m
first f m (suc left) p = elim (f p) [ true ↦ p | false ↦ first f m left (next m p) ]

-- an entry has the key
abbrev pub has : List ℕ → Option (List ℕ) → Bool
has key (Some c) = same key c
has key None = false

-- a search for the key stops at an empty slot, and at an entry that has the key
abbrev pub stops : (ℕ → Option (List ℕ)) → List ℕ → ℕ → Bool
stops k key zero = true
stops k key (suc i) = has key (k i)

-- where it stops, from the hash's low bits on; after all slots the number of them, where nothing is stored and 0 is read
unfoldable pub place : (ℕ → Option (List ℕ)) → List ℕ → List ℕ → ℕ
unfolding first
place k key slots = first (λ p. stops k key (get_or slots p 0)) (length slots) (length slots) (hash key % length slots)

-- an entry goes in where the search for its key stops: into an empty slot, or that of an equal key, which it takes over
abbrev pub insert : (ℕ → Option (List ℕ)) → ℕ → Option (List ℕ) → List ℕ → List ℕ
insert k i (Some key) slots = set slots (place k key slots) (suc i)
insert k i None slots = slots

abbrev pub zeros : ℕ → List ℕ
zeros m = replicate m 0

-- the first n entries go into m empty slots, one after the other
unfoldable pub built : (ℕ → Option (List ℕ)) → ℕ → ℕ → List ℕ
unfolding place
built k m zero = zeros m
built k m (suc i) = insert k i (k i) (built k m i)

-- a lookup in any slots reads the slot where its search stops: 0, or an entry plus 1
abbrev pub walk : (ℕ → Option (List ℕ)) → List ℕ → List ℕ → ℕ
walk k key slots = get_or slots (place k key slots) 0

-- the scan: the last entry below n that has the key, plus 1, or 0
unfoldable pub last : (ℕ → Option (List ℕ)) → List ℕ → ℕ → ℕ
last k key zero = 0
last k key (suc i) = elim (has key (k i)) [ true ↦ suc i | false ↦ last k key i ]
