-- What the functions behind the public ones promise.
use Rattle.std.specs.Prelude.{ℕ, suc, ◌+◌, ◌-◌, ◌<◌, ◌≤◌, ◌≡◌, Bool, true, false, ◌&&◌, List, length, get_or, take, drop, eqb, leb, Option, Some, None}
use Rattle.text.specs.Bytes.{same}
use Rattle.lookup_scan.specs.Keys.{key_of, is_key}
use Rattle.container_layout.specs.Mo.{has_cell, string, entry, id_end}
use Rattle.text.specs.declared.Stretch.{Stretch}
use Rattle.container_layout.specs.declared.Tables.{Tables}

-- a string of so many bytes at a place has at least n, and a NUL after n of them
abbrev pub ends_after : List ℕ → ℕ → ℕ → ℕ → Bool
ends_after s at len n = leb n len && eqb (get_or s (at + n) 0) 0

-- entry i may have a key of n bytes; where it may not, it has none of that length
pub record MayBe (s : List ℕ) (t : Tables) (i n : ℕ) (r : Bool) : Type 0 where
  pub no : r ≡ false → (key : List ℕ) → length key ≡ n → is_key s key (entry s t i) ≡ false

-- an entry below a place that may have a key of n bytes, or none: what follows it, up to that place, has no key of that length
abbrev pub after : Option ℕ → ℕ
after None = 0
after (Some i) = suc i

pub record LastMaybe (s : List ℕ) (t : Tables) (below n : ℕ) (r : Option ℕ) : Type 0 where
  pub within : after r ≤ below
  pub no : (key : List ℕ) → length key ≡ n → (j : ℕ) → after r ≤ j → j < below → is_key s key (entry s t j) ≡ false

-- no index from here on up to the count has its cell in the file
pub record ScanFrom (s : List ℕ) (t : Tables) (r : ℕ) : Type 0 where
  pub few : r ≤ t.count
  pub outside : (i : ℕ) → r ≤ i → i < t.count → has_cell s t.originals i ≡ false

-- the original of entry i lies at a place, and has a NUL after n bytes
pub record Starts (s : List ℕ) (t : Tables) (i : ℕ) (o : Stretch) (n : ℕ) : Type 0 where
  pub original : string t.big s t.originals i ≡ Some o
  pub long : n ≤ o.len
  pub nul : get_or s (o.start + n) 0 ≡ 0

-- an original with the byte after it, and a NUL where the key would end
pub record Ending (o : List ℕ) (n : ℕ) (key : List ℕ) : Type 0 where
  pub size : n ≡ length key
  pub longer : n < length o
  pub nul : get_or o n 0 ≡ 0

-- the original has these bytes from a place up to n, and its id ends there
unfoldable pub has_from : List ℕ → ℕ → ℕ → List ℕ → Bool
has_from o n from id = same id (take (n - from) (drop from o)) && eqb (id_end o) n

-- it begins with the key, and its id ends there
unfoldable pub has_key : List ℕ → ℕ → List ℕ → Bool
has_key o n key = same key (take n o) && eqb (id_end o) n

-- of the keys with this context those are the same whose ids are the rest, or none
pub record InContext (c key : List ℕ) (r : Bool) : Type 0 where
  pub inside : r ≡ true → length c < length key
  pub is : r ≡ true → (i : List ℕ) → same (key_of true c i) key ≡ same i (drop (length c + 1) key)
  pub no : r ≡ false → (i : List ℕ) → same (key_of true c i) key ≡ false
