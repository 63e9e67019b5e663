-- The key of a lookup, and the last entry that has it. SPEC 3.7 (keys; the last entry with an equal key counts).
use Rattle.std.specs.Prelude.{ℕ, zero, suc, Bool, true, false, List, [], ◌∷◌, ◌++◌, take, drop, Option, Some, None}
use Rattle.std.specs.Borrow.{Bor}
use Rattle.text.specs.Bytes.{same}
use Rattle.container_layout.specs.Mo.{entry}
use Rattle.container_layout.specs.declared.Tables.{Tables}
use Rattle.container_layout.specs.declared.Entry.{Entry}
use Rattle.lookup_scan.specs.declared.Key.{Key}
use Rattle.lookup_scan.specs.declared.Hit.{Hit}

-- a key is context, byte 4 and id, or the id only
abbrev pub key_of : Bool → List ℕ → List ℕ → List ℕ
key_of true context id = context ++ 4 ∷ id
key_of false context id = id

-- the bytes of a key
abbrev pub bytes_in : Option (Bor (List ℕ)) → List ℕ → List ℕ
bytes_in (Some context) id = key_of true context.now id
bytes_in None id = key_of false [] id

abbrev pub bytes_of : Key → List ℕ
bytes_of k = bytes_in k.context k.id.now

-- an entry of the file s has this key
abbrev pub is_key : List ℕ → List ℕ → Option Entry → Bool
is_key s key (Some e) = same key (take e.key_len (drop e.key s))
is_key s key None = false

abbrev pub hit_of : ℕ → Option Entry → Option Hit
hit_of i (Some e) = Some (record { entry = i; start = e.start; len = e.len })
hit_of i None = None

-- of the entries below k, the last that passes the test
unfoldable pub last_in : (ℕ → Option Entry) → (Option Entry → Bool) → ℕ → Option Hit
last_in e f zero = None
last_in e f (suc i) = elim (f (e i)) [ true ↦ hit_of i (e i) | false ↦ last_in e f i ]

-- the last entry with the key
unfoldable pub last_with : List ℕ → Tables → List ℕ → Option Hit
unfolding last_in entry
last_with s t key = last_in (entry s t) (is_key s key) t.count
