-- A lookup by the index answers as the scan does, and in any slots an entry with the key. Assumes nothing.
use Prim.Native.Nat.{ℕ, zero, suc, ◌<◌, ◌≤◌}
use mathlib.Core.Path.{◌≡◌, refl, sym, ap, ◌∙◌}
use mathlib.Core.Bool.{true}
use mathlib.Core.List.{List}
use native.Mathlib.Omega.{arith}
use lib.ListN.{length, take, drop, length-append}
use lib.Seq.{take_at}
use lib.Dec.{eqb, ltb, leb}
use borrow.Author.Tests.{eq-eqb, ltb-true, lt-ltb, le-ltb, leb-true, le-leb}
use Rattle.text.proofs.Tests.{never, taken, left, by_test}
use Rattle.container_layout.specs.Mo.{entry}
use Rattle.container_layout.specs.declared.Entry.{Entry}
use Rattle.container_layout.specs.declared.Tables.{Tables}
use Rattle.lookup_scan.specs.Keys.{is_key, hit_of, last_in, last_with}
use Rattle.lookup_scan.specs.declared.Hit.{Hit}
use Rattle.std.specs.Prelude.{Option, Some, None, Ok, Err}
use Rattle.lookup_scan.proofs.Entries.{keyed_told}
use Rattle.lookup_scan.proofs.Last.{Entered, Sound}
use Rattle.lookup_slots.specs.Used.{used}
use Rattle.lookup_slots.specs.Slots.{has, walk, last}
use Rattle.lookup_slots.proofs.Used.{used_more}
use Rattle.lookup_slots.proofs.Built.{Holds, walk_holds, walk_built, built_length, last_here, last_on}
use Rattle.lookup_index.specs.Index.{too_few, key_in, key_at, index, hit_in, indexed, sought_in, building, leaves}

module _ (s : List ℕ) (t : Tables) where
  -- an entry has the key, said of it and of its place
  has_in : (key : List ℕ) (x : Option Entry) → has key (key_in s x) ≡ is_key s key x
  has_in key (Some x) = refl
  has_in key None = refl

  pub key_below : (i : ℕ) → i < t.count → key_at s t i ≡ key_in s (entry s t i)
  unfolding key_at
  key_below i h = taken _ _ (lt-ltb i t.count h)

  pub key_above : (i : ℕ) → t.count ≤ i → key_at s t i ≡ None
  unfolding key_at
  key_above i h = left _ _ (le-ltb i t.count h)

  pub has_below : (key : List ℕ) (i : ℕ) → i < t.count → has key (key_at s t i) ≡ is_key s key (entry s t i)
  has_below key i h = ap (has key) (key_below i h) ∙ has_in key (entry s t i)

  -- the scan, in the words of the slots
  scanned : (key : List ℕ) (n : ℕ) → n ≤ t.count → hit_in s t (last (key_at s t) key n) ≡ last_in (entry s t) (is_key s key) n
  unfolding last last_in
  scanned key zero h = refl
  scanned key (suc i) h =
      by_test (hit_in s t (last (key_at s t) key (suc i)) ≡ last_in (entry s t) (is_key s key) (suc i)) (is_key s key (entry s t i))
      (λ e. ap (hit_in s t) (last_here (key_at s t) key i (has_below key i h ∙ e)) ∙ sym (taken _ _ e))
      (λ e.
      ap (hit_in s t) (last_on (key_at s t) key i (has_below key i h ∙ e)) ∙ scanned key i (omega arith)
      ∙ sym (left (hit_of i (entry s t i)) (last_in (entry s t) (is_key s key) i) e))

  pub index_length : length (index s t) ≡ used t.count
  unfolding index
  index_length = built_length (key_at s t) (used t.count) t.count

  -- THE THEOREM: a lookup in the index of a file and its tables answers as the scan
  pub indexed_as_scan : (key : List ℕ) → indexed s t (index s t) key ≡ last_with s t key
  unfolding indexed index last_with
  indexed_as_scan key =
      ap (hit_in s t) (walk_built (key_at s t) (used t.count) t.count (omega (arith, used_more t.count)) key) ∙ scanned key t.count (omega arith)

  -- In any slots at all: a hit is an entry below the count that has the key, and where its translation lies
  pub below_of : (key : List ℕ) (i : ℕ) → has key (key_at s t i) ≡ true → i < t.count
  unfolding key_at
  below_of key i h =
      by_test (i < t.count) (ltb i t.count) (λ e. ltb-true i t.count e)
      (λ e. absurd (never (sym (ap (has key) (left (key_in s (entry s t i)) None e)) ∙ h)))

  by_slot : (key : List ℕ) (x : ℕ) {h : Hit} → (0 < x → Holds (key_at s t) key x) → hit_in s t x ≡ Some h → Entered s t key h
  by_slot key zero f e = let z : ◌≡◌ {A = ℕ} 0 1 = cc in absurd (omega arith)
  by_slot key (suc j) {h} f e =
      let w : has key (key_at s t j) ≡ true = f (omega arith) in
      let l : j < t.count = below_of key j w in
      let k = keyed_told s t key j (sym (has_below key j l) ∙ w) in
      let g : Some (record { entry = j; start = k.start; len = k.len }) ≡ Some h = sym (ap (hit_of j) k.has.entry) ∙ e in
      let x : record { entry = j; start = k.start; len = k.len } ≡ h = cc in
      rw (← x) (record { below = l; has = k.has })

  pub indexed_sound : (slots key : List ℕ) → Sound s t key (indexed s t slots key)
  unfolding indexed
  indexed_sound slots key = record { told = λ h e. by_slot key (walk (key_at s t) key slots) (walk_holds (key_at s t) key slots) e }

  -- building succeeds where the length is the record's and enough slots are lent
  pub built_exactly : (lent : ℕ) → length s ≡ t.length → used t.count ≤ lent → building s t lent ≡ Ok tt
  unfolding building
  built_exactly lent e l = taken _ _ (eq-eqb (length s) t.length e) ∙ taken _ _ (le-leb (used t.count) lent l)

  -- The same of slots that are lent: `find` in slots that `build` left answers as the scan
  module _ (lent : List ℕ) (b : building s t (length lent) ≡ Ok tt) where
    enough : used t.count ≤ length lent
    unfolding building
    enough =
        by_test (used t.count ≤ length lent) (leb (used t.count) (length lent)) (λ e. leb-true (used t.count) (length lent) e)
        (λ e.
        by_test (used t.count ≤ length lent) (eqb (length s) t.length)
        (λ f. let g = simp (e, f, building) at b in let z : ◌≡◌ {A = ℕ} 0 1 = cc in absurd (omega arith))
        (λ f. let g = simp (e, f, building) at b in let z : ◌≡◌ {A = ℕ} 0 1 = cc in absurd (omega arith)))

    pub built_as_scan : (key : List ℕ) → sought_in s t (leaves s t lent (Ok tt)) key ≡ Ok (last_with s t key)
    unfolding sought_in
    built_as_scan key =
        let l : used t.count ≤ length (leaves s t lent (Ok tt)) =
        omega (arith, length-append (index s t) (drop (used t.count) lent), index_length)
        in
        taken (Ok (indexed s t (take (used t.count) (leaves s t lent (Ok tt))) key)) (Err too_few)
        (le-leb (used t.count) (length (leaves s t lent (Ok tt))) l)
        ∙ ap (λ (x : List ℕ). Ok (indexed s t x key)) (take_at (index s t) (drop (used t.count) lent) (used t.count) index_length)
        ∙ ap Ok (indexed_as_scan key)
