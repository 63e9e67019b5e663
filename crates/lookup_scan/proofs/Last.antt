-- The last entry with a key: `last_with` is the entry of the greatest index below the count that has it, and None exactly if none has.
-- Assumes nothing.
use Prim.Native.Nat.{ℕ, zero, suc, ◌<◌, ◌≤◌}
use mathlib.Core.Path.{◌≡◌, sym, ap, ◌∙◌}
use mathlib.Core.Bool.{Bool, true, false}
use mathlib.Core.List.{List}
use mathlib.Core.Logic.{⊎_elim}
use native.Mathlib.Omega.{arith}
use native.Mathlib.Nat.{eq-or-lt_of_le}
use Rattle.text.proofs.Tests.{taken, left, by_test}
use Rattle.container_layout.specs.Mo.{entry}
use Rattle.container_layout.specs.declared.Tables.{Tables}
use Rattle.container_layout.specs.declared.Entry.{Entry}
use Rattle.lookup_scan.specs.Keys.{is_key, hit_of, last_in, last_with}
use Rattle.lookup_scan.specs.declared.Hit.{Hit}
use Rattle.std.specs.Prelude.{Option, Some, None}
use Rattle.lookup_scan.proofs.Entries.{Has, keyed_told, has_told}

-- a hit, by whatever search, is an entry below the count that has the key
pub record Entered (s : List ℕ) (t : Tables) (key : List ℕ) (h : Hit) : Type 0 where
  pub below : h.entry < t.count
  pub has : Has s t key h

pub record Sound (s : List ℕ) (t : Tables) (key : List ℕ) (r : Option Hit) : Type 0 where
  pub told : (h : Hit) → r ≡ Some h → Entered s t key h

-- of the entries below k, the hit's is the last that has the key
pub record Last (s : List ℕ) (t : Tables) (key : List ℕ) (k : ℕ) (h : Hit) : Type 0 where
  pub below : h.entry < k
  pub has : Has s t key h
  pub after : (j : ℕ) → h.entry < j → j < k → is_key s key (entry s t j) ≡ false

module _ (e : ℕ → Option Entry) (f : Option Entry → Bool) where
  -- an entry that passes ends the search, and one that does not is passed over
  pub last_here : (i : ℕ) → f (e i) ≡ true → last_in e f (suc i) ≡ hit_of i (e i)
  unfolding last_in
  last_here i h = taken _ _ h

  pub last_before : (i : ℕ) → f (e i) ≡ false → last_in e f (suc i) ≡ last_in e f i
  unfolding last_in
  last_before i h = left _ _ h

  -- from r on none passes
  pub last_from : (r k : ℕ) → r ≤ k → ((i : ℕ) → r ≤ i → i < k → f (e i) ≡ false) → last_in e f k ≡ last_in e f r
  last_from r zero h n = let z : r ≡ 0 = omega arith in rw z
  last_from r (suc k) h n =
      ⊎_elim (λ q. rw q) (λ l. last_before k (n k (omega arith) (omega arith)) ∙ last_from r k (omega arith) (λ i a b. n i a (omega arith))) (eq-or-lt_of_le h)

  pub last_none : (k : ℕ) → ((i : ℕ) → i < k → f (e i) ≡ false) → last_in e f k ≡ None
  unfolding last_in
  last_none k n = last_from 0 k (omega arith) (λ i a b. n i b)

-- what holds up to k, and at k, holds up to one more
one_more : {P : ℕ → Type 0} (r k : ℕ) → ((j : ℕ) → r ≤ j → j < k → P j) → P k → (j : ℕ) → r ≤ j → j < suc k → P j
one_more {P} r k h p j a b =
    let m : j ≤ k = omega arith in
    ⊎_elim (λ q. rw q p) (λ l. h j a l) (eq-or-lt_of_le m)

module _ (s : List ℕ) (t : Tables) (key : List ℕ) where
  told : (k : ℕ) {h : Hit} → last_in (entry s t) (is_key s key) k ≡ Some h → Last s t key k h
  unfolding last_in
  told zero f = let z : ◌≡◌ {A = ℕ} 0 1 = cc in absurd (omega arith)
  told (suc k) {h} f =
      by_test (Last s t key (suc k) h) (is_key s key (entry s t k))
      (λ e.
      let x = keyed_told s t key k e in
      let w : Some (record { entry = k; start = x.start; len = x.len }) ≡ Some h = sym (ap (hit_of k) x.has.entry) ∙ sym (last_here (entry s t) (is_key s key) k e) ∙ f in
      let q : record { entry = k; start = x.start; len = x.len } ≡ h = cc in
      rw (← q) (record { below = omega arith; has = x.has; after = λ j a b. absurd (omega arith) }))
      (λ e.
      let l = told k (sym (last_before (entry s t) (is_key s key) k e) ∙ f) in
      record { below = omega (arith, l.below); has = l.has; after = one_more (suc h.entry) k l.after e })

  untold : (k : ℕ) → last_in (entry s t) (is_key s key) k ≡ None → (j : ℕ) → j < k → is_key s key (entry s t j) ≡ false
  unfolding last_in
  untold zero f j h = absurd (omega arith)
  untold (suc k) f j h =
      by_test (is_key s key (entry s t j) ≡ false) (is_key s key (entry s t k))
      (λ e.
      let x = keyed_told s t key k e in
      let w : Some (record { entry = k; start = x.start; len = x.len }) ≡ None = sym (ap (hit_of k) x.has.entry) ∙ sym (last_here (entry s t) (is_key s key) k e) ∙ f in
      let z : ◌≡◌ {A = ℕ} 0 1 = cc in absurd (omega arith))
      (λ e. one_more 0 k (λ i a b. untold k (sym (last_before (entry s t) (is_key s key) k e) ∙ f) i b) e j (omega arith) h)

  -- the hit is the last entry with the key, and the last entry with the key is the hit
  pub hit_last : {h : Hit} → last_with s t key ≡ Some h → Last s t key t.count h
  unfolding last_with
  hit_last f = told t.count f

  pub last_hit_lem : {h : Hit} → Last s t key t.count h → last_with s t key ≡ Some h
  unfolding last_with
  last_hit_lem {h} l =
      last_from (entry s t) (is_key s key) (suc h.entry) t.count l.below l.after
      ∙ last_here (entry s t) (is_key s key) h.entry (has_told s t key l.has)
      ∙ ap (hit_of h.entry) l.has.entry

  -- there is no hit exactly if no entry has the key
  pub missing_none : last_with s t key ≡ None → (j : ℕ) → j < t.count → is_key s key (entry s t j) ≡ false
  unfolding last_with
  missing_none f = untold t.count f

  pub none_missing : ((j : ℕ) → j < t.count → is_key s key (entry s t j) ≡ false) → last_with s t key ≡ None
  unfolding last_with
  none_missing n = last_none (entry s t) (is_key s key) t.count n

  pub last_sound : Sound s t key (last_with s t key)
  last_sound = record { told = λ h f. let l = hit_last f in record { below = l.below; has = l.has } }
