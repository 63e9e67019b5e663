-- The search for a key in slots, as the code meets it, and the hit that it gives. Assumes nothing.
use Prim.Native.Nat.{ℕ, zero, suc, ◌+◌, ◌-◌, ◌*◌, ◌%◌, ◌<◌, ◌≤◌}
use mathlib.Core.Path.{◌≡◌, refl, sym, ap, ◌∙◌}
use mathlib.Core.Bool.{Bool, true, false}
use mathlib.Core.List.{List, [], ◌∷◌, ◌++◌, append_assoc}
use native.Mathlib.Omega.{arith}
use lib.ListN.{length, get_or, get_or-eq_default}
use Rattle.text.proofs.Tests.{never, taken, left, by_test}
use Rattle.container_layout.specs.Mo.{entry}
use Rattle.container_layout.specs.declared.Entry.{Entry}
use Rattle.container_layout.specs.declared.Tables.{Tables}
use Rattle.lookup_scan.specs.Keys.{bytes_in, bytes_of, is_key, hit_of}
use Rattle.lookup_scan.specs.Promise.{hit_if}
use Rattle.lookup_scan.specs.declared.Hit.{Hit}
use Rattle.lookup_scan.specs.declared.Key.{Key}
use Rattle.std.specs.Prelude.{Option, Some, None}
use Rattle.std.specs.Borrow.{Bor}
use Rattle.lookup_scan.proofs.Entries.{shorter, has_told}
use Rattle.lookup_slots.specs.Hash.{hash_from, hash}
use Rattle.lookup_slots.specs.Promise.{Hashes}
use Rattle.lookup_slots.specs.Slots.{first, has, stops, place}
use Rattle.lookup_slots.proofs.Hashed.{hash_joined}
use Rattle.lookup_slots.proofs.First.{first_here, first_on, first_end}
use Rattle.lookup_index.specs.Index.{key_at, hit_in, indexed}
use Rattle.lookup_index.specs.Private.{before, before_id, Next, named, Stops}
use Rattle.lookup_index.proofs.Answers.{key_above, has_below, below_of, indexed_sound}

-- the hash of a key that is context, byte 4 and id, or the id only
pub hash_nothing : (k : Key) → k.context ≡ None → Hashes 5381 (before_id k) 5381
unfolding hash_from
hash_nothing k e = rw e (record { is = refl; small = omega arith })

pub hash_context : (k : Key) {c : Bor (List ℕ)} {h : ℕ} → k.context ≡ Some c → Hashes 5381 c.now h → Hashes 5381 (before_id k) ((h * 33 + 4) % 4294967296)
unfolding hash_from
hash_context k {c} e u =
    rw e (record { is = ap (λ (x : ℕ). (x * 33 + 4) % 4294967296) u.is ∙ sym (hash_joined 5381 c.now (4 ∷ [])); small = omega arith })

key_parts : (o : Option (Bor (List ℕ))) (i : List ℕ) → bytes_in o i ≡ before o ++ i
key_parts (Some c) i = sym (append_assoc c.now (4 ∷ []) i)
key_parts None i = refl

pub hash_key : (k : Key) {h r : ℕ} → Hashes 5381 (before_id k) h → Hashes h k.id.now r → r ≡ hash (bytes_of k)
hash_key k u v =
    v.is ∙ ap (λ (x : ℕ). hash_from x k.id.now) u.is
    ∙ sym (ap (hash_from 5381) (key_parts k.context k.id.now) ∙ hash_joined 5381 (before_id k) k.id.now)

-- the entry that a slot names
module _ (s : List ℕ) (t : Tables) (key : List ℕ) where
  missed : {h : Hit} → None ≡ Some h → ⊥
  missed e = let z : ◌≡◌ {A = ℕ} 0 1 = cc in omega arith

  not_hit : (x : Option Entry) (i : ℕ) → is_key s key x ≡ true → hit_of i x ≡ None → ⊥
  not_hit (Some x) i e f = let z : ◌≡◌ {A = ℕ} 0 1 = cc in omega arith
  not_hit None i e f = never e

  named_true : (i : ℕ) → has key (key_at s t i) ≡ true → named s t key (suc i) ≡ hit_of i (entry s t i)
  unfolding named
  named_true i e = taken _ _ e

  named_false : (i : ℕ) → has key (key_at s t i) ≡ false → named s t key (suc i) ≡ None
  unfolding named
  named_false i e = left _ _ e

  pub named_empty : {x : ℕ} → x ≡ 0 → None ≡ named s t key x
  unfolding named
  named_empty e = sym (ap (named s t key) e)

  -- the slot's number x, read as w
  module _ {w : ℕ} (x : ℕ) (n : x ≡ 0 → ⊥) (e : w ≡ x) where
    one_less : x ≡ suc (w - 1)
    one_less = omega arith

    pub named_below : {h : Option Hit} → x ≤ t.count → h ≡ hit_if s t key (w - 1) → h ≡ named s t key x
    unfolding hit_if
    named_below o f =
        let l : w - 1 < t.count = omega arith in
        f ∙ sym (ap (named s t key) one_less ∙ by_test (named s t key (suc (w - 1)) ≡ hit_if s t key (w - 1)) (is_key s key (entry s t (w - 1)))
        (λ y. named_true (w - 1) (has_below s t key (w - 1) l ∙ y) ∙ sym (taken _ _ y))
        (λ y. named_false (w - 1) (has_below s t key (w - 1) l ∙ y) ∙ sym (left (hit_of (w - 1) (entry s t (w - 1))) None y)))

  pub named_above : (x : ℕ) → t.count < x → None ≡ named s t key x
  named_above zero h = absurd (omega arith)
  named_above (suc i) h = sym (named_false i (ap (has key) (key_above s t i (omega arith))))

  -- where it names one, the search stops, and where it does not, it goes on
  pub named_stops : (x : ℕ) {h : Hit} → named s t key x ≡ Some h → stops (key_at s t) key x ≡ true
  unfolding named
  named_stops zero f = refl
  named_stops (suc i) f =
      by_test (has key (key_at s t i) ≡ true) (has key (key_at s t i)) (λ e. e) (λ e. absurd (missed (sym (named_false i e) ∙ f)))

  pub named_is : (x : ℕ) {h : Hit} → named s t key x ≡ Some h → hit_in s t x ≡ Some h
  unfolding named
  named_is zero f = f
  named_is (suc i) {h} f =
      by_test (hit_of i (entry s t i) ≡ Some h) (has key (key_at s t i)) (λ e. sym (named_true i e) ∙ f)
      (λ e. absurd (missed (sym (named_false i e) ∙ f)))

  pub named_passed : (x : ℕ) → (x ≡ 0 → ⊥) → named s t key x ≡ None → stops (key_at s t) key x ≡ false
  named_passed zero n f = absurd (n refl)
  named_passed (suc i) n f =
      by_test (has key (key_at s t i) ≡ false) (has key (key_at s t i))
      (λ e. absurd (not_hit (entry s t i) i (sym (has_below s t key i (below_of s t key i e)) ∙ e) (sym (named_true i e) ∙ f))) (λ e. e)

-- the search goes on from p, with so many slots left
module _ (s : List ℕ) (t : Tables) (slots key : List ℕ) where
  -- the test of a place
  abbrev at : ℕ → Bool
  at q = stops (key_at s t) key (get_or slots q 0)

  pub record Searched (p n : ℕ) : Type 0 where
    pub inside : p < length slots
    pub rest : place (key_at s t) key slots ≡ first at (length slots) n p

  pub searched_first : {h p n : ℕ} → h ≡ hash key → p ≡ h % length slots → p < length slots → n ≡ length slots → Searched p n
  unfolding place
  searched_first {h} {p} e f l z = record {
    inside = l;
    rest = rw z (ap (first at (length slots) (length slots)) (ap (λ (x : ℕ). x % length slots) (sym e) ∙ sym f));
  }

  -- a key that is as long as the file has no entry
  pub hit_long : length s ≤ length key → None ≡ indexed s t slots key
  hit_long h = by_hit (indexed s t slots key) refl
    where
      by_hit : (x : Option Hit) → indexed s t slots key ≡ x → None ≡ indexed s t slots key
      by_hit (Some x) e = absurd (omega (arith, shorter s t key x.entry (has_told s t key ((indexed_sound s t slots key).told x e).has)))
      by_hit None e = sym e

  -- the hit is what the slot gives where the search stops
  stopped : {p : ℕ} {h : Option Hit} → p ≡ place (key_at s t) key slots → h ≡ hit_in s t (get_or slots p 0) → Stops s t slots key (record { place = p; hit = h })
  unfolding indexed
  stopped e f = record { place_is = e; hit_is = f ∙ ap (λ (q : ℕ). hit_in s t (get_or slots q 0)) e }

  module _ {p n : ℕ} (w : Searched p n) where
    pub stop_end : n ≤ 0 → Stops s t slots key (record { place = length slots; hit = None })
    stop_end h =
        let z : n ≡ 0 = omega arith in
        stopped (sym (w.rest ∙ ap (λ (x : ℕ). first at (length slots) x p) z ∙ first_end at (length slots) p))
        (sym (ap (hit_in s t) (get_or-eq_default slots 0 (omega arith))))

    module _ (l : 0 < n) where
      one_more : place (key_at s t) key slots ≡ first at (length slots) (suc (n - 1)) p
      one_more = let z : n ≡ suc (n - 1) = omega arith in w.rest ∙ ap (λ (x : ℕ). first at (length slots) x p) z

      here : at p ≡ true → p ≡ place (key_at s t) key slots
      here f = sym (one_more ∙ first_here at (length slots) (n - 1) p f)

      pub stop_empty : get_or slots p 0 ≡ 0 → Stops s t slots key (record { place = p; hit = None })
      stop_empty f = stopped (here (ap (stops (key_at s t) key) f)) (sym (ap (hit_in s t) f))

      module _ {h : Option Hit} (f : h ≡ named s t key (get_or slots p 0)) where
        pub stop_named : {x : Hit} → h ≡ Some x → Stops s t slots key (record { place = p; hit = Some x })
        stop_named g =
            stopped (here (named_stops s t key (get_or slots p 0) (sym f ∙ g))) (sym (named_is s t key (get_or slots p 0) (sym f ∙ g)))

        pub searched_on : {q k : ℕ} → (get_or slots p 0 ≡ 0 → ⊥) → h ≡ None → Next (length slots) p q → k ≡ n - 1 → Searched q k
        searched_on {q} z g x y = record {
          inside = x.inside;
          rest =
              one_more ∙ first_on at (length slots) (n - 1) p (named_passed s t key (get_or slots p 0) z (sym f ∙ g))
              ∙ ap (first at (length slots) (n - 1)) (sym x.is)
              ∙ ap (λ (j : ℕ). first at (length slots) j q) (sym y);
        }
