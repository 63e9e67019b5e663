-- The slots that are lent, of which the first are used: so many that their number is a power of two. Assumes nothing.
use Prim.Native.Nat.{ℕ, ◌-◌, ◌%◌, ◌<◌, ◌≤◌}
use mathlib.Core.Path.{◌≡◌, sym, ap, ◌∙◌}
use mathlib.Core.Bool.{true, false}
use mathlib.Core.List.{List, ◌++◌}
use native.Mathlib.Omega.{arith}
use native.Mathlib.Nat.{mod-lt}
use lib.ListN.{length, take, drop}
use lib.Seq.{length-take-le}
use lib.Bits.{bit_and, and_mask}
use lib.Dec.{leb}
use borrow.Author.Tests.{leb-true, eq-eqb, ne_eqb}
use Rattle.text.proofs.Tests.{taken, left, by_test}
use Rattle.container_layout.specs.declared.Tables.{Tables}
use Rattle.lookup_scan.specs.declared.Hit.{Hit}
use Rattle.lookup_slots.specs.Used.{used}
use Rattle.lookup_slots.specs.Promise.{room_in}
use Rattle.lookup_slots.specs.Slots.{built}
use Rattle.std.specs.Prelude.{Option, Some, None, Ok, Err}
use Rattle.lookup_slots.proofs.Used.{power_positive, used_smallest}
use Rattle.lookup_index.specs.Index.{too_few, key_at, index, indexed, sought_in, building, leaves}
use Rattle.lookup_index.specs.Private.{Power}
use Rattle.lookup_index.specs.declared.Unbuilt.TheVariants as unbuilt

pub power_one : {m : ℕ} → Power m → 1 ≤ m
power_one p = omega (arith, p.is, power_positive p.bits)

pub power_mask : {m : ℕ} (h : ℕ) → Power m → (bit_and h (m - 1) ≡ h % m) × (bit_and h (m - 1) < m)
power_mask {m} h p =
    let e : bit_and h (m - 1) ≡ h % m = rw p.is (and_mask h p.bits) in
    (e, omega (arith, mod-lt h (power_one p)))

pub power_same : {m n : ℕ} → m ≡ n → Power n → Power m
power_same e p = record { bits = p.bits; is = e ∙ p.is }

-- a file of another length is refused before the slots are counted
pub build_stale : (s : List ℕ) (t : Tables) (lent : ℕ) → (length s ≡ t.length → ⊥) → Err unbuilt.StaleLength ≡ building s t lent
unfolding building
build_stale s t lent e = sym (left _ _ (ne_eqb (length s) t.length e))

-- the room in the slots lent, as the code has it
module _ (s : List ℕ) (t : Tables) (lent : List ℕ) {r : Option ℕ} (e : r ≡ room_in t.count (length lent)) where
  room_none : r ≡ None → leb (used t.count) (length lent) ≡ false
  unfolding room_in
  room_none f =
      by_test (leb (used t.count) (length lent) ≡ false) (leb (used t.count) (length lent))
      (λ y. let g : Some (used t.count) ≡ None = sym (taken _ _ y) ∙ sym e ∙ f in absurd (let z : ◌≡◌ {A = ℕ} 0 1 = cc in omega arith))
      (λ n. n)

  pub sought_none : (key : List ℕ) → r ≡ None → Err too_few ≡ sought_in s t lent key
  unfolding sought_in
  sought_none key f = sym (left _ _ (room_none f))

  pub build_none : length s ≡ t.length → r ≡ None → Err unbuilt.TooFewSlots ≡ building s t (length lent)
  unfolding building
  build_none l f = sym (taken _ _ (eq-eqb (length s) t.length l) ∙ left _ _ (room_none f))

  record Taken (size : ℕ) : Type 0 where
    test : leb (used t.count) (length lent) ≡ true
    is : size ≡ used t.count

  room_taken : {size : ℕ} → r ≡ Some size → Taken size
  unfolding room_in
  room_taken {size} f =
      by_test (Taken size) (leb (used t.count) (length lent))
      (λ y. let g : Some (used t.count) ≡ Some size = sym (taken _ _ y) ∙ sym e ∙ f in record { test = y; is = cc })
      (λ n. let g : None ≡ Some size = sym (left _ _ n) ∙ sym e ∙ f in absurd (let z : ◌≡◌ {A = ℕ} 0 1 = cc in omega arith))

  module _ {size : ℕ} (f : r ≡ Some size) where
    pub room_fits : size ≤ length lent
    room_fits = let w = room_taken f in omega (arith, w.is, leb-true (used t.count) (length lent) w.test)

    pub part_length : size ≡ length (take size lent)
    part_length = sym (length-take-le size lent room_fits)

    pub power_used : Power (length (take size lent))
    power_used =
        let w = used_smallest t.count in
        power_same (sym part_length ∙ (room_taken f).is) (record { bits = w.power; is = w.is })

    pub sought_hit : (key : List ℕ) {h : Option Hit} → h ≡ indexed s t (take size lent) key → Ok h ≡ sought_in s t lent key
    unfolding sought_in
    sought_hit key g =
        ap Ok (g ∙ ap (λ (n : ℕ). indexed s t (take n lent) key) (room_taken f).is)
        ∙ sym (taken _ (Err too_few) (room_taken f).test)

    pub build_done : length s ≡ t.length → Ok tt ≡ building s t (length lent)
    unfolding building
    build_done l = sym (taken _ _ (eq-eqb (length s) t.length l) ∙ taken _ _ (room_taken f).test)

    -- the part comes back, before the slots that are not used
    pub given_back : {y : List ℕ} → y ≡ built (key_at s t) (length (take size lent)) t.count → y ++ drop size lent ≡ leaves s t lent (Ok tt)
    unfolding index
    given_back {y} g =
        let w = room_taken f in
        ap (λ (x : List ℕ). x ++ drop size lent) (g ∙ ap (λ (n : ℕ). built (key_at s t) n t.count) (sym part_length ∙ w.is))
        ∙ ap (λ (n : ℕ). index s t ++ drop n lent) w.is
