-- The key of an entry and its hash, as the code meets them. Assumes nothing.
use Prim.Native.Nat.{ℕ, ◌+◌, ◌-◌, ◌<◌, ◌≤◌}
use mathlib.Core.Path.{◌≡◌, refl, sym, ap, ◌∙◌}
use mathlib.Core.Bool.{Bool, true, false}
use mathlib.Core.List.{List}
use Rattle.std.specs.Prelude.{Option, Some, None}
use native.Mathlib.Omega.{arith}
use native.Mathlib.Nat.{add-sub_cancel_left}
use lib.ListN.{length, get_or, take, drop, length-drop}
use lib.Seq.{length-take-le, take-take, get_or-take, get_or-drop}
use borrow.Author.Tests.{eqb-true, lt-ltb}
use Rattle.text.specs.Bytes.{within, all, front}
use Rattle.text.specs.declared.Stretch.{Stretch}
use Rattle.text.proofs.Tests.{taken}
use Rattle.text.proofs.All.{all_by_front}
use Rattle.text.proofs.Front.{counted_stop}
use Rattle.container_layout.specs.Mo.{string, original, id_end, ended, keyed, translated, entry}
use Rattle.container_layout.specs.Private.{plain}
use Rattle.container_layout.specs.declared.Entry.{Entry}
use Rattle.container_layout.specs.declared.Tables.{Tables}
use Rattle.container_layout.proofs.Entries.{original_length}
use Rattle.container_layout.proofs.Marks.{plain_nul, from_start, part_plain, marked_nul}
use Rattle.lookup_scan.proofs.Entries.{key_inside}
use Rattle.lookup_slots.specs.Hash.{hash}
use Rattle.lookup_slots.specs.Promise.{Hashes}
use Rattle.lookup_index.specs.Index.{key_in, key_at}
use Rattle.lookup_index.specs.Private.{key_of_original, key_of_entry}
use Rattle.lookup_index.specs.declared.KeyPlace.{KeyPlace}
use Rattle.lookup_index.proofs.Answers.{key_below}

-- an original of bytes from 5 on and a NUL after them has its first mark there
plain_end : (o : List ℕ) (l : ℕ) → length o ≡ l + 1 → get_or o l 0 ≡ 0 → all (within (5, 0xFF)) (take l o) ≡ true → l ≡ id_end o
plain_end o l n z e =
    let f = eqb-true (0 + front (within (5, 0xFF)) (drop 0 (take l o))) (length (take l o)) (all_by_front (within (5, 0xFF)) (take l o) refl ∙ e) in
    let g : l ≡ 0 + front (within (5, 0xFF)) (drop 0 (take l o)) = omega (arith, f, length-take-le l o (omega arith)) in
    let m : l ≡ front plain o = from_start plain o (counted_stop plain o 0 l (omega arith) (plain_nul _ z) (part_plain o l g)) in
    (marked_nul o m (omega arith) (λ y. omega arith) (omega arith)).end

-- where the id of an original ends, by its marks or where it is plain
module _ (s : List ℕ) (o : Stretch) where
  module _ (h : o.start + o.len < length s) where
    size : length (original s o.start o.len) ≡ o.len + 1
    size = original_length s o.start o.len (omega arith)

    pub end_plain : {b : Bool} → get_or s (o.start + o.len) 0 ≡ 0 → b ≡ all (within (5, 0xFF)) (take (o.start + o.len - o.start) (drop o.start s)) → b ≡ true
        → o.len ≡ id_end (original s o.start o.len)
    end_plain z e f =
        let d : take o.len (original s o.start o.len) ≡ take (o.start + o.len - o.start) (drop o.start s) =
        rw (add-sub_cancel_left o.start o.len) (take-take o.len (o.len + 1) (drop o.start s) (omega arith))
        in
        plain_end (original s o.start o.len) o.len size
        (get_or-take (o.len + 1) (drop o.start s) o.len 0 (omega arith) ∙ get_or-drop o.start s o.len 0 ∙ z)
        (ap (all (within (5, 0xFF))) d ∙ sym e ∙ f)

    module _ {k : ℕ} (e : k ≡ id_end (original s o.start o.len)) where
      abbrev ends : ℕ → KeyPlace
      ends j = record { start = o.start; len = j; hash = hash (take j (drop o.start s)) }

      pub ended_at : {v : ℕ} → k ≤ o.len → Hashes 5381 (take (o.start + k - o.start) (drop o.start s)) v
          → Some (record { start = o.start; len = k; hash = v }) ≡ key_of_original s o
      ended_at {v} g u =
          let w : v ≡ hash (take k (drop o.start s)) = u.is ∙ ap (λ (j : ℕ). hash (take j (drop o.start s))) (add-sub_cancel_left o.start k) in
          ap (λ (x : ℕ). Some (record { start = o.start; len = k; hash = x })) w ∙ ap (λ (j : ℕ). Some (ends j)) e
          ∙ sym (taken _ _ (lt-ltb (id_end (original s o.start o.len)) (length (original s o.start o.len)) (omega (arith, size, e))))

-- an entry has the key of its original, if it has a translation
module _ (s : List ℕ) (t : Tables) (i : ℕ) {x y : Option Stretch} {o : Stretch} (e : x ≡ string t.big s t.originals i) (f : x ≡ Some o)
    (g : y ≡ string t.big s t.translations i) where
  of_strings : (z : Option Stretch) → y ≡ z → key_of_entry s (keyed s (Some o) z) ≡ key_of_entry s (entry s t i)
  unfolding entry
  of_strings z h = rw (← f, ← h, e, g)

  pub no_translation : y ≡ None → None ≡ key_of_entry s (entry s t i)
  no_translation h = neither (ended (original s o.start o.len)) ∙ of_strings None h
    where
      neither : (b : Bool) → None ≡ key_of_entry s (elim b [ true ↦ None | false ↦ None ])
      neither true = refl
      neither false = refl

  pub with_translation : {p : Stretch} {r : Option KeyPlace} → y ≡ Some p → r ≡ key_of_original s o → r ≡ key_of_entry s (entry s t i)
  with_translation {p} h r =
      r ∙ either (ended (original s o.start o.len)) (translated (Some p) o.start (id_end (original s o.start o.len))) ∙ of_strings (Some p) h
    where
      either : (b : Bool) (x : Option Entry) → elim b [ true ↦ key_of_entry s x | false ↦ None ] ≡ key_of_entry s (elim b [ true ↦ x | false ↦ None ])
      either true x = refl
      either false x = refl

-- the key of entry i is what the code takes for it
pub record Keyed (s : List ℕ) (t : Tables) (i : ℕ) (k : KeyPlace) : Type 0 where
  pub inside : k.start + k.len < length s
  pub is : key_at s t i ≡ Some (take (k.start + k.len - k.start) (drop k.start s))
  pub size : k.len ≡ length (take (k.start + k.len - k.start) (drop k.start s))
  pub hashed : k.hash ≡ hash (take (k.start + k.len - k.start) (drop k.start s))

module _ (s : List ℕ) (t : Tables) (i : ℕ) (l : i < t.count) {x : Option KeyPlace} (e : x ≡ key_of_entry s (entry s t i)) where
  pub not_keyed : x ≡ None → key_at s t i ≡ None
  not_keyed f = key_below s t i l ∙ by_entry_lem (entry s t i) (sym e ∙ f)
    where
      by_entry_lem : (o : Option Entry) → key_of_entry s o ≡ None → key_in s o ≡ None
      by_entry_lem (Some o) g = let z : ◌≡◌ {A = ℕ} 0 1 = cc in absurd (omega arith)
      by_entry_lem None g = refl

  pub keyed_at : {k : KeyPlace} → x ≡ Some k → Keyed s t i k
  keyed_at {k} f = by_entry_lem (entry s t i) refl (sym e ∙ f)
    where
      by_entry_lem : (o : Option Entry) → entry s t i ≡ o → key_of_entry s o ≡ Some k → Keyed s t i k
      by_entry_lem (Some o) d g =
          let p : record { start = o.key; len = o.key_len; hash = hash (take o.key_len (drop o.key s)) } ≡ k = cc in
          let w = key_inside s t i d in
          let r = add-sub_cancel_left o.key o.key_len in
          rw (← p) (record {
            inside = w;
            is = rw r (key_below s t i l ∙ ap (key_in s) d);
            size = rw r (sym (length-take-le o.key_len (drop o.key s) (omega (arith, length-drop o.key s, w))));
            hashed = rw r refl;
          })
      by_entry_lem None d g = let z : ◌≡◌ {A = ℕ} 0 1 = cc in absurd (omega arith)
