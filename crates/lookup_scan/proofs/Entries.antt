-- What an entry is made of, and what an entry with a key is like. Assumes nothing.
use Prim.Native.Nat.{ℕ, ◌+◌, ◌-◌, ◌<◌, ◌≤◌}
use mathlib.Core.Path.{◌≡◌, refl, sym, ap, ap₂, ◌∙◌}
use mathlib.Core.Bool.{Bool, true, false, ◌&&◌}
use mathlib.Core.List.{List}
use native.Mathlib.Omega.{arith}
use lib.ListN.{length, get_or, take, drop, length-drop}
use lib.Seq.{get_or-take, get_or-drop, length-take-le}
use lib.Bits.{bit_or, or_add_and, and_le_l, and_le_r}
use lib.Dec.{eqb, leb}
use borrow.Author.Tests.{ltb-true, le-leb, leb-true, leb-false, eq-eqb, ne_eqb}
use Rattle.text.specs.Bytes.{place, same}
use Rattle.text.proofs.Tests.{never, taken, left, by_test}
use Rattle.text.proofs.Placed.{place_stands}
use Rattle.text.proofs.Same.{same_true, same_refl}
use Rattle.container_layout.specs.Mo as Mo
use Rattle.container_layout.specs.Mo.{string, original, id_start, id_end, ended, keyed, translated, entry}
use Rattle.container_layout.specs.declared.Tables.{Tables}
use Rattle.container_layout.specs.declared.Entry.{Entry}
use Rattle.text.specs.declared.Stretch.{Stretch}
use Rattle.lookup_scan.specs.declared.Hit.{Hit}
use Rattle.std.specs.Prelude.{Option, Some, None, min}
use Rattle.container_layout.proofs.Cells.{string_told}
use Rattle.container_layout.proofs.Entries.{original_length}
use Rattle.lookup_scan.specs.Keys.{is_key}
use Rattle.lookup_scan.specs.Private.{MayBe, ends_after}

-- an original whose id ends has a NUL there
id_nul : (o : List ℕ) → ended o ≡ true → get_or o (id_end o) 0 ≡ 0
unfolding id_end
id_nul o e =
    let h : id_start o + place 0 (drop (id_start o) o) < length o = ltb-true _ _ e in
    sym (get_or-drop (id_start o) o (place 0 (drop (id_start o) o)) 0) ∙ place_stands 0 (drop (id_start o) o) (omega (arith, length-drop (id_start o) o))

-- what an entry is made of: the string of its original, in which a NUL ends the key, and that of its translation
pub record Made (s : List ℕ) (t : Tables) (i : ℕ) (e : Entry) : Type 0 where
  pub len : ℕ
  pub original : string t.big s t.originals i ≡ Some (record { start = e.key; len = len })
  pub short : e.key_len ≤ len
  pub nul : get_or s (e.key + e.key_len) 0 ≡ 0
  pub end : e.key_len ≡ id_end (Mo.original s e.key len)
  pub translation : string t.big s t.translations i ≡ Some (record { start = e.start; len = e.len })

no_entry : {e : Entry} → None ≡ Some e → ⊥
no_entry e = let z : ◌≡◌ {A = ℕ} 0 1 = cc in omega arith

module _ (s : List ℕ) (t : Tables) (i : ℕ) where
  -- the string o with an entry's original, and the entry
  module _ (o : Stretch) (e : string t.big s t.originals i ≡ Some o) where
    abbrev end : ℕ
    end = id_end (original s o.start o.len)

    of_parts : (p : Stretch) → ended (original s o.start o.len) ≡ true → string t.big s t.translations i ≡ Some p
        → Made s t i (record { key = o.start; key_len = end; start = p.start; len = p.len })
    of_parts p f g =
        let h : o.start + o.len + 1 ≤ length s = string_told t.big s t.originals i e in
        let k : end < length (original s o.start o.len) = ltb-true _ _ f in
        let m : end < o.len + 1 = omega (arith, original_length s o.start o.len h) in
        record {
          len = o.len;
          original = e;
          short = omega arith;
          nul = sym (get_or-drop o.start s end 0) ∙ sym (get_or-take (o.len + 1) (drop o.start s) end 0 m) ∙ id_nul (original s o.start o.len) f;
          end = refl;
          translation = g;
        }

    of_translation : (y : Option Stretch) {x : Entry} → ended (original s o.start o.len) ≡ true → string t.big s t.translations i ≡ y
        → translated y o.start end ≡ Some x → Made s t i x
    of_translation None f g h = absurd (no_entry h)
    of_translation (Some p) {x} f g h =
        let q : record { key = o.start; key_len = end; start = p.start; len = p.len } ≡ x = cc in
        rw (← q) (of_parts p f g)

  of_original : (y : Option Stretch) {x : Entry} → string t.big s t.originals i ≡ y → keyed s y (string t.big s t.translations i) ≡ Some x → Made s t i x
  of_original None e f = absurd (no_entry f)
  of_original (Some o) {x} e f =
      by_test (Made s t i x) (ended (original s o.start o.len))
      (λ h. of_translation o e (string t.big s t.translations i) h refl (sym (taken _ _ h) ∙ f))
      (λ h. absurd (no_entry (sym (left (translated (string t.big s t.translations i) o.start (end o e)) None h) ∙ f)))

  pub made : {x : Entry} → entry s t i ≡ Some x → Made s t i x
  unfolding entry
  made e = of_original (string t.big s t.originals i) refl e

  -- its key and its translation lie in the file
  pub key_inside : {x : Entry} → entry s t i ≡ Some x → x.key + x.key_len < length s
  key_inside e = let o = made e in omega (arith, string_told t.big s t.originals i o.original, o.short)

  pub translation_inside : {x : Entry} → entry s t i ≡ Some x → x.start + x.len ≤ length s
  translation_inside e = omega (arith, string_told t.big s t.translations i (made e).translation)

-- the entry of a hit has the key: it lies at a place of the file, and the translation too
pub record Has (s : List ℕ) (t : Tables) (key : List ℕ) (h : Hit) : Type 0 where
  pub at : ℕ
  pub entry : entry s t h.entry ≡ Some (record { key = at; key_len = length key; start = h.start; len = h.len })
  pub bytes : take (length key) (drop at s) ≡ key

is_false : (b : Bool) → (b ≡ true → ⊥) → b ≡ false
is_false true h = absurd (h refl)
is_false false h = refl

pub record Keyed (s : List ℕ) (t : Tables) (key : List ℕ) (i : ℕ) : Type 0 where
  pub start : ℕ
  pub len : ℕ
  pub has : Has s t key (record { entry = i; start = start; len = len })

module _ (s : List ℕ) (t : Tables) (key : List ℕ) (i : ℕ) where
  keyed_by : (y : Option Entry) → entry s t i ≡ y → is_key s key y ≡ true → Keyed s t key i
  keyed_by None e f = absurd (never f)
  keyed_by (Some x) e f =
      let k : key ≡ take x.key_len (drop x.key s) = same_true key (take x.key_len (drop x.key s)) f in
      let z : x.key_len ≡ length key = sym (ap length k ∙ length-take-le x.key_len (drop x.key s) (omega (arith, length-drop x.key s, key_inside s t i e))) in
      record { start = x.start; len = x.len; has = record { at = x.key; entry = rw (← z) e; bytes = rw (← z) (sym k) } }

  pub keyed_told : is_key s key (entry s t i) ≡ true → Keyed s t key i
  keyed_told f = keyed_by (entry s t i) refl f

  pub shorter : is_key s key (entry s t i) ≡ true → length key < length s
  shorter f = let k = keyed_told f in omega (arith, key_inside s t i k.has.entry)

  -- an entry without a cell, or without an original, has no key
  pub no_string : string t.big s t.originals i ≡ None → is_key s key (entry s t i) ≡ false
  no_string e = is_false _ (λ f. let q = (made s t i (keyed_told f).has.entry).original in let z : ◌≡◌ {A = ℕ} 0 1 = cc in omega arith)

pub has_told : (s : List ℕ) (t : Tables) (key : List ℕ) {h : Hit} → Has s t key h → is_key s key (entry s t h.entry) ≡ true
has_told s t key h = ap (is_key s key) h.entry ∙ ap (same key) h.bytes ∙ same_refl key

-- the end of a string, told by what is lacking and the byte there at once
or_none : (a b : ℕ) → bit_or a b ≡ 0 → (a ≡ 0) × (b ≡ 0)
or_none a b e = (omega (arith, or_add_and a b, and_le_r a b), omega (arith, or_add_and a b, and_le_l a b))

module _ (s : List ℕ) (a l n : ℕ) where
  pub ends_at_once : {m b : ℕ} → m ≡ min n l → b ≡ get_or s (a + m) 0 → eqb (bit_or (n - m) b) 0 ≡ ends_after s a l n
  ends_at_once {m} {b} w e =
      by_test (eqb (bit_or (n - m) b) 0 ≡ ends_after s a l n) (leb n l)
      (λ t. let u : n ≤ l = leb-true n l t in let z : m ≡ n = omega arith in let y : n - m ≡ 0 = omega arith in rw (y, t) (ap (λ (x : ℕ). eqb x 0) (e ∙ ap (λ (x : ℕ). get_or s (a + x) 0) z)))
      (λ t. ne_eqb (bit_or (n - m) b) 0 (λ o. omega (arith, (or_none (n - m) b o).0, leb-false n l t)) ∙ rw t)

-- the quick test of an entry
module _ (s : List ℕ) (t : Tables) (i n : ℕ) where
  pub may_not_outside : {y : Option Stretch} → y ≡ string t.big s t.originals i → y ≡ None → MayBe s t i n false
  may_not_outside e f = record { no = λ r key h. no_string s t key i (sym e ∙ f) }

  module _ {o : Stretch} {y : Option Stretch} (e : y ≡ string t.big s t.originals i) (f : y ≡ Some o) where
    same_original : {x : Entry} (k : Made s t i x) → o ≡ record { start = x.key; len = k.len }
    same_original k = let q = k.original in cc

    pub may_by_end : {r : Bool} → r ≡ ends_after s o.start o.len n → MayBe s t i n r
    may_by_end q = record { no = λ z key h. is_false _ (λ g. ends key h refl (made s t i (keyed_told s t key i g).has.entry) (sym q ∙ z)) }
      where
        ends : (key : List ℕ) {x : Entry} → length key ≡ n → (x.key_len ≡ length key) → Made s t i x → ends_after s o.start o.len n ≡ false → ⊥
        ends key {x} h v k z =
            let p = same_original k in
            let l : n ≤ o.len = rw p (omega (arith, k.short)) in
            let w : get_or s (o.start + n) 0 ≡ 0 = rw (p, ← h, ← v) k.nul in
            never (sym z ∙ ap₂ (λ (x y : Bool). x && y) (le-leb n o.len l) (eq-eqb (get_or s (o.start + n) 0) 0 w))
