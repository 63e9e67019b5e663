-- An entry whose original begins with so many bytes and a NUL, as the code tells whether it has the key. Assumes nothing.
use Prim.Native.Nat.{ℕ, ◌+◌, ◌-◌, ◌≤◌}
use mathlib.Core.Path.{◌≡◌, refl, sym, ap, ◌∙◌}
use mathlib.Core.Bool.{Bool, true, false, ◌&&◌}
use mathlib.Core.List.{List}
use native.Mathlib.Omega.{arith}
use lib.ListN.{length, take, drop}
use lib.Seq.{take-take}
use lib.Dec.{eqb}
use borrow.Author.Tests.{eqb-true}
use Rattle.text.specs.Bytes.{same}
use Rattle.text.proofs.Tests.{never, and_left, and_right}
use Rattle.container_layout.specs.Mo.{string, original, id_end, translated, entry}
use Rattle.container_layout.specs.declared.Tables.{Tables}
use Rattle.text.specs.declared.Stretch.{Stretch}
use Rattle.container_layout.proofs.Cells.{string_told}
use Rattle.container_layout.proofs.Entries.{original_part, is_entry}
use Rattle.lookup_scan.specs.Keys.{is_key}
use Rattle.lookup_scan.specs.Promise.{hit_if}
use Rattle.lookup_scan.specs.Private.{ends_after, Starts, has_key}
use Rattle.std.specs.Prelude.{Option, Some, None}
use Rattle.lookup_scan.proofs.Entries.{made, Keyed, keyed_told, may_not_outside, may_by_end}
use Rattle.lookup_scan.proofs.Ends.{has_key_lem, key_has}
use Rattle.lookup_scan.proofs.Scan.{hit_false, told_key}

-- by what an entry with the key is made of
is_false : (b : Bool) → (b ≡ true → ⊥) → b ≡ false
is_false true h = absurd (h refl)
is_false false h = refl

-- what the quick tests rule out has not the key, which is n bytes long
module _ (s : List ℕ) (t : Tables) (key : List ℕ) (i : ℕ) {n : ℕ} (z : n ≡ length key) {y : Option Stretch} (e : y ≡ string t.big s t.originals i) where
  pub hit_outside : y ≡ None → None ≡ hit_if s t key i
  hit_outside f = hit_false s t key i ((may_not_outside s t i n e f).no refl key (sym z))

  pub hit_short : {o : Stretch} {r : Bool} → y ≡ Some o → r ≡ ends_after s o.start o.len n → r ≡ false → None ≡ hit_if s t key i
  hit_short f g h = hit_false s t key i ((may_by_end s t i n e f g).no h key (sym z))

module _ (s : List ℕ) (t : Tables) (key : List ℕ) (i : ℕ) {o : Stretch} {n : ℕ} (z : n ≡ length key) (g : Starts s t i o n) where
  -- the original is that of the entry
  same_place : (k : Keyed s t key i) → record { start = k.has.at; len = (made s t i k.has.entry).len } ≡ o
  same_place k = let p = (made s t i k.has.entry).original in let q = g.original in cc

  other : ((k : Keyed s t key i) → ⊥) → None ≡ hit_if s t key i
  other h = hit_false s t key i (is_false (is_key s key (entry s t i)) (λ e. h (keyed_told s t key i e)))

  -- the original, with the byte after it
  abbrev O : List ℕ
  O = take (o.start + o.len + 1 - o.start) (drop o.start s)

  part : O ≡ original s o.start o.len
  part = original_part s o.start o.len

  inside : o.start + o.len + 1 ≤ length s
  inside = string_told t.big s t.originals i g.original

  front : take n O ≡ take n (drop o.start s)
  front = ap (take n) part ∙ take-take n (o.len + 1) (drop o.start s) (omega (arith, g.long))

  -- an original without the key is no entry's with it
  pub found_none : {r : Bool} → r ≡ has_key O n key → r ≡ false → None ≡ hit_if s t key i
  found_none e f =
      other (λ k.
      let p = same_place k in
      never (sym f ∙ e
      ∙ has_key_lem O n key
      (front ∙ ap (λ (m : ℕ). take m (drop o.start s)) z ∙ ap (λ (q : Stretch). take (length key) (drop q.start s)) (sym p) ∙ k.has.bytes)
      (ap id_end part ∙ sym (z ∙ (made s t i k.has.entry).end ∙ ap (λ (q : Stretch). id_end (original s q.start q.len)) p))))

  -- no translation
  pub found_untranslated : {y : Option Stretch} → y ≡ string t.big s t.translations i → y ≡ None → None ≡ hit_if s t key i
  found_untranslated e f = other (λ k. let q = (made s t i k.has.entry).translation in let w : ◌≡◌ {A = ℕ} 0 1 = cc in omega arith)

  -- the entry has the key
  pub found_hit : {r : Bool} {p : Stretch} {y : Option Stretch} → r ≡ has_key O n key → r ≡ true → y ≡ string t.big s t.translations i → y ≡ Some p
      → Some (record { entry = i; start = p.start; len = p.len }) ≡ hit_if s t key i
  found_hit {r} {p} {y} u v b w =
      let q : (same key (take n O) && eqb (id_end O) n) ≡ true = key_has O n key (sym u ∙ v) in
      let x : id_end O ≡ n = eqb-true _ _ (and_right (same key (take n O)) (eqb (id_end O) n) q) in
      let k = is_entry s t i (sym g.original) refl (record { context = refl; id = refl; end = refl }) (omega (arith, x, g.long)) b w in
      let f : same key (take n (drop o.start s)) ≡ true = ap (same key) (sym front) ∙ and_left (same key (take n O)) (eqb (id_end O) n) q in
      told_key s t key i (sym k ∙ ap (translated (Some p) o.start) x) f
