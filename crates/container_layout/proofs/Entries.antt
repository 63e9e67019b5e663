-- The parts of an entry as the code meets them. Assumes nothing.
use Prim.Native.Nat.{ℕ, ◌+◌, ◌-◌, ◌<◌, ◌≤◌}
use mathlib.Core.Path.{◌≡◌, sym, ap, ◌∙◌}
use mathlib.Core.List.{List}
use native.Mathlib.Omega.{arith}
use lib.ListN.{length, take, drop, length-drop}
use lib.Seq.{length-take-le}
use borrow.Author.Tests.{lt-ltb, le-ltb}
use Rattle.text.proofs.Tests.{taken, left}
use Rattle.container_layout.specs.Mo.{string, original, id_end, keyed, translated, entry}
use Rattle.container_layout.specs.Promise.{Splits}
use Rattle.container_layout.specs.declared.Tables.{Tables}
use Rattle.text.specs.declared.Stretch.{Stretch}
use Rattle.std.specs.Prelude.{Option, Some, None}
use Rattle.container_layout.specs.declared.Parts.{Parts}
use Rattle.container_layout.proofs.Cells.{string_told}

-- the part of the file that the code takes for the original
pub original_part : (s : List ℕ) (start len : ℕ) → take (start + len + 1 - start) (drop start s) ≡ original s start len
original_part s start len = let z : start + len + 1 - start ≡ len + 1 = omega arith in rw z

pub original_length : (s : List ℕ) (start len : ℕ) → start + len + 1 ≤ length s → length (original s start len) ≡ len + 1
original_length s start len h = length-take-le (len + 1) (drop start s) (omega (arith, length-drop start s))

module _ (s : List ℕ) (t : Tables) (i : ℕ) where
  pub no_original : {x : Option Stretch} → x ≡ string t.big s t.originals i → x ≡ None → None ≡ entry s t i
  unfolding entry
  no_original e f = rw (← e, f)

  module _ {o : Stretch} {x : Option Stretch} {p : Parts} (e : x ≡ string t.big s t.originals i) (f : x ≡ Some o)
      (g : Splits (take (o.start + o.len + 1 - o.start) (drop o.start s)) p) where
    size : length (original s o.start o.len) ≡ o.len + 1
    size = original_length s o.start o.len (string_told t.big s t.originals i (sym e ∙ f))

    key_end : p.end ≡ id_end (original s o.start o.len)
    key_end = g.end ∙ ap id_end (original_part s o.start o.len)

    as_keyed : entry s t i ≡ keyed s (Some o) (string t.big s t.translations i)
    unfolding entry
    as_keyed = ap (λ (y : Option Stretch). keyed s y (string t.big s t.translations i)) (sym e ∙ f)

    pub no_id : o.len < p.end → None ≡ entry s t i
    no_id h = sym (as_keyed ∙ left _ _ (le-ltb (id_end (original s o.start o.len)) (length (original s o.start o.len)) (omega (arith, size, key_end))))

    at_key : p.end ≤ o.len → entry s t i ≡ translated (string t.big s t.translations i) o.start (id_end (original s o.start o.len))
    at_key h = as_keyed ∙ taken _ _ (lt-ltb (id_end (original s o.start o.len)) (length (original s o.start o.len)) (omega (arith, size, key_end)))

    pub no_translation : {y : Option Stretch} → p.end ≤ o.len → y ≡ string t.big s t.translations i → y ≡ None → None ≡ entry s t i
    no_translation h u v = sym (at_key h ∙ ap (λ (z : Option Stretch). translated z o.start (id_end (original s o.start o.len))) (sym u ∙ v))

    pub is_entry : {q : Stretch} {y : Option Stretch} → p.end ≤ o.len → y ≡ string t.big s t.translations i → y ≡ Some q → Some (record { key = o.start; key_len = p.end; start = q.start; len = q.len }) ≡ entry s t i
    is_entry {q} h u v =
        ap (λ (k : ℕ). translated (Some q) o.start k) key_end ∙ sym (at_key h ∙ ap (λ (z : Option Stretch). translated z o.start (id_end (original s o.start o.len))) (sym u ∙ v))
