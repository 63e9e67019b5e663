-- The label in a Content-Type, as the code finds it. Assumes nothing.
use Prim.Native.Nat.{ℕ, ◌+◌, ◌-◌, ◌≤◌}
use mathlib.Core.Path.{◌≡◌, refl, ap}
use mathlib.Core.Bool.{Bool, true, false}
use mathlib.Core.List.{List, map}
use lib.ListN.{length, take, drop}
use Rattle.text_trim.specs.Trim.{label, trim}
use Rattle.text.specs.Bytes.{bytes, first, same, small}
use Rattle.std.specs.Prelude.{Option, Some, None}
use Rattle.std.specs.Option.{unwrap_or}
use Rattle.text.proofs.Walk.{part_from}
use Rattle.text.proofs.Sought.{first_inside}
use Rattle.header.specs.Header.{up_to, charset, label_is, utf8_label}

abbrev pub pattern : List ℕ
pattern = bytes "charset="

module _ (v : List ℕ) where
  pub no_label : first pattern v ≡ None → None ≡ charset v
  unfolding charset
  no_label e = rw e

  pub label_found : (i : ℕ) → first pattern v ≡ Some i → {f : Option ℕ} {n : ℕ} → f ≡ first pattern (take (length v - (i + 8)) (drop (i + 8) v))
      → n ≡ unwrap_or f (length (take (length v - (i + 8)) (drop (i + 8) v))) → Some (record { start = i + 8; len = n }) ≡ charset v
  unfolding charset
  label_found i e {f} {n} g h =
      rw (e, ← part_from v (i + 8), ← g, h) (ap (λ (n : ℕ). Some (record { start = i + 8; len = n })) (go f (length (take (length v - (i + 8)) (drop (i + 8) v)))))
    where
      go : (f : Option ℕ) (n : ℕ) → unwrap_or f n ≡ up_to f n
      go (Some j) n = refl
      go None n = refl

  pub label_fits : (i : ℕ) → first pattern v ≡ Some i → i + 8 ≤ length v
  label_fits i e = first_inside pattern v i e

-- what `charset_in` may use
pub ruleset charset_cases = (no_label, label_found, label_fits)

-- the three labels of UTF-8, tried in turn
module _ (s : List ℕ) {t : List ℕ} (e : t ≡ trim label s) where
  said : (name : List ℕ) {r b : Bool} → r ≡ same name (map small t) → r ≡ b → label_is name s ≡ b
  said name f g = rw (← e, ← f) g

  pub first_label : {r : Bool} → r ≡ same (bytes "utf-8") (map small t) → r ≡ true → true ≡ utf8_label s
  unfolding utf8_label
  first_label f g = rw (said (bytes "utf-8") f g)

  pub second_label : {q r : Bool} → q ≡ same (bytes "utf-8") (map small t) → q ≡ false → r ≡ same (bytes "utf8") (map small t) → r ≡ true → true ≡ utf8_label s
  unfolding utf8_label
  second_label d c f g = rw (said (bytes "utf-8") d c, said (bytes "utf8") f g)

  pub third_label : {q r l : Bool} → q ≡ same (bytes "utf-8") (map small t) → q ≡ false → r ≡ same (bytes "utf8") (map small t) → r ≡ false
      → l ≡ same (bytes "unicode-1-1-utf-8") (map small t) → l ≡ utf8_label s
  unfolding utf8_label
  third_label d c f g h = rw (said (bytes "utf-8") d c, said (bytes "utf8") f g, ← e) h
