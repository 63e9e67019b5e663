-- Words, cells and strings as the code meets them. Assumes nothing.
use Prim.Native.Nat.{ℕ, ◌+◌, ◌*◌, ◌<◌, ◌≤◌}
use mathlib.Core.Path.{◌≡◌, sym, ◌∙◌}
use mathlib.Core.Bool.{Bool, true, false}
use mathlib.Core.List.{List}
use native.Mathlib.Omega.{arith}
use lib.ListN.{length, get_or}
use borrow.Author.Tests.{le-leb, lt-leb, leb-true}
use Rattle.text.proofs.Tests.{taken, left, by_test}
use Rattle.container_layout.specs.Mo.{from_bytes, word, within, string, has_cell, has_string}
use Rattle.std.specs.Prelude.{Some, None}
use Rattle.text.specs.declared.Stretch.{Stretch}

module _ (s : List ℕ) (at : ℕ) {r : ℕ} {big : Bool} where
  pub read_big : big ≡ true → r ≡ from_bytes (get_or s (at + 3) 0) (get_or s (at + 2) 0) (get_or s (at + 1) 0) (get_or s at 0) → r ≡ word big s at
  unfolding word
  read_big b e = rw b e

  pub read_little : big ≡ false → r ≡ from_bytes (get_or s at 0) (get_or s (at + 1) 0) (get_or s (at + 2) 0) (get_or s (at + 3) 0) → r ≡ word big s at
  unfolding word
  read_little b e = rw b e

module _ (big : Bool) (s : List ℕ) (table i : ℕ) where
  pub no_cell : length s < table + 8 * i + 8 → None ≡ string big s table i
  unfolding string
  no_cell h = sym (left _ _ (lt-leb (table + 8 * i + 8) (length s) h))

  pub has_cell_lem : {start : ℕ} → start ≡ table → table + 8 * i + 8 ≤ length s → within s (word big s (start + 8 * i + 4)) (word big s (start + 8 * i)) ≡ string big s table i
  unfolding string
  has_cell_lem e h = rw e (sym (taken _ _ (le-leb (table + 8 * i + 8) (length s) h)))

-- nothing lies outside
pub never_out : {p : Stretch} → None ≡ Some p → ⊥
never_out e = let z : ◌≡◌ {A = ℕ} 0 1 = cc in omega arith

within_told : (s : List ℕ) (v w : ℕ) (p : Stretch) → within s v w ≡ Some p → p.start + p.len + 1 ≤ length s
within_told s v w p e =
    by_test (p.start + p.len + 1 ≤ length s) (has_string s v w)
    (λ t.
    let q : record { start = v; len = w } ≡ p = cc (sym (taken _ _ t) ∙ e) in
    rw (← q) (leb-true (v + w + 1) (length s) t))
    (λ t. absurd (never_out (sym (left _ _ t) ∙ e)))

-- a string lies in the file, with the byte after it
pub string_told : (big : Bool) (s : List ℕ) (table i : ℕ) {p : Stretch} → string big s table i ≡ Some p → p.start + p.len + 1 ≤ length s
unfolding string
string_told big s table i {p} e =
    by_test (p.start + p.len + 1 ≤ length s) (has_cell s table i)
    (λ t. within_told s _ _ p (sym (taken _ _ t) ∙ e))
    (λ t. absurd (never_out (sym (left _ _ t) ∙ e)))
