-- The definition's rows as the loop over the table meets them. Assumes nothing.
use Prim.Native.Nat.{ℕ, ◌+◌, ◌<◌, ◌≤◌}
use mathlib.Core.Path.{◌≡◌, refl, sym, ap, ◌∙◌}
use mathlib.Core.Bool.{Bool, true, false}
use Rattle.std.specs.Prelude.{Option, Some, None, is_some}
use mathlib.Core.List.{List, [], ◌∷◌}
use native.Mathlib.Omega.{arith}
use native.Mathlib.Numerals.{add-one}
use lib.ListN.{length, drop}
use lib.Seq.{drop-cons}
use lib.Dec.{ltb}
use borrow.Author.Tests.{lt-ltb, le-ltb, ltb-true, ltb-false}
use borrow.Author.Rules.{rules}
use Rattle.rules.specs.Tree.{rem}
use Rattle.reading_scan.specs.Scan.{index_of, found_at}
use Rattle.reading_levels.specs.Levels.{row, rows, binary, found, row_at, row_of, row_in}

-- whether a pattern stands in a text, as the code asks it
pub stands_if : (pat s : List ℕ) {x : Option ℕ} {b : Bool} → b ≡ is_some x → x ≡ found_at pat s → b ≡ found pat s
stands_if pat s f e = f ∙ (ap (λ (o : Option ℕ). is_some o) e ∙ go (found pat s))
  where
    go : (y : Bool) → is_some (elim y as (λ _. Option ℕ) [ true ↦ Some (index_of pat s) | false ↦ None ]) ≡ y
    go true = refl
    go false = refl

-- the loop over the rows: the next, the one that has a match, and none
module _ (s : List ℕ) (l : ℕ) (was : row_of rows s ≡ l + row_of (drop l rows) s) where
  here : l < 10 → drop l rows ≡ row_at l ∷ drop (l + 1) rows
  here h = rw (add-one, drop-cons rows l (row [] (binary rem)) h)

  pub row_on : l < 10 → found (row_at l).pattern s ≡ false → row_of rows s ≡ l + 1 + row_of (drop (l + 1) rows) s
  unfolding row_of
  row_on h n = was ∙ rw (here h, n, row_of) (omega arith)

  pub row_here : l < 10 → found (row_at l).pattern s ≡ true → Some l ≡ row_in s
  unfolding row_of
  row_here h n =
      let e : l ≡ row_of rows s = sym (was ∙ rw (here h, n, row_of) (omega arith)) in
      let k : row_of rows s < 10 = omega arith in
      rw (e, lt-ltb (row_of rows s) 10 k, row_in)

  pub row_end : l ≡ 10 → None ≡ row_in s
  unfolding row_of
  row_end e =
      let k : 10 ≡ row_of rows s = sym (was ∙ rw e (omega arith)) in
      rw (le-ltb (row_of rows s) 10 (omega arith), row_in)

-- what the answer of `row_of` says
pub row_is : (s : List ℕ) {l : ℕ} → Some l ≡ row_in s → (l ≡ row_of rows s) × (l < 10)
row_is s {l} e = go (ltb (row_of rows s) 10) refl e
  where
    go :
        (x : Bool) → ltb (row_of rows s) 10 ≡ x → Some l ≡ elim x as (λ _. Option ℕ) [ true ↦ Some (row_of rows s) | false ↦ None ] →
        (l ≡ row_of rows s) × (l < 10)
    go true q e = let z : l ≡ row_of rows s = cc in (z, omega (arith, ltb-true _ _ q))
    go false q e = let z : ◌≡◌ {A = ℕ} 0 1 = cc in absurd (omega arith)

pub no_row : (s : List ℕ) → None ≡ row_in s → 10 ≤ row_of rows s
no_row s e = go (ltb (row_of rows s) 10) refl e
  where
    go : (x : Bool) → ltb (row_of rows s) 10 ≡ x → None ≡ elim x as (λ _. Option ℕ) [ true ↦ Some (row_of rows s) | false ↦ None ] → 10 ≤ row_of rows s
    go true q e = let z : ◌≡◌ {A = ℕ} 0 1 = cc in absurd (omega arith)
    go false q e = ltb-false _ _ q

-- a pattern has a sign
pub has_sign : (l : ℕ) → l < 10 → 0 < length (row_at l).pattern
has_sign l h = search rules
