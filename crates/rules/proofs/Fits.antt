-- A rule that fits k has a range whose highest is below k. Assumes nothing.
use Prim.Native.Nat.{ℕ, ◌<◌}
use mathlib.Core.Path.{◌≡◌, refl, sym, ◌∙◌}
use mathlib.Core.Bool.{Bool, true, false}
use native.Mathlib.Omega.{arith}
use borrow.Author.Tests.{ltb-true}
use Rattle.rules.specs.declared.NoTree.{NoTree}
use Rattle.std.specs.Prelude.{Option, Some, None, Result, Ok, Err}
use Rattle.rules.specs.Pool.{Pool}
use Rattle.rules.specs.Answer.{fitting, rated_of, fit_of}
use Rattle.rules.proofs.Answers.{fit_from, fit_from_lem}

pub record Ranged (P : Pool) (count root k : ℕ) : Type 0 where
  pub lowest : ℕ
  pub highest : ℕ
  pub is : rated_of P count root ≡ Ok (Some (lowest, highest))
  pub below : highest < k

-- only true is read as a fit
fit_of_lem : (b : Bool) → fitting b ≡ Ok true → b ≡ true
fit_of_lem true e = refl
fit_of_lem false e = let z : ◌≡◌ {A = ℕ} 0 1 = cc in absurd (omega arith)

module _ (P : Pool) (count root k : ℕ) where
  by_range : (q : Result (Option (ℕ × ℕ)) NoTree) → rated_of P count root ≡ q → fit_from q k ≡ Ok true → Ranged P count root k
  by_range (Ok (Some (l, h))) e f = record { lowest = l; highest = h; is = e; below = ltb-true h k (fit_of_lem _ f) }
  by_range (Ok None) e f = let z : ◌≡◌ {A = ℕ} 0 1 = cc in absurd (omega arith)
  by_range (Err q) e f = let z : ◌≡◌ {A = ℕ} 0 1 = cc in absurd (omega arith)

  pub fits_ranged : fit_of P count root k ≡ Ok true → Ranged P count root k
  fits_ranged f = by_range (rated_of P count root) refl (sym (fit_from_lem P count root k) ∙ f)
