-- A number in decimal digits, without the fuel of the definition. Assumes nothing.
use Prim.Native.Nat.{ℕ, zero, suc, ◌+◌, ◌*◌, ◌/◌, ◌%◌, ◌<◌, ◌≤◌}
use mathlib.Core.Path.{◌≡◌, ap, ◌∙◌}
use mathlib.Core.List.{List, [], ◌∷◌, ◌++◌}
use native.Mathlib.Omega.{arith}
use native.Mathlib.Nat.{div-add-mod}
use lib.Dec.{ltb}
use borrow.Author.Tests.{ltb-false, lt-ltb, le-ltb}
use Rattle.text.proofs.Tests.{by_test, taken, left}
use Rattle.rules_text.specs.Bracketed.{decimal, decimal_in}

pub split : (v : ℕ) → 10 * (v / 10) + v % 10 ≡ v
split v = div-add-mod v 10

same_fuel : (f g v : ℕ) → v < f → v < g → decimal_in f v ≡ decimal_in g v
unfolding decimal_in
same_fuel zero g v h k = absurd (omega arith)
same_fuel (suc f) zero v h k = absurd (omega arith)
same_fuel (suc f) (suc g) v h k =
    by_test (decimal_in (suc f) v ≡ decimal_in (suc g) v) (ltb v 10)
    (λ e. rw (e, decimal_in))
    (λ e.
    rw (e, decimal_in) (ap (λ (s : List ℕ). s ++ (48 + v % 10) ∷ [])
    (same_fuel f g (v / 10) (omega (arith, split v, ltb-false v 10 e)) (omega (arith, split v, ltb-false v 10 e)))))

pub decimal_short : (v : ℕ) → v < 10 → decimal v ≡ (48 + v) ∷ []
unfolding decimal decimal_in
decimal_short v h = taken _ _ (lt-ltb v 10 h)

pub decimal_long : (v : ℕ) → 10 ≤ v → decimal v ≡ decimal (v / 10) ++ (48 + v % 10) ∷ []
unfolding decimal decimal_in
decimal_long v h =
    left _ _ (le-ltb v 10 h)
    ∙ ap (λ (s : List ℕ). s ++ (48 + v % 10) ∷ []) (same_fuel v (suc (v / 10)) (v / 10) (omega (arith, split v)) (omega arith))
