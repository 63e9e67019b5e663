-- A test and its two branches: where the test is known, so is the branch.
use mathlib.Core.Path.{◌≡◌, refl}
use mathlib.Core.Bool.{Bool, true, false, ◌&&◌, false≢true}

pub taken_if : {A : Type 0} {b : Bool} (x y : A) → b ≡ true → elim b [ true ↦ x | false ↦ y ] ≡ x
taken_if x y e = rw e

pub left_if : {A : Type 0} {b : Bool} (x y : A) → b ≡ false → elim b [ true ↦ x | false ↦ y ] ≡ y
left_if x y e = rw e

pub both : (x y : Bool) → (x && y) ≡ true → (x ≡ true) × (y ≡ true)
both true true e = (refl, refl)
both true false e = (refl, e)
both false y e = (e, absurd (false≢true e))
