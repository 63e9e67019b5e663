-- Tests: the two cases of one, and what two joined by && say. Assumes nothing.
use Prim.Native.Nat.{ℕ}
use mathlib.Core.Path.{◌≡◌, refl}
use mathlib.Core.Bool.{Bool, true, false, ◌&&◌}
use native.Mathlib.Omega.{arith}

pub never : false ≡ true → ⊥
never e = let z : ◌≡◌ {A = ℕ} 0 1 = cc in omega arith

pub taken {ℓ} : {A : Type ℓ} {b : Bool} (x y : A) → b ≡ true → ◌≡◌ {A = A} (elim b [ true ↦ x | false ↦ y ]) x
taken x y e = rw e

pub left {ℓ} : {A : Type ℓ} {b : Bool} (x y : A) → b ≡ false → ◌≡◌ {A = A} (elim b [ true ↦ x | false ↦ y ]) y
left x y e = rw e

pub by_test {ℓ} : (P : Type ℓ) (b : Bool) → (b ≡ true → P) → (b ≡ false → P) → P
by_test P true f g = f refl
by_test P false f g = g refl

pub and_none : (x : Bool) → (x && false) ≡ false
and_none true = refl
and_none false = refl

pub and_left : (x y : Bool) → (x && y) ≡ true → x ≡ true
and_left true y e = refl
and_left false y e = e

pub and_right : (x y : Bool) → (x && y) ≡ true → y ≡ true
and_right true y e = e
and_right false y e = absurd (never e)

pub and_assoc : (x y z : Bool) → ((x && y) && z) ≡ (x && (y && z))
and_assoc true y z = refl
and_assoc false y z = refl
