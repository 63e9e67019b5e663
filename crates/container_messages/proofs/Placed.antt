-- An error with its place put to it. Assumes nothing.
use Prim.Native.Nat.{ℕ}
use mathlib.Core.Path.{◌≡◌, refl}
use native.Mathlib.Omega.{arith}
use Rattle.std.specs.Prelude.{Result, Ok, Err}
use Rattle.std.specs.Result.{MatchResult}
use Rattle.refusal.specs.declared.Error.{Error}
use Rattle.refusal.specs.declared.Refusal.{Refusal}

-- what a stage answered, where its answer with the place is an error or is none
pub err_told : {T : Type 0} (x : Refusal) (q : Result T Error) (Q : Error → Type 0) → MatchResult q (λ y. ◌≡◌ {A = Result T Refusal} (Err x) (Ok y)) Q → (e : Error) × (q ≡ Err e) × Q e
err_told x (Ok y) Q h = absurd (let z : ◌≡◌ {A = ℕ} 0 1 = cc in omega arith)
err_told x (Err e) Q h = (e, refl, h)

pub ok_told : {T : Type 0} (x : T) (q : Result T Error) (Q : Error → Type 0) → MatchResult q (λ y. ◌≡◌ {A = Result T Refusal} (Ok x) (Ok y)) Q → ((e : Error) → Q e → ⊥) → q ≡ Ok x
ok_told x (Ok y) Q h n = cc
ok_told x (Err e) Q h n = absurd (n e h)
