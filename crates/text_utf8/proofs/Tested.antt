-- Rules that are shown by computing: a test that passes at every number below a bound, and the tests that two bytes' lists are the same.
-- Assumes nothing.
use Prim.Native.Nat.{ℕ, zero, suc, ◌<◌}
use mathlib.Core.Path.{◌≡◌, refl, ap}
use mathlib.Core.Bool.{Bool, true, false, ◌&&◌}
use mathlib.Core.List.{List, [], ◌∷◌}
use mathlib.Core.Option.{Option, none, some}
use native.Mathlib.Omega.{arith}
use lib.Dec.{eqb, ltb}
use borrow.Author.Tests.{eqb-true, ltb-true, ltb-false}
use Rattle.text.proofs.Tests.{never, by_test, and_left, and_right}
use Rattle.text_utf8.specs.Utf8.{Bytes}

abbrev pub below : ℕ → (ℕ → Bool) → Bool
below zero f = true
below (suc k) f = f k && below k f

pub below_at : (k : ℕ) (f : ℕ → Bool) → below k f ≡ true → (i : ℕ) → i < k → f i ≡ true
below_at zero f e i h = absurd (omega arith)
below_at (suc k) f e i h =
    by_test (f i ≡ true) (ltb i k)
    (λ t. below_at k f (and_right (f k) (below k f) e) i (ltb-true i k t))
    (λ t. let z : i ≡ k = omega (arith, ltb-false i k t) in rw (z) (and_left (f k) (below k f) e))

abbrev same_bytes : List Bytes → List Bytes → Bool
same_bytes [] [] = true
same_bytes [] (r ∷ rs) = false
same_bytes (q ∷ qs) [] = false
same_bytes (q ∷ qs) (r ∷ rs) = eqb q.0 r.0 && (eqb q.1 r.1 && same_bytes qs rs)

bytes_same : (qs rs : List Bytes) → same_bytes qs rs ≡ true → qs ≡ rs
bytes_same [] [] e = refl
bytes_same [] (r ∷ rs) e = absurd (never e)
bytes_same (q ∷ qs) [] e = absurd (never e)
bytes_same ((x, y) ∷ qs) ((u, v) ∷ rs) e =
    let a : x ≡ u = eqb-true x u (and_left (eqb x u) (eqb y v && same_bytes qs rs) e) in
    let f = and_right (eqb x u) (eqb y v && same_bytes qs rs) e in
    let b : y ≡ v = eqb-true y v (and_left (eqb y v) (same_bytes qs rs) f) in
    let d : qs ≡ rs = bytes_same qs rs (and_right (eqb y v) (same_bytes qs rs) f) in
    rw (a, b, d)

abbrev pub same_state : Option (List Bytes) → Option (List Bytes) → Bool
same_state none none = true
same_state none (some rs) = false
same_state (some qs) none = false
same_state (some qs) (some rs) = same_bytes qs rs

pub state_same : (o p : Option (List Bytes)) → same_state o p ≡ true → o ≡ p
state_same none none e = refl
state_same none (some rs) e = absurd (never e)
state_same (some qs) none e = absurd (never e)
state_same (some qs) (some rs) e = ap some (bytes_same qs rs e)
