-- The slots used are the smallest power of two that is enough, and the only one. Assumes nothing.
use Prim.Native.Nat.{ℕ, zero, suc, ◌*◌, ◌^◌, ◌<◌, ◌≤◌}
use mathlib.Core.Path.{◌≡◌, refl}
use native.Mathlib.Omega.{arith}
use native.Mathlib.Nat.{two-pow-succ, one-le-pow}
use lib.Dec.{leb}
use borrow.Author.Tests.{leb-true, leb-false}
use Rattle.text.proofs.Tests.{taken, left, by_test}
use Rattle.lookup_slots.specs.Used.{used, Smallest}

pub power_positive : (d : ℕ) → 0 < 2 ^ d
power_positive d = one-le-pow d 2 (omega arith)

-- a power of two above another is at least twice it
pub power_twice : (a d : ℕ) → 2 ^ a < 2 ^ d → 2 * 2 ^ a ≤ 2 ^ d
power_twice a zero h = absurd (omega (arith, power_positive a))
power_twice zero (suc d) h = omega (arith, power_positive d, two-pow-succ d)
power_twice (suc a) (suc d) h = omega (arith, two-pow-succ a, two-pow-succ d, power_twice a d (omega (arith, two-pow-succ a, two-pow-succ d)))

-- twice as many are the smallest for a larger count, where the smallest for a smaller one are too few
pub smallest_twice : {n m : ℕ} (c : ℕ) → Smallest n m → n ≤ c → m < 2 * c → (2 * c ≤ 2 * m) → Smallest c (2 * m)
smallest_twice {n} {m} c s h k e = record {
  power = suc s.power;
  is = omega (arith, s.is, two-pow-succ s.power);
  enough = e;
  least =
      λ d l.
      let a : m ≤ 2 ^ d = s.least d (omega arith) in
      let b : 2 ^ s.power < 2 ^ d = omega (arith, s.is) in
      omega (arith, s.is, power_twice s.power d b);
}

pub used_smallest : (n : ℕ) → Smallest n (used n)
unfolding used
used_smallest zero = record { power = 0; is = refl; enough = omega arith; least = λ d h. power_positive d }
used_smallest (suc n) =
    let s = used_smallest n in
    by_test (Smallest (suc n) (used (suc n))) (leb (2 * suc n) (used n))
    (λ e.
    rw (taken (used n) (2 * used n) e)
    (record { power = s.power; is = s.is; enough = leb-true (2 * suc n) (used n) e; least = λ d h. s.least d (omega arith) }))
    (λ e.
    rw (left (used n) (2 * used n) e)
    (smallest_twice (suc n) s (omega arith) (leb-false (2 * suc n) (used n) e) (omega (arith, s.enough, s.is, power_positive s.power))))

pub smallest_one : {n a b : ℕ} → Smallest n a → Smallest n b → a ≡ b
smallest_one {n} {a} {b} s t =
    omega (arith, s.is, t.is, s.least t.power (omega (arith, t.is, t.enough)), t.least s.power (omega (arith, s.is, s.enough)))

-- there is always a slot left
pub used_more : (n : ℕ) → n < used n
used_more n = let s = used_smallest n in omega (arith, s.enough, s.is, power_positive s.power)
