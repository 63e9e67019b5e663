-- The slots used, as the library finds them, and whether so many are lent. Assumes nothing.
use Prim.Native.Nat.{ℕ, ◌-◌, ◌*◌, ◌/◌, ◌^◌, ◌<◌, ◌≤◌}
use mathlib.Core.Path.{◌≡◌, sym, ap, ◌∙◌}
use native.Mathlib.Omega.{arith}
use lib.Count.{count_leading_zeros, leading_length}
use lib.Pow.{pow_mono}
use lib.Dec.{leb}
use borrow.Author.Tests.{le-leb, lt-leb, leb-true, leb-false}
use Rattle.text.proofs.Tests.{taken, left, by_test}
use Rattle.lookup_slots.specs.Used.{used}
use Rattle.lookup_slots.specs.Promise.{room_in}
use Rattle.std.specs.Prelude.{Some, None, max}
use Rattle.std.specs.Int.{IsPowerOfTwo}
use Rattle.lookup_slots.proofs.Used.{power_positive, power_twice, used_smallest, smallest_one}

module _ (count lent : ℕ) where
  pub too_few : lent < used count → None ≡ room_in count lent
  unfolding room_in
  too_few h = sym (left (Some (used count)) None (lt-leb (used count) lent h))

  pub enough : {r : ℕ} → r ≡ used count → r ≤ lent → Some r ≡ room_in count lent
  unfolding room_in
  enough {r} e h = ap Some e ∙ sym (taken (Some (used count)) None (le-leb (used count) lent (omega arith)))

-- the least power of two that is at least twice a count
pub next_used : (count : ℕ) {r : ℕ} → IsPowerOfTwo r → 2 * count ≤ r → r / 2 < max 1 (2 * count) → r ≡ used count
next_used count {r} p l u = smallest_one (record { power = p.0; is = p.1; enough = l; least = least }) (used_smallest count)
  where
    least : (d : ℕ) → 2 * count ≤ 2 ^ d → r ≤ 2 ^ d
    least d h =
        by_test (r ≤ 2 ^ d) (leb r (2 ^ d)) (λ e. leb-true r (2 ^ d) e)
        (λ e.
        let t : 2 * 2 ^ d ≤ 2 ^ p.0 = power_twice d p.0 (omega (arith, p.1, leb-false r (2 ^ d) e)) in
        absurd (omega (arith, p.1, power_positive d)))

-- a number that leaves the top bit free has less than 64 bits
pub bits_below : (n : ℕ) → n < 9223372036854775808 → 64 - count_leading_zeros 64 n < 64
bits_below n h =
    let w = leading_length 64 n (omega arith) in
    by_test (64 - count_leading_zeros 64 n < 64) (leb 64 w.0)
    (λ e. absurd (omega (arith, w.3, pow_mono (leb-true 64 w.0 e))))
    (λ e. omega (arith, w.1, leb-false 64 w.0 e))
