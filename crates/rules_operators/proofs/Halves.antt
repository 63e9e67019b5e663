-- A product modulo 2^64 by the halves of its factors. Assumes nothing.
use Rattle.std.proofs.Common.{◌≡◌, ℕ, ◌+◌, ◌*◌, ◌/◌, ◌%◌, ◌^◌, ◌<◌, sym, ap, ◌∙◌, ap₂, mul_assoc, mul_comm, add-mul, mul-le-mul, mul-add, mul_left_comm, arith}
use native.Mathlib.Nat.{add-mul-mod_self_right, mod-add-div'}

-- the product of two halves is a number of 64 bits
pub small : (a b : ℕ) → a < 4294967296 → b < 4294967296 → a * b < 2 ^ 64
small a b h k = let m = mul-le-mul {n₁ = a} {m₁ = b} {n₂ = 4294967295} {m₂ = 4294967295} (omega arith) (omega arith) in omega arith

expand : (a b c d : ℕ) → (a + b * 4294967296) * (c + d * 4294967296) ≡ a * c + (b * c + a * d) * 4294967296 + b * d * 18446744073709551616
expand a b c d =
    let M : ℕ = 4294967296 in
    let e1 = add-mul a (b * M) (c + d * M) in
    let e2 = mul-add a c (d * M) in
    let e3 = mul_assoc a d M in
    let e4 = mul-add (b * M) c (d * M) in
    let e5 : b * M * c ≡ b * c * M = mul_assoc b M c ∙ ap (λ (z : ℕ). b * z) (mul_comm M c) ∙ sym (mul_assoc b c M) in
    let e6 : b * M * (d * M) ≡ b * d * (M * M) = mul_assoc b M (d * M) ∙ ap (λ (z : ℕ). b * z) (mul_left_comm M d M) ∙ sym (mul_assoc b d (M * M)) in
    omega (arith, e1, e2, e3, e4, e5, e6)

halves : (x : ℕ) → x ≡ x % 4294967296 + x / 4294967296 * 4294967296
halves x = sym (mod-add-div' x 4294967296)

pub product : (x y u r : ℕ) → u ≡ (x / 4294967296 * (y % 4294967296) + x % 4294967296 * (y / 4294967296)) % 2 ^ 64
    → r ≡ (x % 4294967296 * (y % 4294967296) + u % 4294967296 * 4294967296) % 2 ^ 64 → r ≡ (x * y) % 2 ^ 64
product x y u r e f =
    let c = x % 4294967296 * (y % 4294967296) in
    let w = x / 4294967296 * (y % 4294967296) + x % 4294967296 * (y / 4294967296) in
    let d = x / 4294967296 * (y / 4294967296) in
    let z : x * y ≡ c + w * 4294967296 + d * 18446744073709551616 = ap₂ (λ (p q : ℕ). p * q) (halves x) (halves y) ∙ expand (x % 4294967296) (x / 4294967296) (y % 4294967296) (y / 4294967296) in
    let v : u % 4294967296 ≡ w % 4294967296 = omega (arith, e) in
    let g : c + w * 4294967296 + d * 18446744073709551616 ≡ c + w % 4294967296 * 4294967296 + (w / 4294967296 + d) * 18446744073709551616 = omega arith in
    f ∙ ap (λ (q : ℕ). (c + q * 4294967296) % 18446744073709551616) v
    ∙ sym (add-mul-mod_self_right (c + w % 4294967296 * 4294967296) (w / 4294967296 + d) 18446744073709551616)
    ∙ ap (λ (q : ℕ). q % 18446744073709551616) (sym (z ∙ g))
