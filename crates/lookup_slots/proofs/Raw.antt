-- The hash without remainders, and that of the first bytes of a text. Assumes nothing.
use Prim.Native.Nat.{ℕ, zero, suc, ◌+◌, ◌*◌, ◌/◌, ◌%◌, ◌^◌, ◌<◌, ◌≤◌}
use mathlib.Core.Path.{◌≡◌, refl, sym, ap, ◌∙◌}
use mathlib.Core.List.{List, [], ◌∷◌, ◌++◌}
use native.Mathlib.Omega.{arith}
use native.Mathlib.Nat.{add-mul-mod_self_right, mod-mod, mul_assoc, pow-succ', zero-add, suc-add}
use lib.ListN.{length, get_or, drop, replicate}
use lib.Seq.{get_or-drop, drop-drop}
use Rattle.lookup_slots.specs.Hash.{hash_from}
use Rattle.lookup_slots.specs.Private.{adds}

unfoldable pub raw : ℕ → List ℕ → ℕ
raw h [] = h
raw h (b ∷ s) = raw (h * 33 + b) s

reduced : (x b : ℕ) → (x * 33 + b) % 4294967296 ≡ (x % 4294967296 * 33 + b) % 4294967296
reduced x b =
    let z : x * 33 + b ≡ (x % 4294967296 * 33 + b) + (x / 4294967296 * 33) * 4294967296 = omega arith in
    ap (λ (n : ℕ). n % 4294967296) z ∙ add-mul-mod_self_right (x % 4294967296 * 33 + b) (x / 4294967296 * 33) 4294967296

pub raw_same : (x y : ℕ) (s : List ℕ) → x % 4294967296 ≡ y % 4294967296 → raw x s % 4294967296 ≡ raw y s % 4294967296
unfolding raw
raw_same x y [] e = e
raw_same x y (b ∷ s) e =
    raw_same (x * 33 + b) (y * 33 + b) s (reduced x b ∙ ap (λ (n : ℕ). (n * 33 + b) % 4294967296) e ∙ sym (reduced y b))

pub hash_raw : (h : ℕ) (s : List ℕ) → h < 4294967296 → hash_from h s ≡ raw h s % 4294967296
unfolding raw hash_from
hash_raw h [] l = omega arith
hash_raw h (b ∷ s) l =
    hash_raw ((h * 33 + b) % 4294967296) s (omega arith)
    ∙ raw_same ((h * 33 + b) % 4294967296) (h * 33 + b) s (mod-mod (h * 33 + b) 4294967296)

-- the hash of the first n bytes after h: what came before counts by a power of 33, and zeros before add nothing
unfoldable pub part : ℕ → ℕ → List ℕ → ℕ
part h zero s = h
part h (suc n) s = part (h * 33 + get_or s 0 0) n (drop 1 s)

pub raw_part : (h n : ℕ) (s : List ℕ) → n ≤ length s → raw h s ≡ raw (part h n s) (drop n s)
unfolding raw part
raw_part h zero s l = refl
raw_part h (suc n) [] l = absurd (omega arith)
raw_part h (suc n) (b ∷ s) l = raw_part (h * 33 + b) n s (omega arith)

pub part_power : (h g n : ℕ) {f : ℕ} (s : List ℕ) → f ≡ h + g → part f n s ≡ h * 33 ^ n + part g n s
unfolding part
part_power h g zero s e = omega arith
part_power h g (suc n) s e = part_power (h * 33) (g * 33 + get_or s 0 0) n (drop 1 s) (omega arith) ∙ rw (pow-succ', mul_assoc)

pub part_zeros : (k n : ℕ) (s : List ℕ) → part 0 (k + n) (replicate k 0 ++ s) ≡ part 0 n s
unfolding part
part_zeros zero n s = rw (zero-add n)
part_zeros (suc k) n s = rw (suc-add k n) (part_zeros k n s)

pub part_eight : (s : List ℕ)
    → part 0 8 s ≡ adds (get_or s 0 0) (get_or s 1 0) (get_or s 2 0) (get_or s 3 0) (get_or s 4 0) (get_or s 5 0) (get_or s 6 0) (get_or s 7 0)
unfolding part adds
part_eight s = simp (drop-drop, get_or-drop) (omega arith)
