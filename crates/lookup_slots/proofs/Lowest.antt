-- The least of bytes side by side: all of them are 5 or more exactly if the bytes are. Assumes nothing.
use Prim.Native.Nat.{ℕ, zero, suc, ◌+◌, ◌-◌, ◌<◌, ◌≤◌}
use mathlib.Core.Path.{◌≡◌}
use mathlib.Core.List.{List}
use native.Mathlib.Omega.{arith}
use native.Mathlib.Nat.{add-zero, le_trans}
use lib.ListN.{get_or}
use Rattle.std.specs.Prelude.{min}
use Rattle.lookup_slots.specs.Private.{Plain, Above, Lowers}
use Rattle.lookup_slots.specs.declared.Least.{Least}

-- the lesser of two is at least a number exactly if both are
pub record Lesser (a b r : ℕ) : Type 0 where
  pub first : r ≤ a
  pub second : r ≤ b
  pub most : (k : ℕ) → k ≤ a → k ≤ b → k ≤ r

pub lesser : (a b : ℕ) {r : ℕ} → r ≡ min a b → Lesser a b r
lesser a b e = record { first = omega arith; second = omega arith; most = λ k l m. omega arith }

-- before any byte
pub high : Above (record { a = 255; b = 255; c = 255; d = 255; e = 255; f = 255; g = 255; h = 255 })
high = record {
  a = omega arith;
  b = omega arith;
  c = omega arith;
  d = omega arith;
  e = omega arith;
  f = omega arith;
  g = omega arith;
  h = omega arith;
}

-- eight places one after another
each_eight : (P : ℕ → Type 0) → P 0 → P 1 → P 2 → P 3 → P 4 → P 5 → P 6 → P 7 → (k : ℕ) → k < 8 → P k
each_eight P a b c d e f g h zero l = a
each_eight P a b c d e f g h (suc zero) l = b
each_eight P a b c d e f g h (suc (suc zero)) l = c
each_eight P a b c d e f g h (suc (suc (suc zero))) l = d
each_eight P a b c d e f g h (suc (suc (suc (suc zero)))) l = e
each_eight P a b c d e f g h (suc (suc (suc (suc (suc zero))))) l = f
each_eight P a b c d e f g h (suc (suc (suc (suc (suc (suc zero)))))) l = g
each_eight P a b c d e f g h (suc (suc (suc (suc (suc (suc (suc zero))))))) l = h
each_eight P a b c d e f g h (suc (suc (suc (suc (suc (suc (suc (suc k)))))))) l = absurd (omega arith)

abbrev Byte : List ℕ → ℕ → Type 0
Byte s j = 5 ≤ get_or s j 0

module _ (s : List ℕ) (i : ℕ) where
  from_eight : Byte s i → Byte s (i + 1) → Byte s (i + 2) → Byte s (i + 3) → Byte s (i + 4) → Byte s (i + 5) → Byte s (i + 6) → Byte s (i + 7)
      → Plain s i (i + 8)
  from_eight a b c d e f g h j k l =
      let z : i + (j - i) ≡ j = omega arith in
      let y : Byte s (i + 0) = rw (add-zero i) a in
      rw z at (each_eight (λ n. Byte s (i + n)) y b c d e f g h (j - i) (omega arith))

  pub lowers : {z r : Least}
      → Lesser z.a (get_or s i 0) r.a
      → Lesser z.b (get_or s (i + 1) 0) r.b
      → Lesser z.c (get_or s (i + 2) 0) r.c
      → Lesser z.d (get_or s (i + 3) 0) r.d
      → Lesser z.e (get_or s (i + 4) 0) r.e
      → Lesser z.f (get_or s (i + 5) 0) r.f
      → Lesser z.g (get_or s (i + 6) 0) r.g
      → Lesser z.h (get_or s (i + 7) 0) r.h
      → Lowers z s i r
  lowers a b c d e f g h = record {
    before = λ u. record {
      a = le_trans u.a a.first;
      b = le_trans u.b b.first;
      c = le_trans u.c c.first;
      d = le_trans u.d d.first;
      e = le_trans u.e e.first;
      f = le_trans u.f f.first;
      g = le_trans u.g g.first;
      h = le_trans u.h h.first;
    };
    told = λ u.
        from_eight (le_trans u.a a.second) (le_trans u.b b.second) (le_trans u.c c.second) (le_trans u.d d.second)
        (le_trans u.e e.second) (le_trans u.f f.second) (le_trans u.g g.second) (le_trans u.h h.second);
    kept = λ u p. record {
      a = a.most 5 u.a (p i (omega arith) (omega arith));
      b = b.most 5 u.b (p (i + 1) (omega arith) (omega arith));
      c = c.most 5 u.c (p (i + 2) (omega arith) (omega arith));
      d = d.most 5 u.d (p (i + 3) (omega arith) (omega arith));
      e = e.most 5 u.e (p (i + 4) (omega arith) (omega arith));
      f = f.most 5 u.f (p (i + 5) (omega arith) (omega arith));
      g = g.most 5 u.g (p (i + 6) (omega arith) (omega arith));
      h = h.most 5 u.h (p (i + 7) (omega arith) (omega arith));
    };
  }
