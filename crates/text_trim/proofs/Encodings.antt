-- What trimming has from the encodings of the three sets, shown by computing: no encoding begins another, and none begins inside another.
-- Assumes nothing.
use Prim.Native.Nat.{ℕ, zero, suc, ◌+◌, ◌<◌, ◌≤◌}
use mathlib.Core.Path.{◌≡◌, refl, sym, ap, ◌∙◌}
use mathlib.Core.Bool.{Bool, true, false, not, ◌&&◌, ◌||◌}
use mathlib.Core.List.{List, [], ◌∷◌, ◌++◌}
use native.Mathlib.Omega.{arith}
use lib.Dec.{ltb, leb, eqb}
use lib.ListN.{length, get_or, drop, get_or-append}
use lib.Seq.{get_or-append-add}
use borrow.Author.Tests.{eqb-true, eq-eqb, ltb-true, leb-true, leb-false}
use Rattle.text.specs.Bytes.{within, begins, same}
use Rattle.text_utf8.specs.Scalar.{encode}
use Rattle.text_utf8.specs.Utf8.{tail}
use Rattle.text.proofs.Tests.{never, by_test, and_left, and_right}
use Rattle.text.proofs.Same.{same_true}
use Rattle.text_trim.specs.Trim.{Chars, chars_of, In, here, there}
use Rattle.text_trim.specs.declared.Set.{Set}
use Rattle.text_trim.specs.declared.Set.TheVariants.{WhiteSpace, Six, Label}

-- a text begins with what stands before another
pub begins_first : (e t : List ℕ) → begins e (e ++ t) ≡ true
unfolding begins
begins_first [] t = refl
begins_first (b ∷ e) t = rw (eq-eqb b b refl) (begins_first e t)

pub begins_split : (e s : List ℕ) → begins e s ≡ true → s ≡ e ++ drop (length e) s
unfolding begins
begins_split [] s h = refl
begins_split (b ∷ e) [] h = absurd (never h)
begins_split (b ∷ e) (c ∷ s) h =
    let p : b ≡ c = eqb-true b c (and_left (eqb b c) (begins e s) h) in
    let q : s ≡ e ++ drop (length e) s = begins_split e s (and_right (eqb b c) (begins e s) h) in
    rw p (ap (λ (l : List ℕ). c ∷ l) q)

begins_shorter : (d e s t : List ℕ) → d ++ s ≡ e ++ t → length d ≤ length e → begins d e ≡ true
unfolding begins
begins_shorter [] e s t q h = refl
begins_shorter (b ∷ d) [] s t q h = absurd (omega arith)
begins_shorter (b ∷ d) (c ∷ e) s t q h =
    let p : b ≡ c = cc in
    let r : d ++ s ≡ e ++ t = cc in
    rw (p, eq-eqb c c refl) (begins_shorter d e s t r (omega arith))

-- ASCII but 0, or a first byte of several and one or two more
abbrev shape : List ℕ → Bool
shape [] = false
shape (a ∷ []) = ltb 0 a && ltb a 0x80
shape (a ∷ b ∷ []) = ltb 0xBF a && within tail b
shape (a ∷ b ∷ c ∷ []) = ltb 0xBF a && (within tail b && within tail c)
shape (a ∷ b ∷ c ∷ d ∷ e) = false

abbrev pub each : (List ℕ → Bool) → Chars → Bool
each f [] = true
each f (e ∷ cs) = f e && each f cs

pub each_at : (f : List ℕ → Bool) (cs : Chars) → each f cs ≡ true → {e : List ℕ} → In e cs → f e ≡ true
each_at f (d ∷ cs) h (here p) = rw p (and_left (f d) (each f cs) h)
each_at f (d ∷ cs) h (there i) = each_at f cs (and_right (f d) (each f cs) h) i
each_at f [] h {e = e} x'' = elim x'' [ ]

abbrev other : List ℕ → List ℕ → Bool
other d e = not (begins d e) || same d e

pub record Code (cs : Chars) : Type 0 where
  pub shaped : each shape cs ≡ true
  pub free : each (λ d. each (other d) cs) cs ≡ true

pub code : (set : Set) → Code (chars_of set)
unfolding encode begins same
code WhiteSpace = record { shaped = refl; free = refl }
code Six = record { shaped = refl; free = refl }
code Label = record { shaped = refl; free = refl }

-- the bytes of an encoding, as numbers
pub data Shape : List ℕ → Type 0 where
  one : (a : ℕ) → 0 < a → a < 0x80 → Shape (a ∷ [])
  two : (a b : ℕ) → 0xBF < a → 0x80 ≤ b → b ≤ 0xBF → Shape (a ∷ b ∷ [])
  three : (a b c : ℕ) → 0xBF < a → 0x80 ≤ b → b ≤ 0xBF → 0x80 ≤ c → c ≤ 0xBF → Shape (a ∷ b ∷ c ∷ [])

lowest : (b : ℕ) → within tail b ≡ true → 0x80 ≤ b
lowest b h = leb-true 0x80 b (and_left (leb 0x80 b) (leb b 0xBF) h)

highest : (b : ℕ) → within tail b ≡ true → b ≤ 0xBF
highest b h = leb-true b 0xBF (and_right (leb 0x80 b) (leb b 0xBF) h)

shape_is : (e : List ℕ) → shape e ≡ true → Shape e
shape_is [] h = absurd (never h)
shape_is (a ∷ []) h = one a (ltb-true 0 a (and_left (ltb 0 a) (ltb a 0x80) h)) (ltb-true a 0x80 (and_right (ltb 0 a) (ltb a 0x80) h))
shape_is (a ∷ b ∷ []) h =
    let x = and_left (ltb 0xBF a) (within tail b) h in
    let y = and_right (ltb 0xBF a) (within tail b) h in
    two a b (ltb-true 0xBF a x) (lowest b y) (highest b y)
shape_is (a ∷ b ∷ c ∷ []) h =
    let x = and_left (ltb 0xBF a) (within tail b && within tail c) h in
    let y = and_right (ltb 0xBF a) (within tail b && within tail c) h in
    let u = and_left (within tail b) (within tail c) y in
    let v = and_right (within tail b) (within tail c) y in
    three a b c (ltb-true 0xBF a x) (lowest b u) (highest b u) (lowest c v) (highest c v)
shape_is (a ∷ b ∷ c ∷ d ∷ e) h = absurd (never h)

head_out : {e : List ℕ} → Shape e → 0x80 ≤ get_or e 0 0 → get_or e 0 0 ≤ 0xBF → ⊥
head_out (one a h k) x y = omega arith
head_out (two a b h k l) x y = omega arith
head_out (three a b c h k l m n) x y = omega arith

-- the bytes of an encoding after its first
record Later (b : ℕ) : Type 0 where
  low : 0x80 ≤ b
  high : b ≤ 0xBF

rest_in : {e : List ℕ} → Shape e → (i : ℕ) → 0 < i → i < length e → Later (get_or e i 0)
rest_in s zero h k = absurd (omega arith)
rest_in (one a x y) (suc i) h k = absurd (omega arith)
rest_in (two a b x y z) (suc zero) h k = record { low = y; high = z }
rest_in (two a b x y z) (suc (suc i)) h k = absurd (omega arith)
rest_in (three a b c x y z u v) (suc zero) h k = record { low = y; high = z }
rest_in (three a b c x y z u v) (suc (suc zero)) h k = record { low = u; high = v }
rest_in (three a b c x y z u v) (suc (suc (suc i))) h k = absurd (omega arith)

module _ {cs : Chars} (k : Code cs) where
  pub shape_of : {e : List ℕ} → In e cs → Shape e
  shape_of {e} i = shape_is e (each_at shape cs k.shaped i)

  pub solid : {e : List ℕ} → In e cs → 0 < length e
  solid {e} i = go (shape_of i)
    where
      go : {l : List ℕ} → Shape l → 0 < length l
      go (one a x y) = omega arith
      go (two a b x y z) = omega arith
      go (three a b c x y z u v) = omega arith

  no_start : {d e : List ℕ} → In d cs → In e cs → begins d e ≡ true → d ≡ e
  no_start {d} {e} i j h = same_true d e (rw h at (each_at (other d) cs (each_at (λ d. each (other d) cs) cs k.free i) j))

  -- no encoding begins another
  pub prefix : {d e : List ℕ} (s t : List ℕ) → In d cs → In e cs → d ++ s ≡ e ++ t → d ≡ e
  prefix {d} {e} s t i j q =
      by_test (d ≡ e) (leb (length d) (length e))
      (λ h. no_start i j (begins_shorter d e s t q (leb-true (length d) (length e) h)))
      (λ h. sym (no_start j i (begins_shorter e d t s (sym q) (omega (arith, leb-false (length d) (length e) h)))))

  -- none begins inside another
  pub apart : {d e : List ℕ} (s t u : List ℕ) → In d cs → In e cs → d ++ s ≡ u ++ (e ++ t) → 0 < length u → length u < length d → ⊥
  apart {d} {e} s t u i j q h l =
      let p : get_or d (length u) 0 ≡ get_or e 0 0 = sym (get_or-append d s 0 (length u) l) ∙ ap (λ (x : List ℕ). get_or x (length u) 0) q ∙ seam ∙ get_or-append e t 0 0 (solid j) in
      let r = rest_in (shape_of i) (length u) h l in
      head_out (shape_of j) (omega (arith, r.low)) (omega (arith, r.high))
    where
      seam : get_or (u ++ (e ++ t)) (length u) 0 ≡ get_or (e ++ t) 0 0
      seam = let z : length u + 0 ≡ length u = omega arith in rw z at (get_or-append-add u (e ++ t) 0 0)
