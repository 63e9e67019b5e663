-- The two definitions of UTF-8 agree: a text is right by the table of bytes (RFC 3629, section 4) exactly if it is a run of
-- encoded characters (section 3). Assumes nothing.
use Prim.Native.Nat.{ℕ, zero, suc, ◌+◌, ◌-◌, ◌*◌, ◌/◌, ◌<◌, ◌≤◌}
use mathlib.Core.Path.{◌≡◌, refl, sym, ap, subst⁻¹, ◌∙◌}
use mathlib.Core.Logic.{◌↔◌}
use mathlib.Core.Bool.{true, false, ◌&&◌}
use mathlib.Core.List.{List, [], ◌∷◌, ◌++◌}
use mathlib.Core.Option.{Option, none, some}
use native.Mathlib.Omega.{arith}
use lib.ListN.{length, take, drop}
use lib.Dec.{leb, ltb}
use borrow.Author.Tests.{lt-ltb, le-ltb, leb-true, ltb-true, ltb-false}
use Rattle.text.specs.Bytes.{within}
use Rattle.text_utf8.specs.Utf8.{Bytes, Row, tail, table, after, rest, utf8}
use Rattle.text_utf8.specs.Scalar.{Scalar, low, high, six, encode, Text, end, char}
use Rattle.text.proofs.Tests.{never, taken, left, by_test, and_left, and_right}
use Rattle.text.proofs.Bounds.{inside}
use Rattle.text_utf8.proofs.Rows.{row_at, ended}

-- the encoding of a character, by its range
module _ (c : ℕ) where
  one_byte : c < 0x80 → encode c ≡ c ∷ []
  unfolding encode
  one_byte h = taken _ _ (lt-ltb c 0x80 h)

  two_bytes : 0x80 ≤ c → c < 0x800 → encode c ≡ (0xC0 + c / 64) ∷ six c ∷ []
  unfolding encode
  two_bytes l h = left _ _ (le-ltb c 0x80 l) ∙ taken _ _ (lt-ltb c 0x800 h)

  three_bytes : 0x800 ≤ c → c < 0x10000 → encode c ≡ (0xE0 + c / 4096) ∷ six (c / 64) ∷ six c ∷ []
  unfolding encode
  three_bytes l h = left _ _ (le-ltb c 0x80 (omega arith)) ∙ left _ _ (le-ltb c 0x800 l) ∙ taken _ _ (lt-ltb c 0x10000 h)

  four_bytes : 0x10000 ≤ c → encode c ≡ (0xF0 + c / 262144) ∷ six (c / 4096) ∷ six (c / 64) ∷ six c ∷ []
  unfolding encode
  four_bytes l = left _ _ (le-ltb c 0x80 (omega arith)) ∙ left _ _ (le-ltb c 0x800 (omega arith)) ∙ left _ _ (le-ltb c 0x10000 l)

-- the bytes bs are those that have to follow
data Fit : List Bytes → List ℕ → Type 0 where
  none_left : Fit [] []
  next : {r : Bytes} {rs : List Bytes} {b : ℕ} {bs : List ℕ} → r.0 ≤ b → b ≤ r.1 → Fit rs bs → Fit (r ∷ rs) (b ∷ bs)

passes : {rs : List Bytes} {bs : List ℕ} → Fit rs bs → (s : List ℕ) → rest rs (bs ++ s) ≡ utf8 s
unfolding rest utf8
passes none_left s = refl
passes (next {r} {rs} {b} {bs} h k f) s = rw (inside r.0 r.1 b h k) (passes f s)

-- a character whose first byte begins a row, and whose other bytes are that row's
read : {rs : List Bytes} {bs : List ℕ} (b : ℕ) → after table b ≡ some rs → Fit rs bs → (s : List ℕ) → utf8 (b ∷ bs ++ s) ≡ utf8 s
unfolding rest utf8
read {bs = bs} b e f s = ap (λ (o : Option (List Bytes)). elim o [ none ↦ false | some rs ↦ rest rs (bs ++ s) ]) e ∙ passes f s

split : (P : Type 0) (a b : ℕ) → (a < b → P) → (b ≤ a → P) → P
split P a b f g = by_test P (ltb a b) (λ e. f (ltb-true a b e)) (λ e. g (ltb-false a b e))

highest : {c : ℕ} → Scalar c → c ≤ 0x10FFFF
highest (low h) = omega arith
highest (high h k) = k

no_surrogate : {c : ℕ} → Scalar c → c < 0xE000 → c < 0xD800
no_surrogate (low h) k = h
no_surrogate (high h l) k = absurd (omega arith)

-- the encoding of a character is a character by the table
module _ (c : ℕ) (s : List ℕ) where
  Read : Type 0
  Read = utf8 (encode c ++ s) ≡ utf8 s

  read_two : 0x80 ≤ c → c < 0x800 → Read
  unfolding Read
  read_two l h =
      rw (two_bytes c l h)
      (read _ (row_at (take 1 table) 0xC2 0xDF (tail ∷ []) (drop 2 table) (0xC0 + c / 64) refl (omega arith) (omega arith))
      (next (omega arith) (omega arith) none_left) s)

  -- the rows of three bytes, and of four, differ in the first byte and in the bounds of the second
  module _ (k lo hi : ℕ) (r : Bytes) where
    read_three : take k table ++ ((lo, hi), r ∷ tail ∷ []) ∷ drop (suc k) table ≡ table → ended lo (take k table) ≡ true → 0x800 ≤ c → c < 0x10000
        → (lo ≤ 0xE0 + c / 4096) × (0xE0 + c / 4096 ≤ hi) → (r.0 ≤ six (c / 64)) × (six (c / 64) ≤ r.1) → Read
    unfolding Read
    read_three t u l h e f =
        rw (three_bytes c l h)
        (read _ (ap (λ (rows : List Row). after rows (0xE0 + c / 4096)) (sym t) ∙ row_at (take k table) lo hi _ _ _ u e.0 e.1)
        (next f.0 f.1 (next (omega arith) (omega arith) none_left)) s)

    read_four : take k table ++ ((lo, hi), r ∷ tail ∷ tail ∷ []) ∷ drop (suc k) table ≡ table → ended lo (take k table) ≡ true → 0x10000 ≤ c
        → (lo ≤ 0xF0 + c / 262144) × (0xF0 + c / 262144 ≤ hi) → (r.0 ≤ six (c / 4096)) × (six (c / 4096) ≤ r.1) → Read
    unfolding Read
    read_four t u l e f =
        rw (four_bytes c l)
        (read _ (ap (λ (rows : List Row). after rows (0xF0 + c / 262144)) (sym t) ∙ row_at (take k table) lo hi _ _ _ u e.0 e.1)
        (next f.0 f.1 (next (omega arith) (omega arith) (next (omega arith) (omega arith) none_left))) s)

  encoded : Scalar c → utf8 (encode c ++ s) ≡ utf8 s
  unfolding Read
  encoded h =
      let top : c ≤ 0x10FFFF = highest h in
      let gap : c < 0xE000 → c < 0xD800 = no_surrogate h in
      split Read c 0x80 (λ l. rw (one_byte c l) (read c (row_at [] 0 0x7F [] (drop 1 table) c refl (omega arith) (omega arith)) none_left s))
      (λ g. split Read c 0x800 (λ l. read_two g l)
      (λ g. split Read c 0x1000 (λ l. read_three 2 0xE0 0xE0 (0xA0, 0xBF) refl refl g (omega arith) (omega arith, omega arith) (omega arith, omega arith))
      (λ i. split Read c 0xD000 (λ l. read_three 3 0xE1 0xEC tail refl refl g (omega arith) (omega arith, omega arith) (omega arith, omega arith))
      (λ i. split Read c 0xE000 (λ l. let m = gap l in read_three 4 0xED 0xED (0x80, 0x9F) refl refl g (omega arith) (omega arith, omega arith) (omega arith, omega arith))
      (λ i. split Read c 0x10000 (λ l. read_three 5 0xEE 0xEF tail refl refl g l (omega arith, omega arith) (omega arith, omega arith))
      (λ j. split Read c 0x40000 (λ l. read_four 6 0xF0 0xF0 (0x90, 0xBF) refl refl j (omega arith, omega arith) (omega arith, omega arith))
      (λ i. split Read c 0x100000 (λ l. read_four 7 0xF1 0xF3 tail refl refl j (omega arith, omega arith) (omega arith, omega arith))
      (λ i. read_four 8 0xF4 0xF4 (0x80, 0x8F) refl refl j (omega arith, omega arith) (omega arith, omega arith)))))))))

-- a run of encoded characters is right by the table
pub text_right : {s : List ℕ} → Text s → utf8 s ≡ true
unfolding utf8 rest
text_right end = refl
text_right (char c {s} h t) = encoded c s h ∙ text_right t

-- the other way: what the table lets follow a first byte, taken off a right text
record Taken (rs : List Bytes) (s : List ℕ) : Type 0 where
  bytes : List ℕ
  more : List ℕ
  is : s ≡ bytes ++ more
  fit : Fit rs bytes
  right : utf8 more ≡ true
  shorter : length more ≤ length s

take_off : (rs : List Bytes) (s : List ℕ) → rest rs s ≡ true → Taken rs s
unfolding utf8 rest
take_off [] s e = record { bytes = []; more = s; is = refl; fit = none_left; right = e; shorter = omega arith }
take_off (r ∷ rs) [] e = absurd (never e)
take_off (r ∷ rs) (b ∷ s) e =
    let w : (leb r.0 b && leb b r.1) ≡ true = and_left (within r b) (rest rs s) e in
    let t = take_off rs s (and_right (within r b) (rest rs s) e) in
    record {
      bytes = b ∷ t.bytes;
      more = t.more;
      is = ap (λ (l : List ℕ). b ∷ l) t.is;
      fit = next (leb-true r.0 b (and_left (leb r.0 b) (leb b r.1) w)) (leb-true b r.1 (and_right (leb r.0 b) (leb b r.1) w)) t.fit;
      right = t.right;
      shorter = omega (arith, t.shorter);
    }

-- the row that a first byte begins
data Among (b : ℕ) : List Bytes → List Row → Type 0 where
  here : {lo hi : ℕ} {rs : List Bytes} {rows : List Row} → lo ≤ b → b ≤ hi → Among b rs (((lo, hi), rs) ∷ rows)
  there : {rs : List Bytes} {first : Row} {rows : List Row} → Among b rs rows → Among b rs (first ∷ rows)

which : (rows : List Row) (b : ℕ) (rs : List Bytes) → after rows b ≡ some rs → Among b rs rows
which [] b rs e = let z : ◌≡◌ {A = ℕ} 0 1 = cc in absurd (omega arith)
which (((lo, hi), qs) ∷ rows) b rs e =
    by_test (Among b rs (((lo, hi), qs) ∷ rows)) (within (lo, hi) b)
    (λ t. let q : qs ≡ rs = cc (sym (taken (some qs) (after rows b) t) ∙ e) in
    rw q (here (leb-true lo b (and_left (leb lo b) (leb b hi) t)) (leb-true b hi (and_right (leb lo b) (leb b hi) t))))
    (λ t. there (which rows b rs (sym (left (some qs) (after rows b) t) ∙ e)))

record Decoded (bs : List ℕ) : Type 0 where
  c : ℕ
  scalar : Scalar c
  is : bs ≡ encode c

-- two, three and four bytes back to their character
from_two : (b p : ℕ) → 0xC2 ≤ b → b ≤ 0xDF → 0x80 ≤ p → p ≤ 0xBF → Decoded (b ∷ p ∷ [])
from_two b p l h i j =
    let v = (b - 0xC0) * 64 + (p - 0x80) in
    let e : 0xC0 + v / 64 ≡ b = omega arith in
    let f : six v ≡ p = omega arith in
    record { c = v; scalar = low (omega arith); is = sym (two_bytes v (omega arith) (omega arith) ∙ rw (e, f)) }

abbrev of_three : ℕ → ℕ → ℕ → ℕ
of_three b p q = (b - 0xE0) * 4096 + (p - 0x80) * 64 + (q - 0x80)

from_three : (b p q : ℕ) → 0xE0 ≤ b → b ≤ 0xEF → 0x80 ≤ p → p ≤ 0xBF → 0x80 ≤ q → q ≤ 0xBF → 0x800 ≤ of_three b p q → Scalar (of_three b p q) → Decoded (b ∷ p ∷ q ∷ [])
from_three b p q l h i j k m g s =
    let v = of_three b p q in
    let e : 0xE0 + v / 4096 ≡ b = omega arith in
    let f : six (v / 64) ≡ p = omega arith in
    let d : six v ≡ q = omega arith in
    record { c = v; scalar = s; is = sym (three_bytes v g (omega arith) ∙ rw (e, f, d)) }

abbrev of_four : ℕ → ℕ → ℕ → ℕ → ℕ
of_four b p q r = (b - 0xF0) * 262144 + (p - 0x80) * 4096 + (q - 0x80) * 64 + (r - 0x80)

from_four : (b p q r : ℕ) → 0xF0 ≤ b → b ≤ 0xF4 → 0x80 ≤ p → p ≤ 0xBF → 0x80 ≤ q → q ≤ 0xBF → 0x80 ≤ r → r ≤ 0xBF → 0x10000 ≤ of_four b p q r → of_four b p q r ≤ 0x10FFFF → Decoded (b ∷ p ∷ q ∷ r ∷ [])
from_four b p q r l h i j k m n o g t =
    let v = of_four b p q r in
    let e : 0xF0 + v / 262144 ≡ b = omega arith in
    let f : six (v / 4096) ≡ p = omega arith in
    let d : six (v / 64) ≡ q = omega arith in
    let u : six v ≡ r = omega arith in
    record { c = v; scalar = high (omega arith) t; is = sym (four_bytes v g ∙ rw (e, f, d, u)) }

decode : (b : ℕ) {rs : List Bytes} {bs : List ℕ} → Among b rs table → Fit rs bs → Decoded (b ∷ bs)
decode b (here l h) none_left = record { c = b; scalar = low (omega arith); is = sym (one_byte b (omega arith)) }
decode b (there (here l h)) (next {b = p} i j none_left) = from_two b p l h i j
decode b (there (there (here l h))) (next {b = p} i j (next {b = q} k m none_left)) =
    from_three b p q (omega arith) (omega arith) (omega arith) (omega arith) k m (omega arith) (low (omega arith))
decode b (there (there (there (here l h)))) (next {b = p} i j (next {b = q} k m none_left)) =
    from_three b p q (omega arith) (omega arith) i j k m (omega arith) (low (omega arith))
decode b (there (there (there (there (here l h))))) (next {b = p} i j (next {b = q} k m none_left)) =
    from_three b p q (omega arith) (omega arith) (omega arith) (omega arith) k m (omega arith) (low (omega arith))
decode b (there (there (there (there (there (here l h)))))) (next {b = p} i j (next {b = q} k m none_left)) =
    from_three b p q (omega arith) (omega arith) i j k m (omega arith) (high (omega arith) (omega arith))
decode b (there (there (there (there (there (there (here l h))))))) (next {b = p} i j (next {b = q} k m (next {b = r} n o none_left))) =
    from_four b p q r (omega arith) (omega arith) (omega arith) (omega arith) k m n o (omega arith) (omega arith)
decode b (there (there (there (there (there (there (there (here l h)))))))) (next {b = p} i j (next {b = q} k m (next {b = r} n o none_left))) =
    from_four b p q r (omega arith) (omega arith) i j k m n o (omega arith) (omega arith)
decode b (there (there (there (there (there (there (there (there (here l h))))))))) (next {b = p} i j (next {b = q} k m (next {b = r} n o none_left))) =
    from_four b p q r (omega arith) (omega arith) (omega arith) (omega arith) k m n o (omega arith) (omega arith)
decode b {rs = rs} {bs = bs} (there (there (there (there (there (there (there (there (there x81))))))))) _ = elim x81 [ ]

-- the first character of a right text, with the run that its rest is
first_char : (b : ℕ) (s : List ℕ) → ((t : List ℕ) → length t ≤ length s → utf8 t ≡ true → Text t) → (o : Option (List Bytes)) → after table b ≡ o
    → elim o [ none ↦ false | some rs ↦ rest rs s ] ≡ true → Text (b ∷ s)
first_char b s k none f e = absurd (never e)
first_char b s k (some rs) f e =
    let t = take_off rs s e in
    let d = decode b (which table b rs f) t.fit in
    subst⁻¹ Text (ap (λ (l : List ℕ). b ∷ l) t.is ∙ ap (λ (l : List ℕ). l ++ t.more) d.is)
    (char d.c d.scalar (k t.more t.shorter t.right))

-- n counts down the length
right_from : (n : ℕ) (s : List ℕ) → length s ≤ n → utf8 s ≡ true → Text s
unfolding utf8 rest
right_from zero [] h e = end
right_from (suc n) [] h e = end
right_from zero (b ∷ s) h e = absurd (omega arith)
right_from (suc n) (b ∷ s) h e = first_char b s (λ t l f. right_from n t (omega arith) f) (after table b) refl e

-- a text that is right by the table is a run of encoded characters
pub right_text : (s : List ℕ) → utf8 s ≡ true → Text s
right_text s e = right_from (length s) s (omega arith) e

-- RFC 3629, section 4, and section 3: the same
pub utf8_is_text : (s : List ℕ) → (utf8 s ≡ true) ↔ Text s
utf8_is_text s = (right_text s, text_right)
