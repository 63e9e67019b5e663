-- What the scans of the Shipped reading make of balanced texts: `index_of` passes over a balanced text that lies in brackets, whatever
-- operators stand in it, and the fold of `parse_parens` counts each of its bytes. Assumes nothing.
use Prim.Native.Nat.{ℕ, zero, suc, ◌+◌, ◌-◌, ◌<◌, ◌≤◌}
use mathlib.Core.Path.{◌≡◌, refl, sym, ap, ◌∙◌}
use mathlib.Core.Bool.{Bool, true, false, ◌&&◌}
use mathlib.Core.List.{List, [], ◌∷◌, ◌++◌, append_assoc, append-nil}
use native.Mathlib.Omega.{arith}
use lib.ListN.{length, get_or, length-append}
use lib.Dec.{eqb, ltb}
use borrow.Author.Tests.{ne_eqb, eq-eqb, lt-ltb, ltb-true}
use Rattle.text.specs.Bytes.{all}
use Rattle.text.proofs.Tests.{never, taken, left, by_test, and_left, and_right}
use Rattle.reading_scan.specs.Scan.{stands, counted, index_from, index_of, deeper, further, end_from}
use Rattle.reading_scan.specs.Private.{matched}
use Rattle.reading_scan.proofs.Scanned.{further_le}
use Rattle.rules_text.specs.Bracketed.{brackets}
use Rattle.reading_bracketed.proofs.Decimal.{Digits, none, one}
use Rattle.reading_bracketed.proofs.Marks.{inner, sign, Sign, one_byte, two_bytes, never_inner, digit_inner, sign_no_open, sign_no_close}

pub data Balanced : List ℕ → Type 0 where
  empty : Balanced []
  byte : {b : ℕ} {s : List ℕ} → eqb b 40 ≡ false → eqb b 41 ≡ false → Balanced s → Balanced (b ∷ s)
  pair : {s t : List ℕ} → Balanced s → Balanced t → Balanced (40 ∷ s ++ 41 ∷ t)

pub both_balanced : {s t : List ℕ} → Balanced s → Balanced t → Balanced (s ++ t)
both_balanced empty e = e
both_balanced (byte h k d) e = byte h k (both_balanced d e)
both_balanced (pair d f) e = rw append_assoc (pair d (both_balanced f e))

pub sign_balanced : {g : List ℕ} → Sign g → Balanced g
sign_balanced (one_byte {b} h) = byte (sign_no_open b h) (sign_no_close b h) empty
sign_balanced (two_bytes {b} {c} h k) = byte (sign_no_open b h) (sign_no_close b h) (byte (sign_no_open c k) (sign_no_close c k) empty)

pub digits_balanced : {s : List ℕ} → Digits s → Balanced s
digits_balanced none = empty
digits_balanced (one {b} h k d) = byte (ne_eqb b 40 (λ e. omega arith)) (ne_eqb b 41 (λ e. omega arith)) (digits_balanced d)

-- how many pairs of brackets
unfoldable pub pairs : {s : List ℕ} → Balanced s → ℕ
pairs empty = 0
pairs (byte h k d) = pairs d
pairs (pair d e) = pairs d + 1 + pairs e

-- no byte of an operand stands in the pattern
pub record Clean (pat : List ℕ) : Type 0 where
  pub clean : (n b : ℕ) → inner b ≡ true → stands pat n b ≡ false

no_such : (pat : List ℕ) (n b : ℕ) → all sign pat ≡ true → inner b ≡ true → n < length pat → eqb (get_or pat n 0) b ≡ false
unfolding all
no_such [] n b h k l = absurd (omega arith)
no_such (p ∷ pat) zero b h k l = ne_eqb p b (λ e. never_inner p (and_left _ (all sign pat) h) (rw e k))
no_such (p ∷ pat) (suc n) b h k l = no_such pat n b (and_right (sign p) _ h) k (omega arith)

pub signs_clean : (pat : List ℕ) → all sign pat ≡ true → Clean pat
signs_clean pat h = record {
  clean = λ n b k. by_test (stands pat n b ≡ false) (ltb n (length pat))
      (λ e. taken _ _ e ∙ no_such pat n b h k (ltb-true n (length pat) e))
      (λ e. left _ _ e);
}

-- the place in the text and the counts of brackets, as sums
same_at : (pat r : List ℕ) (n : ℕ) {i j o p c d : ℕ} → i ≡ j → o ≡ p → c ≡ d → index_from pat r i n o c ≡ index_from pat r j n p d
same_at pat r n e f g = rw (e, f, g)

counted_not : (n b ch : ℕ) → eqb ch b ≡ false → counted n b ch ≡ n
counted_not n b ch e = left _ _ e

-- a byte that does not stand in the pattern, and a byte inside brackets
module _ (pat s : List ℕ) (b i n o c : ℕ) where
  breaks : stands pat n b ≡ false → index_from pat (b ∷ s) i n o c ≡ index_from pat s (i + 1) 0 (counted o 40 b) (counted c 41 b)
  unfolding index_from
  breaks e = left _ _ e

  deep : c < o → eqb b 40 ≡ false → eqb b 41 ≡ false → index_from pat (b ∷ s) i n o c ≡ index_from pat s (i + 1) (matched pat n b) o c
  unfolding index_from
  deep l h k =
      go (stands pat n b) (eqb (n + 1) (length pat)) (eqb (counted o 40 b) (counted c 41 b))
      (λ q. index_from pat s (i + 1) q (counted o 40 b) (counted c 41 b)) unequal
      ∙ same_at pat s (matched pat n b) refl (counted_not o 40 b h) (counted_not c 41 b k)
    where
      unequal : eqb (counted o 40 b) (counted c 41 b) ≡ false
      unequal = ne_eqb _ _ (λ (e : counted o 40 b ≡ counted c 41 b). omega (arith, counted_not o 40 b h, counted_not c 41 b k))

      go :
          (x y z : Bool) (F : ℕ → ℕ) → z ≡ false →
          elim x [ true ↦ elim (y && z) [ true ↦ i - n | false ↦ F (n + 1) ] | false ↦ F 0 ] ≡ F (elim x [ true ↦ n + 1 | false ↦ 0 ])
      go true true z F e = left _ _ e
      go true false z F e = refl
      go false y z F e = refl

module _ {pat : List ℕ} (w : Clean pat) where
  opens : (s : List ℕ) (i n o c : ℕ) → index_from pat (40 ∷ s) i n o c ≡ index_from pat s (i + 1) 0 (o + 1) c
  opens s i n o c = breaks pat s 40 i n o c (w.clean n 40 refl)

  closes : (s : List ℕ) (i n o c : ℕ) → index_from pat (41 ∷ s) i n o c ≡ index_from pat s (i + 1) 0 o (c + 1)
  closes s i n o c = breaks pat s 41 i n o c (w.clean n 41 refl)

  -- a balanced text and the bracket that ends it
  inside_passed :
      {s : List ℕ} (d : Balanced s) (r : List ℕ) (i n o c : ℕ) → c < o →
      index_from pat (s ++ 41 ∷ r) i n o c ≡ index_from pat r (i + length s + 1) 0 (o + pairs d) (c + pairs d + 1)
  unfolding pairs
  inside_passed empty r i n o c l = closes r i n o c ∙ same_at pat r 0 (omega arith) (omega arith) (omega arith)
  inside_passed (byte {b} {s} h k d) r i n o c l =
      deep pat (s ++ 41 ∷ r) b i n o c l h k
      ∙ (inside_passed d r (i + 1) (matched pat n b) o c l ∙ same_at pat r 0 (omega arith) (omega arith) (omega arith))
  inside_passed (pair {s} {t} d e) r i n o c l =
      rw append_assoc
      (opens (s ++ 41 ∷ (t ++ 41 ∷ r)) i n o c
      ∙ (inside_passed d (t ++ 41 ∷ r) (i + 1) 0 (o + 1) c (omega arith)
      ∙ (inside_passed e r (i + 1 + length s + 1) 0 (o + 1 + pairs d) (c + pairs d + 1) (omega arith)
      ∙ same_at pat r 0 (omega (arith, length-append s (41 ∷ t))) (omega arith) (omega arith))))

-- what an operator stands between
pub data Operand : List ℕ → Type 0 where
  letter : Operand (110 ∷ [])
  number : {b : ℕ} {s : List ℕ} → Digits (b ∷ s) → Operand (b ∷ s)
  whole : {s : List ℕ} → Balanced s → Operand (brackets s)

-- `index_of` outside brackets passes over x, whatever was matched before it
pub record Over (pat x : List ℕ) : Type 0 where
  pub depth : ℕ
  pub over : (r : List ℕ) (i n k : ℕ) → index_from pat (x ++ r) i n k k ≡ index_from pat r (i + length x) 0 (k + depth) (k + depth)

module _ {pat : List ℕ} (w : Clean pat) where
  digit_passed :
      (b : ℕ) (s : List ℕ) (i n k : ℕ) → 48 ≤ b → b ≤ 57 → index_from pat (b ∷ s) i n k k ≡ index_from pat s (i + 1) 0 k k
  digit_passed b s i n k h l =
      breaks pat s b i n k k (w.clean n b (digit_inner b h l))
      ∙ same_at pat s 0 refl (counted_not k 40 b (ne_eqb b 40 (λ e. omega arith))) (counted_not k 41 b (ne_eqb b 41 (λ e. omega arith)))

  digits_passed :
      {s : List ℕ} → Digits s → (r : List ℕ) (i k : ℕ) → index_from pat (s ++ r) i 0 k k ≡ index_from pat r (i + length s) 0 k k
  digits_passed none r i k = same_at pat r 0 (omega arith) refl refl
  digits_passed (one {b} {s} h l d) r i k =
      digit_passed b (s ++ r) i 0 k h l ∙ (digits_passed d r (i + 1) k ∙ same_at pat r 0 (omega arith) refl refl)

  pub operand_over : {x : List ℕ} → Operand x → Over pat x
  operand_over letter = record {
    depth = 0;
    over = λ r i n k. breaks pat r 110 i n k k (w.clean n 110 refl) ∙ same_at pat r 0 refl (omega arith) (omega arith);
  }
  operand_over (number (one {b} {s} h l d)) = record {
    depth = 0;
    over = λ r i n k.
        digit_passed b (s ++ r) i n k h l ∙ (digits_passed d r (i + 1) k ∙ same_at pat r 0 (omega arith) (omega arith) (omega arith));
  }
  operand_over (whole {s} d) = record {
    depth = pairs d + 1;
    over = λ r i n k.
        rw append_assoc
        (opens w (s ++ 41 ∷ r) i n k k
        ∙ (inside_passed w d r (i + 1) 0 (k + 1) k (omega arith)
        ∙ same_at pat r 0 (omega (arith, length-append s (41 ∷ []))) (omega arith) (omega arith)));
  }

-- `index_of` outside brackets finds nothing in s, and nothing that begins in it
pub record Missed (pat s : List ℕ) : Type 0 where
  pub depth : ℕ
  pub missed : (r : List ℕ) (i k : ℕ) → index_from pat (s ++ r) i 0 k k ≡ index_from pat r (i + length s) 0 (k + depth) (k + depth)

pub over_missed : {pat x : List ℕ} → Over pat x → Missed pat x
over_missed w = record { depth = w.depth; missed = λ r i k. w.over r i 0 k }

pub none_missed : (pat : List ℕ) → Missed pat []
none_missed pat = record { depth = 0; missed = λ r i k. same_at pat r 0 (omega arith) (omega arith) (omega arith) }

pub both_missed : {pat s t : List ℕ} → Missed pat s → Missed pat t → Missed pat (s ++ t)
both_missed {pat} {s} {t} v w = record {
  depth = v.depth + w.depth;
  missed = λ r i k.
      rw append_assoc
      (v.missed (t ++ r) i k ∙ (w.missed r (i + length s) (k + v.depth)
      ∙ same_at pat r 0 (omega (arith, length-append s t)) (omega arith) (omega arith)));
}

-- no match ends in the bytes g, n signs matched before them: a test
unfoldable pub passes : List ℕ → List ℕ → ℕ → Bool
passes pat [] n = true
passes pat (b ∷ g) n =
    elim (stands pat n b) [
      | true ↦ elim (eqb (n + 1) (length pat)) [ true ↦ false | false ↦ passes pat g (n + 1) ]
      | false ↦ passes pat g 0
    ]

-- an operator that does not match, and the operand after it, which breaks off what it may have begun
sign_over :
    {pat x : List ℕ} (w : Over pat x) (g : List ℕ) (n : ℕ) → all sign g ≡ true → passes pat g n ≡ true → (r : List ℕ) (i k : ℕ) →
    index_from pat (g ++ x ++ r) i n k k ≡ index_from pat r (i + length (g ++ x)) 0 (k + w.depth) (k + w.depth)
unfolding passes all index_from
sign_over w [] n h e r i k = w.over r i n k
sign_over {pat} {x} w (b ∷ g) n h e r i k =
    go (stands pat n b) (eqb (n + 1) (length pat)) (eqb (counted k 40 b) (counted k 41 b))
    (λ q. index_from pat (g ++ x ++ r) (i + 1) q (counted k 40 b) (counted k 41 b)) (passes pat g)
    (λ q f.
    same_at pat (g ++ x ++ r) q refl (counted_not k 40 b (sign_no_open b s)) (counted_not k 41 b (sign_no_close b s))
    ∙ (sign_over w g q (and_right (sign b) (all sign g) h) f r (i + 1) k ∙ same_at pat r 0 (omega arith) refl refl)) e
  where
    s : sign b ≡ true
    s = and_left (sign b) (all sign g) h

    go :
        (u y z : Bool) (F : ℕ → ℕ) (P : ℕ → Bool) {t : ℕ} → ((q : ℕ) → P q ≡ true → F q ≡ t) →
        elim u [ true ↦ elim y [ true ↦ false | false ↦ P (n + 1) ] | false ↦ P 0 ] ≡ true →
        elim u [ true ↦ elim (y && z) [ true ↦ i - n | false ↦ F (n + 1) ] | false ↦ F 0 ] ≡ t
    go true true z F P f d = absurd (never d)
    go true false z F P f d = f (n + 1) d
    go false y z F P f d = f 0 d

pub sign_missed : {pat x : List ℕ} (g : List ℕ) → all sign g ≡ true → passes pat g 0 ≡ true → Over pat x → Missed pat (g ++ x)
sign_missed g h e w = record { depth = w.depth; missed = λ r i k. sign_over w g 0 h e r i k }

-- what is missed is not found, and a pattern after it is found there
pub not_found : {pat s : List ℕ} → Missed pat s → index_of pat s ≡ length s
unfolding index_of index_from
not_found {pat} {s} w = let z : index_from pat s 0 0 0 0 ≡ 0 + length s = rw append-nil at (w.missed [] 0 0) in omega arith

level : (k b : ℕ) → sign b ≡ true → counted k 40 b ≡ counted k 41 b
level k b h = counted_not k 40 b (sign_no_open b h) ∙ sym (counted_not k 41 b (sign_no_close b h))

hit : {pat : List ℕ} → Sign pat → (r : List ℕ) (i k : ℕ) → index_from pat (pat ++ r) i 0 k k ≡ i
unfolding index_from
hit (one_byte {b} h) r i k = taken _ _ (eq-eqb b b refl) ∙ (taken _ _ (eq-eqb _ _ (level k b h)) ∙ omega arith)
hit (two_bytes {b} {c} h l) r i k =
    taken _ _ (eq-eqb b b refl)
    ∙ (taken _ _ (eq-eqb c c refl) ∙ (taken _ _ (eq-eqb _ _ (deeper_level)) ∙ omega arith))
  where
    deeper_level : counted (counted k 40 b) 40 c ≡ counted (counted k 41 b) 41 c
    deeper_level = ap (λ x. counted x 40 c) (level k b h ∙ counted_not k 41 b (sign_no_close b h))
        ∙ (level k c l ∙ ap (λ x. counted x 41 c) (sym (counted_not k 41 b (sign_no_close b h))))

pub found_at : {pat s : List ℕ} (g : Sign pat) → Missed pat s → (r : List ℕ) → index_of pat (s ++ (pat ++ r)) ≡ length s
unfolding index_of
found_at {pat} {s} g w r = w.missed (pat ++ r) 0 0 ∙ (hit g r (0 + length s) (0 + w.depth) ∙ omega arith)

-- the fold of `parse_parens`: every byte of a balanced text inside brackets counts
deeper_byte : (d b : ℕ) → eqb b 40 ≡ false → eqb b 41 ≡ false → deeper (suc d) b ≡ suc d
deeper_byte d b h k = taken _ _ (lt-ltb 0 (suc d) (omega arith)) ∙ (left _ _ k ∙ counted_not (suc d) 40 b h)

deeper_open : (d : ℕ) → deeper (suc d) 40 ≡ suc (suc d)
deeper_open d = taken _ _ (lt-ltb 0 (suc d) (omega arith)) ∙ omega arith

deeper_close : (d : ℕ) → deeper (suc d) 41 ≡ d
deeper_close d = taken _ _ (lt-ltb 0 (suc d) (omega arith)) ∙ omega arith

further_on : (d j b : ℕ) → further (suc d) j b ≡ j + 1
further_on d j b = taken _ _ (lt-ltb 0 (suc d) (omega arith))

fold_same : (r : List ℕ) {l m i j : ℕ} → l ≡ m → i ≡ j → end_from r l i ≡ end_from r m j
fold_same r e f = rw (e, f)

pub fold_close : (r : List ℕ) (d j : ℕ) → end_from (41 ∷ r) (suc d) j ≡ end_from r d (j + 1)
unfolding end_from
fold_close r d j = fold_same r (deeper_close d) (further_on d j 41)

pub fold_inside : {s : List ℕ} → Balanced s → (r : List ℕ) (d j : ℕ) → end_from (s ++ r) (suc d) j ≡ end_from r (suc d) (j + length s)
unfolding end_from
fold_inside empty r d j = fold_same r refl (omega arith)
fold_inside (byte {b} {s} h k e) r d j =
    fold_same (s ++ r) (deeper_byte d b h k) (further_on d j b) ∙ (fold_inside e r d (j + 1) ∙ fold_same r refl (omega arith))
fold_inside (pair {s} {t} e f) r d j =
    rw append_assoc
    (fold_same (s ++ 41 ∷ (t ++ r)) (deeper_open d) (further_on d j 40)
    ∙ (fold_inside e (41 ∷ (t ++ r)) (suc d) (j + 1)
    ∙ (fold_close (t ++ r) (suc d) (j + 1 + length s)
    ∙ (fold_inside f r d (j + 1 + length s + 1)
    ∙ fold_same r refl (omega (arith, length-append s (41 ∷ t)))))))

pub fold_le : (r : List ℕ) (l j : ℕ) → end_from r l j ≤ j + length r
unfolding end_from
fold_le [] l j = omega arith
fold_le (b ∷ r) l j = omega (arith, fold_le r (deeper l b) (further l j b), further_le l j b)

-- a byte outside brackets does not count
pub fold_outside : (b : ℕ) (r : List ℕ) (j : ℕ) → eqb b 40 ≡ false → end_from (b ∷ r) 0 j ≤ j + length r
unfolding end_from
fold_outside b r j h = omega (arith, fold_le r (deeper 0 b) (further 0 j b), counted_not j 40 b h)
