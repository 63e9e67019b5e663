-- Laws of UTF-8 texts for the layers above: the empty text is right, a right text in front of another changes nothing, and a
-- text cut at an ASCII byte is right exactly if all its pieces are. Assumes nothing.
use Prim.Native.Nat.{ℕ, ◌<◌}
use mathlib.Core.Path.{◌≡◌, refl, sym, ap, ◌∙◌}
use mathlib.Core.Bool.{Bool, true, false, ◌&&◌}
use mathlib.Core.List.{List, [], ◌∷◌, ◌++◌}
use mathlib.Core.Option.{Option, none, some}
use native.Mathlib.Omega.{arith}
use lib.ListN.{drop}
use lib.Dec.{leb, eqb}
use borrow.Author.Tests.{leb-true, eqb-true}
use Rattle.text.specs.Bytes.{within}
use Rattle.text_utf8.specs.Utf8.{Bytes, Row, table, after, rest, utf8}
use Rattle.text.specs.Cut.{cut, onto, every}
use Rattle.text.proofs.Tests.{never, taken, left, by_test, and_left, and_right, and_assoc}
use Rattle.text.proofs.Bounds.{under}
use Rattle.text.proofs.Cuts.{Pieces, cut_at, cut_on, cut_some}
use Rattle.text_utf8.proofs.Rows.{row_at}

pub empty_right : utf8 [] ≡ true
unfolding utf8 rest
empty_right = refl

and_unit : (x : Bool) → (x && true) ≡ x
and_unit true = refl
and_unit false = refl

asked_right : (o : Option (List Bytes)) (a c : List ℕ) (t : Bool) → ((rs : List Bytes) → rest rs a ≡ true → rest rs c ≡ t)
    → elim o [ none ↦ false | some rs ↦ rest rs a ] ≡ true → elim o [ none ↦ false | some rs ↦ rest rs c ] ≡ t
asked_right none a c t k e = absurd (never e)
asked_right (some rs) a c t k e = k rs e

-- a text that ends the character begun, and is right after it, in front of another
front_right : (rs : List Bytes) (a b : List ℕ) → rest rs a ≡ true → rest rs (a ++ b) ≡ utf8 b
unfolding rest utf8
front_right [] [] b e = refl
front_right (r ∷ rs) [] b e = absurd (never e)
front_right [] (x ∷ a) b e = asked_right (after table x) a (a ++ b) (utf8 b) (λ rs f. front_right rs a b f) e
front_right (r ∷ rs) (x ∷ a) b e =
    rw (and_left (within r x) (rest rs a) e) (front_right rs a b (and_right (within r x) (rest rs a) e))

pub right_before : (a b : List ℕ) → utf8 a ≡ true → utf8 (a ++ b) ≡ utf8 b
unfolding utf8
right_before a b e = front_right [] a b e

pub right_joined : (a b : List ℕ) → utf8 a ≡ true → utf8 b ≡ true → utf8 (a ++ b) ≡ true
right_joined a b e f = right_before a b e ∙ f

-- no byte that has to follow is ASCII
abbrev high : List Bytes → Bool
high [] = true
high (r ∷ rs) = leb 0x80 r.0 && high rs

abbrev all_high : List Row → Bool
all_high [] = true
all_high (row ∷ rows) = high row.1 && all_high rows

-- what holds of every row holds of the one that is found
found_high : (rows : List Row) (b : ℕ) (rs : List Bytes) → all_high rows ≡ true → after rows b ≡ some rs → high rs ≡ true
found_high [] b rs e f = let z : ◌≡◌ {A = ℕ} 0 1 = cc in absurd (omega arith)
found_high (row ∷ rows) b rs e f =
    by_test (high rs ≡ true) (within row.0 b)
    (λ t. let q : row.1 ≡ rs = cc (sym (taken (some row.1) (after rows b) t) ∙ f) in rw q at (and_left (high row.1) (all_high rows) e))
    (λ t. found_high rows b rs (and_right (high row.1) (all_high rows) e) (sym (left (some row.1) (after rows b) t) ∙ f))

-- the first piece ends the character begun, and the others are right
abbrev pieces : List Bytes → List (List ℕ) → Bool
pieces rs [] = true
pieces rs (p ∷ ps) = rest rs p && every utf8 ps

pieces_all : {ps : List (List ℕ)} → Pieces ps → pieces [] ps ≡ every utf8 ps
unfolding utf8 every
pieces_all o = rw o.is

-- a byte x that is ASCII ends the character before it, and is one by itself
ascii_ends : (rs : List Bytes) (x : ℕ) (s : List ℕ) → x < 0x80 → high rs ≡ true → rest rs (x ∷ s) ≡ (rest rs [] && utf8 s)
unfolding rest utf8
ascii_ends [] x s h e = ap (λ (o : Option (List Bytes)). elim o [ none ↦ false | some rs ↦ rest rs s ]) (row_at [] 0 0x7F [] (drop 1 table) x refl (omega arith) (omega arith))
ascii_ends (r ∷ rs) x s h e = rw (under r.0 r.1 x (omega (arith, leb-true 0x80 r.0 (and_left (leb 0x80 r.0) (high rs) e))))

asked_pieces : (o : Option (List Bytes)) (s p : List ℕ) (t : Bool) → ((rs : List Bytes) → o ≡ some rs → rest rs s ≡ (rest rs p && t))
    → elim o [ none ↦ false | some rs ↦ rest rs s ] ≡ (elim o [ none ↦ false | some rs ↦ rest rs p ] && t)
asked_pieces none s p t k = refl
asked_pieces (some rs) s p t k = k rs refl

-- a byte before the first piece
byte_before : (rs : List Bytes) (b : ℕ) (s : List ℕ) (ps : List (List ℕ)) → Pieces ps → high rs ≡ true
    → ((qs : List Bytes) → high qs ≡ true → rest qs s ≡ pieces qs ps) → rest rs (b ∷ s) ≡ pieces rs (onto b ps)
unfolding rest
byte_before [] b s ps o e k =
    rw o.is
    (asked_pieces (after table b) s o.head (every utf8 o.more) (λ rs f. k rs (found_high table b rs refl f) ∙ ap (pieces rs) o.is))
byte_before (r ∷ rs) b s ps o e k =
    ap (λ (t : Bool). within r b && t) (k rs (and_right (leb 0x80 r.0) (high rs) e) ∙ ap (pieces rs) o.is)
    ∙ sym (and_assoc (within r b) (rest rs o.head) (every utf8 o.more))
    ∙ ap (λ (qs : List (List ℕ)). pieces (r ∷ rs) (onto b qs)) (sym o.is)

by_pieces : (x : ℕ) → x < 0x80 → (s : List ℕ) (rs : List Bytes) → high rs ≡ true → rest rs s ≡ pieces rs (cut x s)
unfolding cut every utf8
by_pieces x h [] rs e = sym (and_unit (rest rs []))
by_pieces x h (b ∷ s) rs e =
    by_test (rest rs (b ∷ s) ≡ pieces rs (cut x (b ∷ s))) (eqb b x)
    (λ t.
    ascii_ends rs b s (omega (arith, eqb-true b x t)) e
    ∙ ap (λ (q : Bool). rest rs [] && q) (whole (by_pieces x h s [] refl))
    ∙ ap (pieces rs) (sym (cut_at x b s t)))
    (λ t. byte_before rs b s (cut x s) (cut_some x s) e (λ qs f. by_pieces x h s qs f) ∙ ap (pieces rs) (sym (cut_on x b s t)))
  where
    whole : rest [] s ≡ pieces [] (cut x s) → utf8 s ≡ every utf8 (cut x s)
    whole f = f ∙ pieces_all (cut_some x s)

-- a text is right exactly if all its pieces at an ASCII byte are
pub right_by_pieces : (x : ℕ) → x < 0x80 → (s : List ℕ) → utf8 s ≡ every utf8 (cut x s)
unfolding utf8
right_by_pieces x h s = by_pieces x h s [] refl ∙ pieces_all (cut_some x s)
