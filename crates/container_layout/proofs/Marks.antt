-- The first NUL or byte 4 of an original, and what it tells of the places of both. Assumes nothing.
use Prim.Native.Nat.{ℕ, zero, suc, ◌+◌, ◌<◌, ◌≤◌}
use mathlib.Core.Path.{◌≡◌, refl, sym, ap, ◌∙◌}
use mathlib.Core.Bool.{Bool, true, false, not}
use mathlib.Core.List.{List, [], ◌∷◌}
use native.Mathlib.Omega.{arith}
use lib.ListN.{length, take, drop, get_or}
use lib.Dec.{eqb, leb}
use borrow.Author.Tests.{eq-eqb, ne_eqb, eqb-true, lt-ltb, le-ltb, leb-true}
use Rattle.text.specs.Bytes.{front, within, place}
use Rattle.text.proofs.Tests.{taken, left, by_test, and_left}
use Rattle.text.proofs.Front.{front_in, front_out, Counted, counted_within, counted_narrow}
use Rattle.text.proofs.Walk.{rest_at, rest_end}
use Rattle.container_layout.specs.Mo.{context_end, id_start, id_end, has_context}
use Rattle.container_layout.specs.Private.{plain}
use Rattle.container_layout.specs.Promise.{Splits}

pub plain_nul : (b : ℕ) → b ≡ 0 → plain b ≡ false
plain_nul b e = rw e

pub plain_four : (b : ℕ) → b ≡ 4 → plain b ≡ false
plain_four b e = rw e

pub plain_other : (b : ℕ) → (b ≡ 0 → ⊥) → (b ≡ 4 → ⊥) → plain b ≡ true
plain_other b h k = rw (ne_eqb b 0 h, ne_eqb b 4 k)

pub plain_high : (b : ℕ) → within (5, 0xFF) b ≡ true → plain b ≡ true
plain_high b e = let h : 5 ≤ b = leb-true 5 b (and_left (leb 5 b) (leb b 0xFF) e) in plain_other b (λ z. absurd (omega arith)) (λ z. absurd (omega arith))

-- counted from the start
pub from_start : (w : ℕ → Bool) (s : List ℕ) {i : ℕ} → i ≡ 0 + front w (drop 0 s) → i ≡ front w s
from_start w s e = let z : 0 + front w s ≡ front w s = omega arith in e ∙ z

-- the bytes at the front of a part are at the front of the whole
front_of_part : (v : ℕ → Bool) (s : List ℕ) (k : ℕ) → front v (take k s) ≤ front v s
unfolding front
front_of_part v s zero = omega arith
front_of_part v [] (suc k) = omega arith
front_of_part v (b ∷ s) (suc k) =
    by_test (front v (b ∷ take k s) ≤ front v (b ∷ s)) (v b)
    (λ e. omega (arith, front_in v b s e, front_in v b (take k s) e, front_of_part v s k))
    (λ e. omega (arith, front_out v b (take k s) e))

-- and are plain there
pub part_plain : (o : List ℕ) (k : ℕ) {i : ℕ} → i ≡ 0 + front (within (5, 0xFF)) (drop 0 (take k o)) → Counted plain o 0 i
part_plain o k {i} e =
    counted_within plain o 0 (0 + front (within (5, 0xFF)) (drop 0 o)) i (counted_narrow plain (within (5, 0xFF)) plain_high o 0 refl) (omega arith)
    (omega (arith, front_of_part (within (5, 0xFF)) o k))

-- a byte that is sought is not plain
plain_not : (x b : ℕ) → plain x ≡ false → plain b ≡ true → eqb b x ≡ false
plain_not x b h k = ne_eqb b x (λ e. let z : true ≡ false = sym k ∙ ap plain e ∙ h in let y : ◌≡◌ {A = ℕ} 0 1 = cc in omega arith)

-- a mark that is no byte 4 is NUL
mark_nul : (b : ℕ) → plain b ≡ false → (b ≡ 4 → ⊥) → b ≡ 0
mark_nul b e h =
    by_test (b ≡ 0) (eqb b 0)
    (λ t. eqb-true b 0 t)
    (λ t. absurd (let p : plain b ≡ true = rw (t, ne_eqb b 4 h) in let z : true ≡ false = sym p ∙ e in let y : ◌≡◌ {A = ℕ} 0 1 = cc in omega arith))

-- what is sought stands at the mark or after it
from_mark : (x : ℕ) → plain x ≡ false → (o : List ℕ) → place x o ≡ front plain o + place x (drop (front plain o) o)
unfolding front
from_mark x h [] = refl
from_mark x h (b ∷ s) =
    by_test (place x (b ∷ s) ≡ front plain (b ∷ s) + place x (drop (front plain (b ∷ s)) (b ∷ s))) (plain b)
    (λ t. rw (front_in plain b s t, front_in (λ c. not (eqb c x)) b s (ap not (plain_not x b h t))) (omega (arith, from_mark x h s)))
    (λ t. rw (front_out plain b s t) (omega arith))

pub stops : (w : ℕ → Bool) (o : List ℕ) → front w o < length o → w (get_or o (front w o) 0) ≡ false
unfolding front
stops w [] h = absurd (omega arith)
stops w (b ∷ s) h =
    by_test (w (get_or (b ∷ s) (front w (b ∷ s)) 0) ≡ false) (w b)
    (λ t. rw (front_in w b s t) (stops w s (omega (arith, front_in w b s t))))
    (λ t. rw (front_out w b s t) t)

-- without a byte 4, and with one
pub without : (o : List ℕ) {end : ℕ} → length o ≤ place 4 o → end ≡ place 0 o → Splits o (record { context = 0; id = 0; end = end })
unfolding context_end id_start id_end
without o h e =
    let t : has_context o ≡ false = le-ltb (place 4 o) (length o) h in
    let z : id_start o ≡ 0 = left _ _ t in
    let y : place 0 o ≡ 0 + place 0 o = omega arith in
    record { context = sym (left _ _ t); id = sym z; end = e ∙ y ∙ sym (ap (λ (n : ℕ). n + place 0 (drop n o)) z) }

pub with_context : (o : List ℕ) {four end : ℕ} → four ≡ place 4 o → four < length o → end ≡ four + 1 + place 0 (drop (four + 1) o)
    → Splits o (record { context = four; id = four + 1; end = end })
unfolding context_end id_start id_end
with_context o {four} {end} e h f =
    let t : has_context o ≡ true = lt-ltb (place 4 o) (length o) (omega arith) in
    let z : id_start o ≡ four + 1 = taken _ _ t ∙ ap (λ (n : ℕ). n + 1) (sym e) in
    record { context = e ∙ sym (taken _ _ t); id = sym z; end = f ∙ sym (ap (λ (n : ℕ). n + place 0 (drop n o)) z) }

module _ (o : List ℕ) {mark : ℕ} (m : mark ≡ front plain o) where
  -- no mark at all
  unmarked : (x : ℕ) → plain x ≡ false → length o ≤ mark → place x o ≡ mark
  unfolding front
  unmarked x h l = from_mark x h o ∙ rw (← m, rest_end o mark l) (omega arith)

  here : (x : ℕ) → plain x ≡ false → mark < length o → get_or o mark 0 ≡ x → place x o ≡ mark
  here x h l e =
      let z : place x (drop mark o) ≡ 0 = ap (place x) (rest_at o mark l) ∙ front_out (λ c. not (eqb c x)) _ _ (ap not (eq-eqb _ _ e)) in
      from_mark x h o ∙ rw (← m, z) (omega arith)

  pub four_here : mark < length o → get_or o mark 0 ≡ 4 → place 4 o ≡ mark
  four_here l e = here 4 refl l e

  nul_here : mark < length o → (get_or o mark 0 ≡ 4 → ⊥) → place 0 o ≡ mark
  nul_here l h = here 0 refl l (mark_nul _ (rw m (stops plain o (omega arith))) h)

  -- the first byte 4 is then sought after the NUL
  pub four_later : mark < length o → (get_or o mark 0 ≡ 4 → ⊥) → place 4 o ≡ mark + 1 + place 4 (drop (mark + 1) o)
  four_later l h =
      let z : place 4 (drop mark o) ≡ suc (place 4 (drop (mark + 1) o)) = ap (place 4) (rest_at o mark l) ∙ front_in (λ c. not (eqb c 4)) _ _ (ap not (ne_eqb _ _ h)) in
      from_mark 4 refl o ∙ rw (← m, z) (omega arith)

  pub marked_end : length o ≤ mark → Splits o (record { context = 0; id = 0; end = mark })
  marked_end l = without o (omega (arith, unmarked 4 refl l)) (sym (unmarked 0 refl l))

  pub marked_nul : mark < length o → (get_or o mark 0 ≡ 4 → ⊥) → length o ≤ mark + 1 + place 4 (drop (mark + 1) o) → Splits o (record { context = 0; id = 0; end = mark })
  marked_nul l h k = without o (omega (arith, four_later l h)) (sym (nul_here l h))
