-- The segments of a translation, as a loop that counts them meets them; and what the count says. Assumes nothing.
use Prim.Native.Nat.{ℕ, ◌+◌, ◌-◌, ◌<◌, ◌≤◌}
use mathlib.Core.Path.{◌≡◌, refl, sym, ap, ◌∙◌}
use mathlib.Core.Bool.{Bool, cond}
use mathlib.Core.List.{List, [], ◌∷◌}
use native.Mathlib.Omega.{arith}
use native.Mathlib.Nat.{add-sub_cancel_left}
use lib.ListN.{length, take, drop, length-drop}
use lib.Seq.{drop-drop}
use lib.Dec.{eqb}
use borrow.Author.Tests.{le-leb, lt-leb}
use Rattle.text.specs.Bytes.{place}
use Rattle.text.specs.Cut.{cut, onto}
use Rattle.text.proofs.Tests.{taken, left, by_test}
use Rattle.std.specs.Prelude.{count_by}
use Rattle.std.proofs.lemmas.List.Recursion.{is_count_by}
use Rattle.std.proofs.lemmas.List.Sums.{sum_by-take-drop}
use Rattle.std.proofs.Math.ListN.{drop_of_length-le}
use Rattle.text.proofs.Cuts.{Pieces, cut_at, cut_on, cut_some, at_once, goes_on, place_length}
use Rattle.lookup_why.specs.Why.{stored}

-- a translation has one segment more than NULs
onto_one : (b : ℕ) {ps : List (List ℕ)} → Pieces ps → length (onto b ps) ≡ length ps
onto_one b o = rw o.is refl

some_piece : {ps : List (List ℕ)} → Pieces ps → 1 ≤ length ps
some_piece o = rw o.is (omega arith)

abbrev pub nul : ℕ → Bool
nul b = eqb b 0

more : List ℕ → ℕ
more t = length (cut 0 t) - 1

one_more : (b : ℕ) (t : List ℕ) → more (b ∷ t) ≡ cond (nul b) (1 + more t) (more t)
unfolding more
one_more b t =
    by_test (more (b ∷ t) ≡ cond (nul b) (1 + more t) (more t)) (nul b)
    (λ e. rw (cut_at 0 b t e, e) (omega (arith, some_piece (cut_some 0 t))))
    (λ e. rw (cut_on 0 b t e, e) (ap (λ (n : ℕ). n - 1) (onto_one b (cut_some 0 t))))

none_more : more [] ≡ 0
unfolding more cut
none_more = refl

pub cut_count : (t : List ℕ) → length (cut 0 t) ≡ count_by nul t + 1
unfolding more
cut_count t = omega (arith, is_count_by more nul none_more one_more t, some_piece (cut_some 0 t))

-- the NULs up to a place, and of the rest; there are none up to the first, and none past the end
pub count_more : (t : List ℕ) {i end : ℕ} → i ≤ end → count_by nul (take (end - i) (drop i t)) + count_by nul (drop end t) ≡ count_by nul (drop i t)
count_more t {i} {end} h =
    let z : i + (end - i) ≡ end = omega arith in
    rw z at rw (drop-drop (end - i) i t) at (sum_by-take-drop (λ (b : ℕ). cond (nul b) 1 0) (drop i t) (end - i))

skipped : (s : List ℕ) → count_by nul (drop (place 0 s) s) ≡ count_by nul s
skipped [] = let z : place 0 [] ≡ 0 = omega (arith, place_length 0 []) in rw z refl
skipped (b ∷ s) =
    by_test (count_by nul (drop (place 0 (b ∷ s)) (b ∷ s)) ≡ count_by nul (b ∷ s)) (nul b)
    (λ e. rw (at_once 0 b s e) refl)
    (λ e. rw (goes_on 0 b s e, e) (skipped s))

module _ (t : List ℕ) (at : ℕ) {end : ℕ} (e : end ≡ at + place 0 (drop at t)) where
  pub ends_within : at ≤ length t → end ≤ length t
  ends_within h = omega (arith, place_length 0 (drop at t), length-drop at t)

  pub count_to : count_by nul (drop end t) ≡ count_by nul (drop at t)
  count_to = ap (λ (i : ℕ). count_by nul (drop i t)) e ∙ ap (count_by nul) (sym (drop-drop _ at t)) ∙ skipped (drop at t)

pub count_past : (t : List ℕ) {i : ℕ} → length t ≤ i → count_by nul (drop i t) ≡ 0
count_past t h = ap (count_by nul) (drop_of_length-le t h)

module _ (s : List ℕ) (start len : ℕ) where
  pub none_stored : length s < start + len → 0 ≡ stored s start len
  unfolding stored
  none_stored h = sym (left _ _ (lt-leb (start + len) (length s) h))

  pub all_stored : {r : ℕ} → start + len ≤ length s → r ≡ length (cut 0 (take (start + len - start) (drop start s))) → r ≡ stored s start len
  unfolding stored
  all_stored h e =
      e ∙ ap (λ (n : ℕ). length (cut 0 (take n (drop start s)))) (add-sub_cancel_left start len)
      ∙ sym (taken _ _ (le-leb (start + len) (length s) h))
