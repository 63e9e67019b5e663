-- The segments of a translation, as a loop that counts them meets them. Assumes nothing.
use Prim.Native.Nat.{ℕ, zero, suc, ◌+◌, ◌-◌, ◌<◌, ◌≤◌}
use mathlib.Core.Path.{◌≡◌, refl, sym, ap, ◌∙◌}
use mathlib.Core.List.{List, [], ◌∷◌}
use native.Mathlib.Omega.{arith}
use native.Mathlib.Nat.{add-sub_cancel_left}
use lib.ListN.{length, take, drop, length-drop}
use lib.Seq.{length-take-le}
use lib.Dec.{ltb}
use borrow.Author.Tests.{le-leb, lt-leb, ltb-true, ltb-false}
use Rattle.text.specs.Bytes.{place}
use Rattle.text.specs.Cut.{cut}
use Rattle.text.proofs.Tests.{taken, left, by_test}
use Rattle.text.proofs.Cuts.{rest_last, rest_more, rest_bound}
use Rattle.container_layout.specs.Mo.{piece_at, segment}
use Rattle.text.specs.declared.Stretch.{Stretch}
use Rattle.std.specs.Prelude.{Option, Some, None}

-- one piece is passed over
skipped : (at k : ℕ) (p : List ℕ) (ps : List (List ℕ)) → (k ≡ 0 → ⊥) → (n : ℕ) → at + length p + 1 ≡ n → piece_at at k (p ∷ ps) ≡ piece_at n (k - 1) ps
unfolding piece_at
skipped at zero p ps z n e = absurd (z refl)
skipped at (suc k) p ps z n e = let q : suc k - 1 ≡ k = omega arith in rw (q, e)

pub past : (at k : ℕ) (p : List ℕ) → (k ≡ 0 → ⊥) → piece_at at k (p ∷ []) ≡ None
unfolding piece_at
past at zero p z = absurd (z refl)
past at (suc k) p z = refl

-- the segment sought is one of those from at on
module _ (t : List ℕ) (start form : ℕ) where
  abbrev pub Sought : ℕ → ℕ → Type 0
  Sought left at = piece_at start form (cut 0 t) ≡ piece_at (start + at) left (cut 0 (drop at t))

  pub sought_first : Sought form 0
  sought_first = let z : start + 0 ≡ start = omega arith in rw z

  module _ (left at end : ℕ) (e : end ≡ at + place 0 (drop at t)) (i : at ≤ length t) (m : Sought left at) where
    piece_length : length (take (end - at) (drop at t)) ≡ end - at
    piece_length = length-take-le (end - at) (drop at t) (omega (arith, length-drop at t, rest_bound 0 t at end e i))

    pub sought_here : left ≡ 0 → Some (record { start = start + at; len = end - at }) ≡ piece_at start form (cut 0 t)
    unfolding piece_at
    sought_here z =
        by_test (Some (record { start = start + at; len = end - at }) ≡ piece_at start form (cut 0 t)) (ltb end (length t))
        (λ q. sym (m ∙ rw (z, rest_more 0 t at end e (ltb-true _ _ q), piece_length)))
        (λ q. sym (m ∙ rw (z, rest_last 0 t at end e i (ltb-false _ _ q), piece_length)))

    pub sought_none : (left ≡ 0 → ⊥) → length t ≤ end → None ≡ piece_at start form (cut 0 t)
    sought_none z h = sym (m ∙ ap (piece_at (start + at) left) (rest_last 0 t at end e i h) ∙ past (start + at) left _ z)

    pub sought_on : (left ≡ 0 → ⊥) → end < length t → Sought (left - 1) (end + 1)
    sought_on z h = m ∙ ap (piece_at (start + at) left) (rest_more 0 t at end e h) ∙ skipped (start + at) left _ _ z (start + (end + 1)) (omega (arith, piece_length))

module _ (s : List ℕ) (start len form : ℕ) where
  pub segment_out : length s < start + len → None ≡ segment s start len form
  unfolding segment
  segment_out h = sym (left _ _ (lt-leb (start + len) (length s) h))

  pub segment_in_lem : {r : Option Stretch} → start + len ≤ length s → r ≡ piece_at start form (cut 0 (take (start + len - start) (drop start s))) → r ≡ segment s start len form
  unfolding segment
  segment_in_lem h e =
      e ∙ ap (λ (n : ℕ). piece_at start form (cut 0 (take n (drop start s)))) (add-sub_cancel_left start len)
      ∙ sym (taken _ _ (le-leb (start + len) (length s) h))
