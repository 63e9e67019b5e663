-- The place of a segment holds that very segment, where there are so many. Assumes nothing.
use Prim.Native.Nat.{ℕ, zero, suc, ◌+◌, ◌-◌, ◌<◌, ◌≤◌}
use mathlib.Core.Path.{◌≡◌, refl, ap, ◌∙◌}
use mathlib.Core.List.{List, [], ◌∷◌}
use native.Mathlib.Omega.{arith}
use lib.ListN.{length, get_or, take, drop, length-drop}
use lib.Seq.{length-take-le}
use lib.Dec.{ltb}
use borrow.Author.Tests.{le-leb, ltb-true, ltb-false}
use Rattle.text.specs.Bytes.{place}
use Rattle.text.specs.Cut.{cut}
use Rattle.text.proofs.Tests.{taken, by_test}
use Rattle.text.proofs.Cuts.{rest_last, rest_more, rest_bound}
use Rattle.text.proofs.Parts.{part_of_part}
use Rattle.container_layout.specs.Mo.{piece_at, segment, segments}
use Rattle.std.specs.Prelude.{Some}

-- the k-th of the pieces ps of s, the first of which starts at from
pub record Holds (s : List ℕ) (from k : ℕ) (ps : List (List ℕ)) : Type 0 where
  pub start : ℕ
  pub len : ℕ
  pub is : piece_at from k ps ≡ Some (record { start = start; len = len })
  pub text : take len (drop start s) ≡ get_or ps k []
  pub inside : start + len ≤ length s

module _ (s : List ℕ) (start len : ℕ) (h : start + len ≤ length s) where
  abbrev t : List ℕ
  t = take len (drop start s)

  t_length : length t ≡ len
  t_length = length-take-le len (drop start s) (omega (arith, length-drop start s))

  module _ (at : ℕ) (i : at ≤ length t) where
    abbrev end : ℕ
    end = at + place 0 (drop at t)

    abbrev piece : List ℕ
    piece = take (end - at) (drop at t)

    piece_length : length piece ≡ end - at
    piece_length = length-take-le (end - at) (drop at t) (omega (arith, length-drop at t, rest_bound 0 t at end refl i))

    here : (ps : List (List ℕ)) → Holds s (start + at) 0 (piece ∷ ps)
    unfolding piece_at
    here ps = record {
      start = start + at;
      len = length piece;
      is = refl;
      text = rw piece_length (part_of_part s start len at (end - at) h (omega (arith, t_length, rest_bound 0 t at end refl i)));
      inside = omega (arith, piece_length, t_length, rest_bound 0 t at end refl i);
    }

    later : (k : ℕ) (ps : List (List ℕ)) → Holds s (start + (end + 1)) k ps → Holds s (start + at) (suc k) (piece ∷ ps)
    unfolding piece_at
    later k ps q =
        let z : start + at + length piece + 1 ≡ start + (end + 1) = omega (arith, piece_length) in
        record { start = q.start; len = q.len; is = ap (λ (n : ℕ). piece_at n k ps) z ∙ q.is; text = q.text; inside = q.inside }

  holds_from : (k at : ℕ) → at ≤ length t → k < length (cut 0 (drop at t)) → Holds s (start + at) k (cut 0 (drop at t))
  holds_from zero at i l =
      by_test (Holds s (start + at) 0 (cut 0 (drop at t))) (ltb (end at i) (length t))
      (λ q. rw (rest_more 0 t at (end at i) refl (ltb-true _ _ q)) (here at i _))
      (λ q. rw (rest_last 0 t at (end at i) refl i (ltb-false _ _ q)) (here at i _))
  holds_from (suc k) at i l =
      by_test (Holds s (start + at) (suc k) (cut 0 (drop at t))) (ltb (end at i) (length t))
      (λ q.
      let m = rest_more 0 t at (end at i) refl (ltb-true _ _ q) in
      let n : k < length (cut 0 (drop (end at i + 1) t)) = omega (arith, ap length m) in
      rw m (later at i k _ (holds_from k (end at i + 1) (omega (arith, ltb-true (end at i) (length t) q)) n)))
      (λ q. let m = rest_last 0 t at (end at i) refl i (ltb-false _ _ q) in absurd (omega (arith, ap length m)))

  -- the segment that a form names
  pub segment_holds : (form : ℕ) → form < length (segments s start len) → Holds s start form (segments s start len)
  segment_holds form l = let z : start + 0 ≡ start = omega arith in rw z at (holds_from form 0 (omega arith) l)

  pub segment_is : (form : ℕ) → segment s start len form ≡ piece_at start form (segments s start len)
  unfolding segment
  segment_is form = taken _ _ (le-leb (start + len) (length s) h)
