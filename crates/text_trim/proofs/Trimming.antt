-- Trimming as loops meet it that go over the characters at each end, and the trimmed text as a part of the whole. Assumes nothing.
use Prim.Native.Nat.{ℕ, ◌+◌, ◌-◌, ◌<◌, ◌≤◌}
use mathlib.Core.Path.{◌≡◌, refl, sym, ap, ◌∙◌}
use mathlib.Core.Bool.{true, false}
use mathlib.Core.List.{List, [], ◌∷◌, ◌++◌, append-nil}
use native.Mathlib.Omega.{arith}
use native.Mathlib.Nat.{add-sub_cancel_left}
use lib.Dec.{leb, eqb}
use lib.ListN.{length, get_or, take, drop, length-append, length-drop, length-take, take-append-drop}
use lib.Seq.{take-length, take-take, take_at, drop_at, drop-drop, length-take-le, get_or-append-add}
use borrow.Author.Tests.{eqb-true, eq-eqb, le-leb, lt-leb, leb-true}
use Rattle.text.proofs.Tests.{never, taken, left, by_test, and_left, and_right}
use Rattle.text.proofs.Walk.{rest_at, part_from}
use Rattle.text_trim.specs.Trim.{Chars, chars_of, In, lead, edge, trim, trim_start, trim_end}
use Rattle.text_trim.specs.Private.{ends_so, Last, some, none}
use Rattle.text_trim.specs.declared.Set.{Set}
use Rattle.text_trim.proofs.Encodings.{code, Shape, one, two, three, shape_of, solid}
use Rattle.text_trim.proofs.Edges as edges
use Rattle.text_trim.proofs.Edges.{Led, led, lead_char, edge_le, edge_stop, edge_step}
use Rattle.text_trim.proofs.Backs.{end_char, end_none}

-- the front: so many bytes of it are gone over
module _ (cs : Chars) (s : List ℕ) where
  pub lead_le : (t : List ℕ) → lead cs t ≤ length t
  lead_le t = go (led cs t)
    where
      go : Led cs t (lead cs t) → lead cs t ≤ length t
      go (edges.some e u i q n) = omega (arith, n, ap length q, length-append e u)
      go (edges.none f n) = omega (arith, n)

  abbrev pub Over : ℕ → Type 0
  Over n = edge cs s ≡ n + edge cs (drop n s)

  module _ (n k : ℕ) (h : n ≤ length s) (e : k ≡ lead cs (take (length s - n) (drop n s))) where
    here_is : lead cs (drop n s) ≡ k
    here_is = sym (e ∙ ap (lead cs) (part_from s n))

    pub over_fits : n + k ≤ length s
    over_fits = omega (arith, here_is, lead_le (drop n s), length-drop n s)

    pub over_more : Over n → Over (n + k)
    over_more o =
        let z = edge_step cs (drop n s) k here_is (omega (arith, over_fits, length-drop n s)) in
        let d : drop k (drop n s) ≡ drop (n + k) s = drop-drop k n s in
        omega (arith, rw d at z)

    pub over_stop : k ≡ 0 → Over n → n ≡ edge cs s
    over_stop f o = omega (arith, edge_stop cs (drop n s) (here_is ∙ f))

-- whether the last k bytes are a character
pub too_few : (cs : Chars) (k : ℕ) (s : List ℕ) → length s < k → false ≡ ends_so cs k s
too_few cs k s h = rw (lt-leb k (length s) h)

pub ends_told : (cs : Chars) (k : ℕ) (s : List ℕ) → k ≤ length s → {r : ℕ} → r ≡ lead cs (take (length s - (length s - k)) (drop (length s - k) s)) → eqb r k ≡ ends_so cs k s
ends_told cs k s h {r} e = rw (le-leb k (length s) h, e ∙ ap (lead cs) (part_from s (length s - k)))

-- the last character of a text
module _ (set : Set) (s : List ℕ) where
  pub last_empty : length s ≡ 0 → Last (chars_of set) s 0
  last_empty h = none (λ e t i q. omega (arith, ap length q, length-append t e, solid (code set) i)) refl

  -- so many bytes of it stand at the end
  last_led : (k : ℕ) → 0 < k → k ≤ length s → Led (chars_of set) (drop (length s - k) s) k → Last (chars_of set) s k
  last_led k h l (edges.some e t i q n) =
      let z : length t ≡ 0 = omega (arith, ap length q, length-append e t, length-drop (length s - k) s) in
      some e (take (length s - k) s) i
      (sym (take-append-drop (length s - k) s) ∙ ap (λ (x : List ℕ). take (length s - k) s ++ x) (q ∙ ap (λ (x : List ℕ). e ++ x) (empty t z) ∙ append-nil e)) n
    where
      empty : (t : List ℕ) → length t ≡ 0 → t ≡ []
      empty [] h = refl
      empty (b ∷ t) h = absurd (omega arith)
  last_led k h l (edges.none f n) = absurd (omega arith)

  pub last_is : (k : ℕ) → 0 < k → ends_so (chars_of set) k s ≡ true → Last (chars_of set) s k
  last_is k h e =
      let l = leb-true k (length s) (and_left (leb k (length s)) (eqb (lead (chars_of set) (drop (length s - k) s)) k) e) in
      let z : lead (chars_of set) (drop (length s - k) s) ≡ k = eqb-true _ _ (and_right (leb k (length s)) (eqb (lead (chars_of set) (drop (length s - k) s)) k) e) in
      last_led k h l (rw z at (led (chars_of set) (drop (length s - k) s)))

  -- a character that stands at the end is seen there, and by its last byte
  seen : (e t : List ℕ) → In e (chars_of set) → s ≡ t ++ e → ends_so (chars_of set) (length e) s ≡ true
  seen e t i q =
      let l : length s ≡ length t + length e = ap length q ∙ length-append t e in
      let d : drop (length s - length e) s ≡ e ++ [] =
      ap (λ (x : List ℕ). drop (length s - length e) x) q ∙ drop_at t e (length s - length e) (omega arith) ∙ sym (append-nil e) in
      let z : lead (chars_of set) (drop (length s - length e) s) ≡ length e = ap (lead (chars_of set)) d ∙ lead_char (code set) [] i in
      rw (le-leb (length e) (length s) (omega arith), z, eq-eqb (length e) (length e) refl)

  last_byte : (e t : List ℕ) → In e (chars_of set) → s ≡ t ++ e → get_or s (length s - 1) 0 ≡ get_or e (length e - 1) 0
  last_byte e t i q =
      let l : length s ≡ length t + length e = ap length q ∙ length-append t e in
      let z : length s - 1 ≡ length t + (length e - 1) = omega (arith, solid (code set) i) in
      rw z (ap (λ (x : List ℕ). get_or x (length t + (length e - 1)) 0) q ∙ get_or-append-add t e (length e - 1) 0)

  pub last_none : 128 ≤ get_or s (length s - 1) 0 → ends_so (chars_of set) 2 s ≡ false → ends_so (chars_of set) 3 s ≡ false → Last (chars_of set) s 0
  last_none h f g = none (λ e t i q. no (shape_of (code set) i) (seen e t i q) (last_byte e t i q)) refl
    where
      no : {e : List ℕ} → Shape e → ends_so (chars_of set) (length e) s ≡ true → get_or s (length s - 1) 0 ≡ get_or e (length e - 1) 0 → ⊥
      no (one a x y) u v = omega arith
      no (two a b x y z) u v = never (sym f ∙ u)
      no (three a b c x y z m n) u v = never (sym g ∙ u)

  -- a byte below 128 is a character by itself
  pub last_ascii : 0 < length s → get_or s (length s - 1) 0 < 128 → (r : ℕ) → r ≡ lead (chars_of set) (get_or s (length s - 1) 0 ∷ []) → Last (chars_of set) s r
  last_ascii h l r p = go r (rw (← d) at p) (rw (← (rw (← d) at p)) at (led (chars_of set) (drop (length s - 1) s)))
    where
      d : drop (length s - 1) s ≡ get_or s (length s - 1) 0 ∷ []
      d = rest_at s (length s - 1) (omega arith) ∙ ap (λ (x : List ℕ). get_or s (length s - 1) 0 ∷ x) (gone (drop (length s - 1 + 1) s) (omega (arith, length-drop (length s - 1 + 1) s)))
        where
          gone : (t : List ℕ) → length t ≡ 0 → t ≡ []
          gone [] h = refl
          gone (b ∷ t) h = absurd (omega arith)

      no : {e : List ℕ} → Shape e → (r : ℕ) → r ≡ 0 → r ≡ lead (chars_of set) (drop (length s - 1) s) → ends_so (chars_of set) (length e) s ≡ true → get_or s (length s - 1) 0 ≡ get_or e (length e - 1) 0 → ⊥
      no (one a x y) r m p u v =
          let z = eqb-true (lead (chars_of set) (drop (length s - 1) s)) 1 (and_right (leb 1 (length s)) (eqb (lead (chars_of set) (drop (length s - 1) s)) 1) u) in
          omega (arith, z)
      no (two a b x y z) r m p u v = omega arith
      no (three a b c x y z m n) r k p u v = omega arith

      go : (r : ℕ) → r ≡ lead (chars_of set) (drop (length s - 1) s) → Led (chars_of set) (drop (length s - 1) s) r → Last (chars_of set) s r
      go r p (edges.some e t i q n) =
          let z : r ≡ 1 = omega (arith, ap length q, length-append e t, length-drop (length s - 1) s, solid (code set) i) in
          rw z (last_led 1 (omega arith) (omega arith) (rw z at (edges.some e t i q n)))
      go r p (edges.none f n) = none (λ e t i q. no (shape_of (code set) i) r n p (seen e t i q) (last_byte e t i q)) n

-- the end: without the characters there, the text is what its first e bytes are
module _ (set : Set) (s : List ℕ) where
  abbrev pub Cut : ℕ → Type 0
  Cut e = trim_end (chars_of set) s ≡ trim_end (chars_of set) (take e s)

  pub cut_none : Cut (length s)
  cut_none = ap (trim_end (chars_of set)) (sym (take-length s))

  module _ (e k : ℕ) (h : e ≤ length s) (l : Last (chars_of set) (take e s) k) where
    pub cut_fits : k ≤ e
    cut_fits = go l
      where
        go : Last (chars_of set) (take e s) k → k ≤ e
        go (some x t i q n) = omega (arith, n, ap length q, length-append t x, length-take-le e s h)
        go (none f n) = omega (arith, n)

    pub cut_more : Cut e → Cut (e - k)
    cut_more c = go l
      where
        go : Last (chars_of set) (take e s) k → Cut (e - k)
        go (some x t i q n) =
            let m : length t ≡ e - k = omega (arith, n, ap length q, length-append t x, length-take-le e s h) in
            let z : take (e - k) s ≡ t = sym (take-take (e - k) e s (omega arith)) ∙ ap (take (e - k)) q ∙ take_at t x (e - k) m in
            c ∙ ap (trim_end (chars_of set)) q ∙ end_char (code set) t i ∙ ap (trim_end (chars_of set)) (sym z)
        go (none f n) = let z : e - k ≡ e = omega (arith, n) in rw z c

    pub cut_stop : k ≡ 0 → Cut e → e ≡ length (trim_end (chars_of set) s)
    cut_stop w c = go l
      where
        go : Last (chars_of set) (take e s) k → e ≡ length (trim_end (chars_of set) s)
        go (some x t i q n) = absurd (omega (arith, n, solid (code set) i))
        go (none f n) = sym (ap length (c ∙ end_none (code set) (take e s) f) ∙ length-take-le e s h)

-- the trimmed text as a part of the whole
module _ (cs : Chars) where
  pub end_prefix : (s : List ℕ) → take (length (trim_end cs s)) s ≡ trim_end cs s
  unfolding trim_end
  end_prefix [] = refl
  end_prefix (b ∷ s) =
      by_test (take (length (trim_end cs (b ∷ s))) (b ∷ s) ≡ trim_end cs (b ∷ s)) (eqb (edge cs (b ∷ s)) (length (b ∷ s)))
      (λ h. let z : trim_end cs (b ∷ s) ≡ [] = taken _ _ h in rw z)
      (λ h. let z : trim_end cs (b ∷ s) ≡ b ∷ trim_end cs s = left _ _ h in rw z (ap (λ (l : List ℕ). b ∷ l) (end_prefix s)))

  end_length : (s : List ℕ) → length (trim_end cs s) ≤ length s
  end_length s = omega (arith, ap length (end_prefix s), length-take (length (trim_end cs s)) s)

  module _ (s : List ℕ) where
    pub trim_is : trim cs s ≡ trim_end cs (drop (edge cs s) s)
    unfolding trim trim_start
    trim_is = refl

    pub trim_bound : edge cs s + length (trim cs s) ≤ length s
    trim_bound = rw trim_is (omega (arith, end_length (drop (edge cs s) s), length-drop (edge cs s) s, edge_le cs s))

    pub trim_le : length (trim cs s) ≤ length s
    trim_le = omega (arith, trim_bound)

    module _ (f k : ℕ) (e : f ≡ edge cs s) where
      pub trim_length : k ≡ length (trim_end cs (take (length s - f) (drop f s))) → k ≡ length (trim cs s)
      trim_length h = h ∙ ap (λ (l : List ℕ). length (trim_end cs l)) (part_from s f) ∙ rw e (ap length (sym trim_is))

      pub trim_part : k ≡ length (trim cs s) → take (f + k - f) (drop f s) ≡ trim cs s
      trim_part h = rw (add-sub_cancel_left, h, e, trim_is) (end_prefix (drop (edge cs s) s))
