-- The scans of specs/Scan.antt go byte by byte, as the loops do: one law for each turn of a loop and one for its end. Assumes nothing.
use Prim.Native.Nat.{ℕ, suc, ◌+◌, ◌-◌, ◌<◌, ◌≤◌}
use mathlib.Core.Path.{◌≡◌, refl, sym, ◌∙◌}
use mathlib.Core.Bool.{Bool, true, false, ◌&&◌}
use mathlib.Core.List.{List, [], ◌∷◌}
use native.Mathlib.Omega.{arith}
use lib.ListN.{length, get_or, drop}
use lib.Seq.{drop-length}
use lib.Dec.{eqb, ltb}
use borrow.Author.Tests.{eqb-true, lt-ltb, le-ltb, ltb-true, ltb-false}
use Rattle.std.specs.Prelude.{Option, Some, None}
use Rattle.text.proofs.Walk.{rest_at}
use Rattle.rules.proofs.Trees.{both_left}
use Rattle.reading_scan.specs.Scan.{stands, counted, index_from, index_of, found_at, deeper, further, end_from}
use Rattle.reading_scan.specs.Private.{matched}

pub counted_le : (n b ch : ℕ) → counted n b ch ≤ n + 1
counted_le n b ch = go (eqb ch b)
  where
    go : (x : Bool) → elim x [ true ↦ n + 1 | false ↦ n ] ≤ n + 1
    go true = omega arith
    go false = omega arith

pub matched_le : (pat : List ℕ) (n ch : ℕ) → matched pat n ch ≤ n + 1
matched_le pat n ch = go (stands pat n ch)
  where
    go : (x : Bool) → elim x [ true ↦ n + 1 | false ↦ 0 ] ≤ n + 1
    go true = omega arith
    go false = omega arith

-- one byte of `index_of`, whether it stands in the pattern there or not: no match ends with it, one does
turn_on :
    (x : Bool) (n m o c i : ℕ) (F : ℕ → ℕ) → (eqb (elim x [ true ↦ n + 1 | false ↦ 0 ]) m && eqb o c) ≡ false →
    elim x [ true ↦ elim (eqb (n + 1) m && eqb o c) [ true ↦ i - n | false ↦ F (n + 1) ] | false ↦ F 0 ] ≡
    F (elim x [ true ↦ n + 1 | false ↦ 0 ])
turn_on true n m o c i F h = rw h
turn_on false n m o c i F h = refl

turn_ends :
    (x : Bool) (n m o c i : ℕ) (F : ℕ → ℕ) → 0 < m → (eqb (elim x [ true ↦ n + 1 | false ↦ 0 ]) m && eqb o c) ≡ true →
    i + 1 - elim x [ true ↦ n + 1 | false ↦ 0 ] ≡
    elim x [ true ↦ elim (eqb (n + 1) m && eqb o c) [ true ↦ i - n | false ↦ F (n + 1) ] | false ↦ F 0 ]
turn_ends true n m o c i F p e = rw e (omega arith)
turn_ends false n m o c i F p e = absurd (omega (arith, eqb-true 0 m (both_left (eqb 0 m) (eqb o c) e)))

here_is : (pat s : List ℕ) {x : ℕ} → x < length s → x ≡ index_of pat s → Some x ≡ found_at pat s
here_is pat s h e = let k : index_of pat s < length s = omega arith in rw (e, lt-ltb (index_of pat s) (length s) k, found_at)

module _ (pat s : List ℕ) (i n opened closed : ℕ) (was : index_of pat s ≡ index_from pat (drop i s) i n opened closed) where
  -- after a byte: q signs matched, o and c brackets opened and closed
  module _ (q o c : ℕ) (h : i < length s) (m : q ≡ matched pat n (get_or s i 0)) (u : o ≡ counted opened 40 (get_or s i 0))
      (v : c ≡ counted closed 41 (get_or s i 0)) where
    pub index_on : (eqb q (length pat) && eqb o c) ≡ false → index_of pat s ≡ index_from pat (drop (i + 1) s) (i + 1) q o c
    unfolding index_from
    index_on w =
        was ∙ rw (rest_at s i h, m, u, v)
        (turn_on (stands pat n (get_or s i 0)) n (length pat) (counted opened 40 (get_or s i 0)) (counted closed 41 (get_or s i 0)) i
        (λ k. index_from pat (drop (i + 1) s) (i + 1) k (counted opened 40 (get_or s i 0)) (counted closed 41 (get_or s i 0)))
        (rw (m, u, v) at w))

    pub index_here : 0 < length pat → (eqb q (length pat) && eqb o c) ≡ true → Some (i + 1 - q) ≡ found_at pat s
    unfolding index_from
    index_here p e =
        let l : q ≡ length pat = eqb-true _ _ (both_left (eqb q (length pat)) (eqb o c) e) in
        here_is pat s (omega arith)
        (
        rw m
        (turn_ends (stands pat n (get_or s i 0)) n (length pat) (counted opened 40 (get_or s i 0)) (counted closed 41 (get_or s i 0)) i
        (λ k. index_from pat (drop (i + 1) s) (i + 1) k (counted opened 40 (get_or s i 0)) (counted closed 41 (get_or s i 0))) p (rw (m, u, v) at e)
        ∙ sym (was ∙ rw (rest_at s i h))))

  pub index_end : i ≡ length s → None ≡ found_at pat s
  unfolding index_from
  index_end e = let l : index_of pat s ≡ length s = was ∙ rw (e, drop-length) in rw (le-ltb (index_of pat s) (length s) (omega arith), found_at)

pub index_zero : (pat s : List ℕ) → index_of pat s ≡ index_from pat (drop 0 s) 0 0 0 0
unfolding index_of
index_zero pat s = refl

-- what the answer of `index_of` says
pub found_is : (pat s : List ℕ) {i : ℕ} → Some i ≡ found_at pat s → (i ≡ index_of pat s) × (i < length s)
found_is pat s {i} e = go (ltb (index_of pat s) (length s)) refl e
  where
    go :
        (x : Bool) → ltb (index_of pat s) (length s) ≡ x → Some i ≡ elim x as (λ _. Option ℕ) [ true ↦ Some (index_of pat s) | false ↦ None ] →
        (i ≡ index_of pat s) × (i < length s)
    go true q e = let z : i ≡ index_of pat s = cc in (z, omega (arith, ltb-true _ _ q))
    go false q e = let z : ◌≡◌ {A = ℕ} 0 1 = cc in absurd (omega arith)

pub not_found : (pat s : List ℕ) → None ≡ found_at pat s → length s ≤ index_of pat s
not_found pat s e = go (ltb (index_of pat s) (length s)) refl e
  where
    go :
        (x : Bool) → ltb (index_of pat s) (length s) ≡ x → None ≡ elim x as (λ _. Option ℕ) [ true ↦ Some (index_of pat s) | false ↦ None ] →
        length s ≤ index_of pat s
    go true q e = let z : ◌≡◌ {A = ℕ} 0 1 = cc in absurd (omega arith)
    go false q e = ltb-false _ _ q

-- a pattern that is found stands in the text whole
turn_fits :
    (x : Bool) (n m o c i l : ℕ) (F : ℕ → ℕ) → n ≤ i → ((q : ℕ) → q ≤ i + 1 → F q < i + 1 + l → F q + m ≤ i + 1 + l) →
    elim x [ true ↦ elim (eqb (n + 1) m && eqb o c) [ true ↦ i - n | false ↦ F (n + 1) ] | false ↦ F 0 ] < i + suc l →
    elim x [ true ↦ elim (eqb (n + 1) m && eqb o c) [ true ↦ i - n | false ↦ F (n + 1) ] | false ↦ F 0 ] + m ≤ i + suc l
turn_fits true n m o c i l F b h = go (eqb (n + 1) m && eqb o c) (λ e. eqb-true (n + 1) m (both_left (eqb (n + 1) m) (eqb o c) e))
  where
    go :
        (y : Bool) → (y ≡ true → n + 1 ≡ m) → elim y [ true ↦ i - n | false ↦ F (n + 1) ] < i + suc l →
        elim y [ true ↦ i - n | false ↦ F (n + 1) ] + m ≤ i + suc l
    go true e k = let d : n + 1 ≡ m = e refl in omega arith
    go false e k = let d : F (n + 1) + m ≤ i + 1 + l = h (n + 1) (omega arith) (omega arith) in omega arith
turn_fits false n m o c i l F b h = λ k. let d : F 0 + m ≤ i + 1 + l = h 0 (omega arith) (omega arith) in omega arith

fits_from :
    (pat s : List ℕ) (i n o c : ℕ) → n ≤ i → index_from pat s i n o c < i + length s → index_from pat s i n o c + length pat ≤ i + length s
unfolding index_from
fits_from pat [] i n o c b h = absurd (omega arith)
fits_from pat (ch ∷ s) i n o c b h =
    turn_fits (stands pat n ch) n (length pat) (counted o 40 ch) (counted c 41 ch) i (length s)
    (λ q. index_from pat s (i + 1) q (counted o 40 ch) (counted c 41 ch)) b
    (λ q k j. fits_from pat s (i + 1) q (counted o 40 ch) (counted c 41 ch) k j) h

pub index_fits : (pat s : List ℕ) → index_of pat s < length s → index_of pat s + length pat ≤ length s
unfolding index_of
index_fits pat s h = omega (arith, fits_from pat s 0 0 0 0 (omega arith) (omega arith))

-- `parse_parens`
pub deeper_le : (level ch : ℕ) → deeper level ch ≤ level + 1
deeper_le level ch = go (ltb 0 level) (eqb ch 41)
  where
    go :
        (x y : Bool) →
        elim x [ true ↦ elim y [ true ↦ level - 1 | false ↦ counted level 40 ch ] | false ↦ counted level 40 ch ] ≤ level + 1
    go true true = omega arith
    go true false = counted_le level 40 ch
    go false y = counted_le level 40 ch

pub further_le : (level index ch : ℕ) → further level index ch ≤ index + 1
further_le level index ch = go (ltb 0 level)
  where
    go : (x : Bool) → elim x [ true ↦ index + 1 | false ↦ counted index 40 ch ] ≤ index + 1
    go true = omega arith
    go false = counted_le index 40 ch

pub end_on :
    (s : List ℕ) (r i level index l k : ℕ) → i < length s → r ≡ end_from (drop i s) level index →
    l ≡ deeper level (get_or s i 0) → k ≡ further level index (get_or s i 0) → r ≡ end_from (drop (i + 1) s) l k
unfolding end_from
end_on s r i level index l k h e u v = e ∙ rw (rest_at s i h, u, v)

pub end_end : (s : List ℕ) (r i level index : ℕ) → i ≡ length s → r ≡ end_from (drop i s) level index → index ≡ r
unfolding end_from
end_end s r i level index h e = sym (e ∙ rw (h, drop-length))
