-- What the reading gives, the grammar derives: by induction on the fuel, an outcome is a text of the level with which the tokens begin.
use Prim.Native.Nat.{ℕ, zero, suc, ◌<◌, ◌^◌}
use mathlib.Core.Path.{◌≡◌, refl, ap, ◌∙◌}
use mathlib.Core.Bool.{Bool, true, false, ◌&&◌}
use mathlib.Core.List.{List, [], ◌∷◌, ◌++◌, append_assoc, append-nil}
use native.Mathlib.Omega.{arith}
use lib.Dec.{ltb, eqb}
use borrow.Author.Tests.{eqb-true, ltb-true}
use Rattle.rules.specs.Tree.{Tree, bin, cond, Op, cmp, and, or, rem, eq, ne, ge, le, gt, lt, tree, calc, div, plus, minus, times}
use Rattle.reading_grammar.specs.Grammar.{Token, sign, number, mark, ask, colon, closing, rank, loosest, full, Derives, variable, integer, bracket, negation, tighter, binary, conditional}
use Rattle.reading_grammar.specs.Reading.{Outcome, got, bad, and_then, past, level, more, prefix, Level, whole, reading, μ}
use Rattle.reading_grammar.proofs.Choice.{both}

-- an outcome of s that is right: its tree is of a text of level l with which s begins
pub data Right (l : ℕ) (s : List Token) : Outcome → Type 0 where
  right : {t : Tree} {r : List Token} (p : List Token) → s ≡ p ++ r → Derives l p t → Right l s (got t r)
  nothing : Right l s bad

chain : {l k : ℕ} {s u : List Token} {o : Outcome} {K : Tree → List Token → Outcome} → Right k u o
    → ((t : Tree) (r p : List Token) → u ≡ p ++ r → Derives k p t → Right l s (K t r)) → Right l s (and_then o K)
chain (right p e d) h = h _ _ p e d
chain nothing h = nothing

branch : {l : ℕ} {s : List Token} (b : Bool) {x y : Outcome} → (b ≡ true → Right l s x) → Right l s y → Right l s (elim b [ true ↦ x | false ↦ y ])
branch true p q = p refl
branch false p q = q

passed : {l k : ℕ} {s u : List Token} (c : ℕ) {o : Outcome} {K : Tree → List Token → Outcome} → Right k u o
    → ((t : Tree) (r p : List Token) → u ≡ p ++ mark c ∷ r → Derives k p t → Right l s (K t r)) → Right l s (past c o K)
passed c (right {r = []} p e d) h = nothing
passed c (right {r = sign op ∷ r} p e d) h = nothing
passed c (right {r = number v ∷ r} p e d) h = nothing
passed c (right {r = mark b ∷ r} p e d) h = branch (eqb b c) (λ z. h _ r p (rw (← eqb-true b c z) e) d) nothing
passed c nothing h = nothing

asks : (b k : ℕ) → (eqb b 63 && eqb k loosest) ≡ true → (b ≡ 63) × (k ≡ loosest)
asks b k e = let z = both (eqb b 63) (eqb k loosest) e in (eqb-true _ _ z.0, eqb-true _ _ z.1)

-- the table's only fact: ?: is looser than every operator
pub low : (op : Op) → rank op < full
low (cmp eq) = omega arith
low (cmp ne) = omega arith
low (cmp ge) = omega arith
low (cmp le) = omega arith
low (cmp gt) = omega arith
low (cmp lt) = omega arith
low and = omega arith
low or = omega arith
low rem = omega arith
low div = omega arith
low (calc plus) = omega arith
low (calc minus) = omega arith
low (calc times) = omega arith

at_zero : {l : ℕ} {s : List Token} {t : Tree} (b c : ℕ) → eqb b c ≡ true → Derives l (mark c ∷ s) t → Derives l (mark b ∷ s) t
at_zero b c e d = rw (eqb-true b c e) d

asked : {k : ℕ} {p m n : List Token} {t u v : Tree} → k ≡ loosest → Derives k p t → Derives full m u → Derives full n v
    → Derives (suc k) (p ++ ask ∷ m ++ colon ∷ n) (cond t u v)
asked e d w x = rw e (conditional (rw e at d) w x)

mutual
  unfolding level

  pub sound_level : (f l : ℕ) (s : List Token) → Right l s (level f l s)
  sound_level zero l s = nothing
  sound_level (suc f) zero s = sound_prefix f s
  sound_level (suc f) (suc k) s = chain (sound_level f k s) (λ t r p e d. sound_more f k t r s p e (tighter d) (λ _. d))

  sound_more : (f k : ℕ) (t : Tree) (r s p : List Token) → s ≡ p ++ r → Derives (suc k) p t → (k ≡ loosest → Derives k p t) → Right (suc k) s (more f k t r)
  sound_more zero k t r s p e d g = nothing
  sound_more (suc f) k t [] s p e d g = right p e d
  sound_more (suc f) k t (number v ∷ r) s p e d g = right p e d
  sound_more (suc f) k t (sign op ∷ r) s p e d g = branch (eqb (rank op) (suc k))
      (λ h. chain (sound_level f k r) (λ u q m j w. sound_more f k (bin op t u) q s (p ++ sign op ∷ m) (e ∙ rw (j, append_assoc)) (binary (eqb-true _ _ h) d w)
      (λ z. absurd (omega (arith, low op, eqb-true (rank op) (suc k) h)))))
      (right p e d)
  sound_more (suc f) k t (mark b ∷ r) s p e d g = branch (eqb b 63 && eqb k loosest)
      (λ h. passed 58 (sound_level f full r) (λ u q m j w. chain (sound_level f full q) (λ v o n i x.
      let (y, z) = asks b k h in
      right {r = o} (p ++ ask ∷ m ++ colon ∷ n) (e ∙ rw (y, j, i) (simp append_assoc)) (asked z (g z) w x))))
      (right p e d)

  pub sound_prefix : (f : ℕ) (s : List Token) → Right 0 s (prefix f s)
  sound_prefix zero s = nothing
  sound_prefix (suc f) [] = nothing
  sound_prefix (suc f) (sign op ∷ s) = nothing
  sound_prefix (suc f) (number v ∷ s) = branch (ltb v (2 ^ 64)) (λ h. right (number v ∷ []) refl (integer (ltb-true _ _ h))) nothing
  sound_prefix (suc f) (mark b ∷ s) =
      branch (eqb b 110) (λ h. right (mark b ∷ []) refl (at_zero b 110 h variable))
      (branch (eqb b 33) (λ h. chain (sound_prefix f s) (λ t r p e d. right (mark b ∷ p) (ap (λ (x : List Token). mark b ∷ x) e) (at_zero b 33 h (negation d))))
      (branch (eqb b 40) (λ h. passed 41 (sound_level f full s)
      (λ t r p e d. right (mark b ∷ p ++ closing ∷ []) (rw (e, append_assoc)) (at_zero b 40 h (bracket d)))) nothing))

-- the whole text
ended : {s : List Token} {o : Outcome} {t : Tree} → Right full s o → whole o ≡ tree t → Derives full s t
ended {t} (right {t = u} {r = []} p e d) w = let z : u ≡ t = cc in rw (e, append-nil, ← z) d
ended (right {r = x ∷ r} p e d) w = let z : ◌≡◌ {A = ℕ} 0 1 = cc in absurd (omega arith)
ended nothing w = let z : ◌≡◌ {A = ℕ} 0 1 = cc in absurd (omega arith)

pub sound : (s : List Token) (t : Tree) → reading s ≡ tree t → Derives full s t
unfolding reading Level
sound s t e = ended (sound_level (suc (μ full s)) full s) e
