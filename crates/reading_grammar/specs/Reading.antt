-- The Standard reading as a function (SPEC 6): the tree of a text, or none. It finds exactly what the grammar
-- derives (proofs/Complete.antt, `agrees`). Fuel bounds the steps.
use Rattle.std.specs.Prelude.{ℕ, zero, suc, ◌+◌, ◌*◌, ◌^◌, true, false, ◌&&◌, List, [], ◌∷◌, length, ltb, eqb}
use Prim.Native.Char.{code}
use Rattle.rules.specs.Tree.{Tree, var, int, nay, bin, cond, Reading, tree, none}
use Rattle.reading_grammar.specs.Tokens.{tokens}
use Rattle.reading_grammar.specs.Grammar.{Token, sign, number, mark, rank, loosest, full}

-- a tree and the tokens after it, or none
pub data Outcome : Type 0 where
  got : Tree → List Token → Outcome
  bad : Outcome

abbrev pub and_then : Outcome → (Tree → List Token → Outcome) → Outcome
and_then (got t r) k = k t r
and_then bad k = bad

-- the same, past the byte c that has to follow the tree
abbrev pub past : ℕ → Outcome → (Tree → List Token → Outcome) → Outcome
past c (got t (mark b ∷ r)) k = elim (eqb b c) [ true ↦ k t r | false ↦ bad ]
past c (got t (sign op ∷ r)) k = bad
past c (got t (number v ∷ r)) k = bad
past c (got t []) k = bad
past c bad k = bad

unfoldable mutual
  pub level : ℕ → ℕ → List Token → Outcome
  level zero l s = bad
  level (suc f) zero s = prefix f s
  level (suc f) (suc k) s = and_then (level f k s) (λ t r. more f k t r)

  -- t is read: the operators of rank k + 1 after it, each with its right operand
  pub more : ℕ → ℕ → Tree → List Token → Outcome
  more zero k t s = bad
  more (suc f) k t [] = got t []
  more (suc f) k t (number v ∷ s) = got t (number v ∷ s)
  more (suc f) k t (sign op ∷ s) = elim (eqb (rank op) (suc k)) [
    | true ↦ and_then (level f k s) (λ u r. more f k (bin op t u) r)
    | false ↦ got t (sign op ∷ s)
  ]
  more (suc f) k t (mark b ∷ s) = elim (eqb b (code "?") && eqb k loosest) [
    | true ↦ past (code ":") (level f full s) (λ u r. and_then (level f full r) (λ v q. got (cond t u v) q))
    | false ↦ got t (mark b ∷ s)
  ]

  pub prefix : ℕ → List Token → Outcome
  prefix zero s = bad
  prefix (suc f) [] = bad
  prefix (suc f) (sign op ∷ s) = bad
  prefix (suc f) (number v ∷ s) = elim (ltb v (2 ^ 64)) [ true ↦ got (int v) s | false ↦ bad ]
  prefix (suc f) (mark b ∷ s) = elim (eqb b (code "n")) [
    | true ↦ got var s
    | false ↦ elim (eqb b (code "!")) [
      | true ↦ and_then (prefix f s) (λ t r. got (nay t) r)
      | false ↦ elim (eqb b (code "(")) [
        | true ↦ past (code ")") (level f full s) (λ t r. got t r)
        | false ↦ bad
      ]
    ]
  ]

-- fuel that is enough, and the reading at it: proofs/Steps.antt has its equations, without fuel
abbrev pub μ : ℕ → List Token → ℕ
μ l s = (full + 2) * length s + l + 1

unfoldable pub Level : ℕ → List Token → Outcome
unfolding level
Level l s = level (suc (μ l s)) l s

unfoldable pub More : ℕ → Tree → List Token → Outcome
unfolding level
More k t s = more (suc ((full + 2) * length s)) k t s

unfoldable pub Prefix : List Token → Outcome
unfolding level
Prefix s = prefix (suc ((full + 2) * length s)) s

-- a whole text
abbrev pub whole : Outcome → Reading
whole (got t []) = tree t
whole (got t (x ∷ r)) = none
whole bad = none

unfoldable pub reading : List Token → Reading
unfolding Level
reading s = whole (Level full s)

-- the standard reading of a text of bytes
unfoldable pub standard : List ℕ → Reading
unfolding reading tokens
standard s = reading (tokens s)
