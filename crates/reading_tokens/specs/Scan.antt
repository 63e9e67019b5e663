-- The token that stands next: the first of the tokens of the text from a position on (grammar's specs/Tokens.antt; document
-- 01, "Two readings of a rule"), and the position after it.
use Rattle.std.specs.Prelude.{ℕ, suc, ◌+◌, ◌^◌, ◌≡◌, true, false, List, [], ◌∷◌, drop, ltb, eqb, Option, Some, None}
use Rattle.std.proofs.Math.Option.{none, some}
use Rattle.text.specs.Bytes.{front}
use Rattle.rules.specs.Tree.{Op}
use Rattle.rules.specs.Store.{node_code}
use Rattle.reading_grammar.specs.Grammar.{Token, sign, number, mark, rank}
use Rattle.reading_grammar.specs.Tokens.{tokens, digit, blank, two}
use Rattle.reading_tokens.specs.declared.Next.{Next}
use Rattle.reading_tokens.specs.declared.Next.TheVariants.{End, Sign, Number, Huge, Mark}

-- the code of a binary operator's node, and the operator's rank
pub record Operator (c : ℕ) : Type 0 where
  pub op : Op
  pub is : c ≡ node_code op

pub record Ranks (c r : ℕ) : Type 0 where
  pub is : (op : Op) → c ≡ node_code op → r ≡ rank op

-- the position past the blanks
unfoldable pub skipped : List ℕ → ℕ → ℕ
skipped s at = at + front blank (drop at s)

-- how many bytes the token has that a text begins with: its digits, two of an operator, or one
unfoldable pub width : List ℕ → ℕ
width [] = 0
width (b ∷ s) = elim (digit b) [ true ↦ suc (front digit s) | false ↦ elim (two b s) [ some op ↦ 2 | none ↦ 1 ] ]

-- the position after the token that stands next
unfoldable pub after : List ℕ → ℕ → ℕ
after s at = skipped s at + width (drop (skipped s at) s)

-- the first of some tokens, and the position e after it
abbrev pub first : List Token → ℕ → Next
first [] e = End
first (sign op ∷ r) e = Sign (node_code op) e
first (number v ∷ r) e = elim (ltb v (2 ^ 64)) [ true ↦ Number v e | false ↦ Huge ]
first (mark b ∷ r) e = Mark b e

-- the token that stands next
unfoldable pub next : List ℕ → ℕ → Next
next s at = first (tokens (drop at s)) (after s at)

-- the position after the byte c, if it is next
abbrev pub passed : ℕ → Next → Option ℕ
passed c (Mark b e) = elim (eqb b c) [ true ↦ Some e | false ↦ None ]
passed c (Number v e) = None
passed c (Sign o e) = None
passed c End = None
passed c Huge = None
