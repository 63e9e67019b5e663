-- The tokens of a text of bytes. SPEC 6: blanks are space and tab; integers are digits only, and decimal
-- even after a leading zero. The longest operator comes first, as in C, and each run of digits is one integer.
use Rattle.std.specs.Prelude.{ℕ, ◌+◌, ◌-◌, ◌*◌, Bool, true, false, ◌&&◌, ◌||◌, List, [], ◌∷◌, eqb}
use Prim.Native.Char.{code}
use Rattle.std.proofs.Math.Option.{Option, none, some}
pub use Rattle.text_digits.specs.Digits.{digit}
use Rattle.rules.specs.Tree.{Op, cmp, calc, and, or, rem, div, eq, ne, ge, le, gt, lt, plus, minus, times}
use Rattle.reading_grammar.specs.Grammar.{Token, sign, number, mark}

abbrev pub twos : List (ℕ × ℕ × Op)
twos = (code "=", code "=", cmp eq) ∷ (code "!", code "=", cmp ne) ∷ (code "<", code "=", cmp le) ∷ (code ">", code "=", cmp ge)
    ∷ (code "&", code "&", and) ∷ (code "|", code "|", or) ∷ []

abbrev pub ones : List (ℕ × Op)
ones = (code "%", rem) ∷ (code "/", div) ∷ (code "*", calc times) ∷ (code "+", calc plus) ∷ (code "-", calc minus) ∷ (code "<", cmp lt) ∷ (code ">", cmp gt) ∷ []

abbrev pub find_two : List (ℕ × ℕ × Op) → ℕ → ℕ → Option Op
find_two [] b c = none
find_two (row ∷ rows) b c = elim (eqb b row.0 && eqb c row.1) [ true ↦ some row.2 | false ↦ find_two rows b c ]

-- the operator that b and the first of s are
abbrev pub two : ℕ → List ℕ → Option Op
two b [] = none
two b (c ∷ s) = find_two twos b c

-- the token that b is by itself
abbrev pub find_one : List (ℕ × Op) → ℕ → Token
find_one [] b = mark b
find_one (row ∷ rows) b = elim (eqb b row.0) [ true ↦ sign row.1 | false ↦ find_one rows b ]

abbrev pub blank : ℕ → Bool
blank b = eqb b (code " ") || eqb b (code "\t")

-- where a byte stands: before a token, after the digits of a value, or second in an operator
pub data Mode : Type 0 where
  start : Mode
  digits : ℕ → Mode
  second : Mode

-- b stands before a token; what is after it is read by go
abbrev pub begin : ℕ → List ℕ → (Mode → List Token) → List Token
begin b s go = elim (digit b) [
  | true ↦ go (digits (b - code "0"))
  | false ↦ elim (blank b) [
    | true ↦ go start
    | false ↦ elim (two b s) [
      | some op ↦ sign op ∷ go second
      | none ↦ find_one ones b ∷ go start
    ]
  ]
]

unfoldable pub lex : Mode → List ℕ → List Token
lex start [] = []
lex (digits v) [] = number v ∷ []
lex second [] = []
lex start (b ∷ s) = begin b s (λ m. lex m s)
lex (digits v) (b ∷ s) = elim (digit b) [ true ↦ lex (digits (10 * v + (b - code "0"))) s | false ↦ number v ∷ begin b s (λ m. lex m s) ]
lex second (b ∷ s) = lex start s

unfoldable pub tokens : List ℕ → List Token
unfolding lex
tokens s = lex start s
