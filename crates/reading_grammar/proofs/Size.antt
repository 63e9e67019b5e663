-- A tree of the Standard reading has at most as many nodes as its text has bytes: a derivation uses a token for each node, and a token is
-- made of one byte at least. Assumes nothing.
use Prim.Native.Nat.{ℕ, ◌+◌, ◌-◌, ◌*◌, ◌≤◌}
use Prim.Native.Char.{code}
use mathlib.Core.Path.{◌≡◌}
use mathlib.Core.List.{List, [], ◌∷◌}
use mathlib.Core.Option.{Option, some, none}
use native.Mathlib.Omega.{arith}
use lib.ListN.{length, length-append}
use Rattle.text.proofs.Tests.{by_test}
use Rattle.rules.specs.Tree.{Tree, Op, tree}
use Rattle.rules.specs.Store.{size}
use Rattle.reading_grammar.specs.Grammar.{Token, sign, Derives, variable, integer, bracket, negation, tighter, binary, conditional}
use Rattle.reading_grammar.specs.Tokens.{two, find_one, ones, digit, blank, Mode, start, digits, second, begin, lex, tokens}
use Rattle.reading_grammar.specs.Reading.{standard}
use Rattle.reading_grammar.proofs.Complete.{agrees}

-- a node for each token at most
derives_size : {l : ℕ} {s : List Token} {t : Tree} → Derives l s t → size t ≤ length s
unfolding size
derives_size variable = omega arith
derives_size (integer h) = omega arith
derives_size (bracket d) = simp length-append (omega (arith, derives_size d))
derives_size (negation d) = omega (arith, derives_size d)
derives_size (tighter d) = derives_size d
derives_size (binary e c d) = simp length-append (omega (arith, derives_size c, derives_size d))
derives_size (conditional b c d) = simp length-append (omega (arith, derives_size b, derives_size c, derives_size d))

-- a token for each byte at most, and one more for digits before them
abbrev begun : Mode → ℕ
begun start = 0
begun (digits v) = 1
begun second = 0

module _ (b : ℕ) (s : List ℕ) (go : Mode → List Token) (h : (m : Mode) → length (go m) ≤ begun m + length s) where
  two_length : (x : Option Op) → length {A = Token} (elim x [ some op ↦ sign op ∷ go second | none ↦ find_one ones b ∷ go start ]) ≤ 1 + length s
  two_length (some op) = omega (arith, h second)
  two_length none = omega (arith, h start)

  begin_length : length (begin b s go) ≤ 1 + length s
  begin_length =
      by_test (length (begin b s go) ≤ 1 + length s) (digit b)
      (λ e. rw (begin, e) (h (digits (b - code "0"))))
      (λ e.
      by_test (length (begin b s go) ≤ 1 + length s) (blank b)
      (λ d. rw (begin, e, d) (omega (arith, h start)))
      (λ d. rw (begin, e, d) (two_length (two b s))))

lex_length : (s : List ℕ) (m : Mode) → length (lex m s) ≤ begun m + length s
unfolding lex
lex_length [] start = omega arith
lex_length [] (digits v) = omega arith
lex_length [] second = omega arith
lex_length (b ∷ s) start = omega (arith, begin_length b s (λ m. lex m s) (lex_length s))
lex_length (b ∷ s) (digits v) =
    by_test (length (lex (digits v) (b ∷ s)) ≤ 1 + length (b ∷ s)) (digit b)
    (λ e. rw (lex, e) (omega (arith, lex_length s (digits (10 * v + (b - code "0"))))))
    (λ e. rw (lex, e) (omega (arith, begin_length b s (λ m. lex m s) (lex_length s))))
lex_length (b ∷ s) second = omega (arith, lex_length s start)

tokens_length : (s : List ℕ) → length (tokens s) ≤ length s
unfolding tokens
tokens_length s = omega (arith, lex_length s start)

-- a text of m bytes that is read makes a tree of at most m nodes
pub standard_nodes : (s : List ℕ) (t : Tree) → standard s ≡ tree t → size t ≤ length s
standard_nodes s t e = omega (arith, derives_size ((agrees s t).0 e), tokens_length s)
