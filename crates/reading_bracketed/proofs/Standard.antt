-- The Standard reading of a bracketed text is its tree: the text's tokens, and their derivation. Assumes nothing.
use Prim.Native.Nat.{ℕ, zero, suc, ◌+◌, ◌-◌, ◌*◌, ◌<◌, ◌≤◌}
use mathlib.Core.Path.{◌≡◌, refl, ap, ◌∙◌}
use mathlib.Core.Bool.{true, false}
use mathlib.Core.List.{List, [], ◌∷◌, ◌++◌, append_assoc, append-nil}
use mathlib.Core.Option.{none}
use native.Mathlib.Omega.{arith}
use lib.Dec.{leb, eqb}
use borrow.Author.Tests.{leb-true, leb-false, ne_eqb}
use Rattle.text.proofs.Tests.{by_test, taken, left}
use Rattle.rules.specs.Tree.{Tree, var, int, nay, bin, cond, Op, cmp, calc, and, or, rem, div, eq, ne, ge, le, gt, lt, plus, minus, times, tree}
use Rattle.reading_grammar.specs.Grammar.{Token, sign, number, mark, letter_n, bang, ask, colon, opening, closing, rank, loosest, full, Derives, variable, integer, bracket, negation, tighter, binary, conditional}
use Rattle.reading_grammar.specs.Tokens.{lex, start, digits, tokens, digit, blank, two, twos, ones, find_two, find_one}
use Rattle.reading_grammar.specs.Reading.{standard}
use Rattle.reading_grammar.proofs.Sound.{low}
use Rattle.reading_grammar.proofs.Complete.{agrees}
use Rattle.rules_text.specs.Bracketed.{sign_of, bracketed}
use Rattle.rules_text.specs.Bounded.{Bounded}
use Rattle.reading_bracketed.proofs.Decimal.{Digits, none as no_digit, one, is_digit, value, decimal_writes}
use Rattle.reading_bracketed.proofs.Marks.{inner, Sign, one_byte, two_bytes, signs, sign_no_digit, Begins, begins, begins_before}

-- a tree's tokens
unfoldable pub tokens_of : Tree → List Token
tokens_of var = letter_n ∷ []
tokens_of (int v) = number v ∷ []
tokens_of (nay t) = opening ∷ (bang ∷ tokens_of t) ++ closing ∷ []
tokens_of (bin op s t) = opening ∷ (tokens_of s ++ sign op ∷ tokens_of t) ++ closing ∷ []
tokens_of (cond s t u) = opening ∷ (tokens_of s ++ ask ∷ tokens_of t ++ colon ∷ tokens_of u) ++ closing ∷ []

-- they are a text of the tree
looser : (m : ℕ) {l : ℕ} {s : List Token} {t : Tree} → l ≤ m → Derives l s t → Derives m s t
looser zero {l} {s} {t} h d = let z : l ≡ 0 = omega arith in rw z at d
looser (suc m) {l} {s} {t} h d =
    by_test (Derives (suc m) s t) (leb l m)
    (λ e. tighter (looser m (leb-true l m e) d))
    (λ e. let z : l ≡ suc m = omega (arith, leb-false l m e) in rw z at d)

some_rank : (op : Op) → 0 < rank op
some_rank (cmp eq) = omega arith
some_rank (cmp ne) = omega arith
some_rank (cmp ge) = omega arith
some_rank (cmp le) = omega arith
some_rank (cmp gt) = omega arith
some_rank (cmp lt) = omega arith
some_rank and = omega arith
some_rank or = omega arith
some_rank rem = omega arith
some_rank div = omega arith
some_rank (calc plus) = omega arith
some_rank (calc minus) = omega arith
some_rank (calc times) = omega arith

derives : (t : Tree) → Bounded t → Derives 0 (tokens_of t) t
unfolding tokens_of
derives var h = variable
derives (int v) h = integer h
derives (nay t) h = bracket (looser full (omega arith) (negation (derives t h)))
derives (bin op s t) h =
    let z : rank op ≡ suc (rank op - 1) = omega (arith, some_rank op) in
    bracket (looser full (omega (arith, some_rank op, low op))
    (binary {op = op} {k = rank op - 1} z (looser (suc (rank op - 1)) (omega arith) (derives s h.0)) (looser (rank op - 1) (omega arith) (derives t h.1))))
derives (cond s t u) h =
    bracket (conditional (looser loosest (omega arith) (derives s h.0)) (looser full (omega arith) (derives t h.1)) (looser full (omega arith) (derives u h.2)))

-- what ends a run of digits
data Stops : List ℕ → Type 0 where
  ends : Stops []
  other : {b : ℕ} {r : List ℕ} → digit b ≡ false → Stops (b ∷ r)

number_ends : (v : ℕ) {r : List ℕ} → Stops r → lex (digits v) r ≡ number v ∷ lex start r
unfolding lex
number_ends v ends = refl
number_ends v (other e) = rw (e, lex)

digits_run : (a : ℕ) {s : List ℕ} (r : List ℕ) → Digits s → lex (digits a) (s ++ r) ≡ lex (digits (value a s)) r
unfolding lex value
digits_run a r no_digit = refl
digits_run a r (one {b} {s} h k d) = rw (is_digit b h k, lex) (digits_run (10 * a + (b - 48)) r d)

digits_start : {b : ℕ} {s : List ℕ} (r : List ℕ) → Digits (b ∷ s) → lex start (b ∷ s ++ r) ≡ lex (digits (value 0 (b ∷ s))) r
unfolding lex value
digits_start r (one {b} {s} h k d) = let z : 10 * 0 + (b - 48) ≡ b - 48 = omega arith in rw z (taken _ _ (is_digit b h k) ∙ digits_run (b - 48) r d)

-- a byte by itself
single : (b : ℕ) (x : List ℕ) → digit b ≡ false → blank b ≡ false → two b x ≡ none → lex start (b ∷ x) ≡ find_one ones b ∷ lex start x
unfolding lex
single b x h k e = left _ _ h ∙ (left _ _ k ∙ rw e)

alone : (b : ℕ) (x : List ℕ) → ((c : ℕ) → find_two twos b c ≡ none) → two b x ≡ none
alone b [] h = refl
alone b (c ∷ x) h = h c

-- an operator before an operand
not_equals : (b : ℕ) → inner b ≡ true → eqb b 61 ≡ false
not_equals b h = ne_eqb b 61 (λ e. let z : inner 61 ≡ true = rw e at h in let q : ◌≡◌ {A = ℕ} 0 1 = cc in omega arith)

no_equals : (b : ℕ) {x : List ℕ} → Begins x → ((c : ℕ) → eqb c 61 ≡ false → find_two twos b c ≡ none) → two b x ≡ none
no_equals b w h = rw w.is (h w.first (not_equals w.first w.part))

signed : (op : Op) {x : List ℕ} → Begins x → lex start (sign_of op ++ x) ≡ sign op ∷ lex start x
unfolding lex
signed (cmp eq) w = refl
signed (cmp ne) w = refl
signed (cmp ge) w = refl
signed (cmp le) w = refl
signed (cmp gt) {x} w = single 62 x refl refl (no_equals 62 w (λ c e. left _ _ e))
signed (cmp lt) {x} w = single 60 x refl refl (no_equals 60 w (λ c e. left _ _ e))
signed and w = refl
signed or w = refl
signed rem {x} w = single 37 x refl refl (alone 37 x (λ c. refl))
signed div {x} w = single 47 x refl refl (alone 47 x (λ c. refl))
signed (calc plus) {x} w = single 43 x refl refl (alone 43 x (λ c. refl))
signed (calc minus) {x} w = single 45 x refl refl (alone 45 x (λ c. refl))
signed (calc times) {x} w = single 42 x refl refl (alone 42 x (λ c. refl))

negated : {x : List ℕ} → Begins x → lex start (33 ∷ x) ≡ bang ∷ lex start x
negated w = single 33 _ refl refl (no_equals 33 w (λ c e. left _ _ e))

-- a byte that is no part of a longer operator
mark_alone : (b : ℕ) (x : List ℕ) → digit b ≡ false → blank b ≡ false → ((c : ℕ) → find_two twos b c ≡ none) → find_one ones b ≡ mark b
    → lex start (b ∷ x) ≡ mark b ∷ lex start x
mark_alone b x h k g e = rw (← e) (single b x h k (alone b x g))

sign_stops : {g : List ℕ} → Sign g → (r : List ℕ) → Stops (g ++ r)
sign_stops (one_byte {b} h) r = other (sign_no_digit b h)
sign_stops (two_bytes {b} h k) r = other (sign_no_digit b h)

-- the tokens of a text, whatever follows it
lexed : (t : Tree) {r : List ℕ} → Stops r → lex start (bracketed t ++ r) ≡ tokens_of t ++ lex start r
unfolding bracketed tokens_of
lexed var {r} h = mark_alone 110 r refl refl (λ c. refl) refl
lexed (int v) {r} h =
    let w = decimal_writes v in
    rw w.is (digits_start r w.digits ∙ rw w.worth (number_ends v h))
lexed (nay t) {r} h =
    simp append_assoc (mark_alone 40 _ refl refl (λ c. refl) refl ∙ ap (λ (x : List Token). opening ∷ x)
    (negated (begins_before (41 ∷ r) (begins t)) ∙ ap (λ (x : List Token). bang ∷ x)
    (lexed t (other refl) ∙ ap (λ (x : List Token). tokens_of t ++ x) (mark_alone 41 r refl refl (λ c. refl) refl))))
lexed (bin op s t) {r} h =
    simp append_assoc (mark_alone 40 _ refl refl (λ c. refl) refl ∙ ap (λ (x : List Token). opening ∷ x)
    (lexed s (sign_stops (signs op) _) ∙ ap (λ (x : List Token). tokens_of s ++ x)
    (signed op (begins_before (41 ∷ r) (begins t)) ∙ ap (λ (x : List Token). sign op ∷ x)
    (lexed t (other refl) ∙ ap (λ (x : List Token). tokens_of t ++ x) (mark_alone 41 r refl refl (λ c. refl) refl)))))
lexed (cond s t u) {r} h =
    simp append_assoc (mark_alone 40 _ refl refl (λ c. refl) refl ∙ ap (λ (x : List Token). opening ∷ x)
    (lexed s (other refl) ∙ ap (λ (x : List Token). tokens_of s ++ x)
    (mark_alone 63 _ refl refl (λ c. refl) refl ∙ ap (λ (x : List Token). ask ∷ x)
    (lexed t (other refl) ∙ ap (λ (x : List Token). tokens_of t ++ x)
    (mark_alone 58 _ refl refl (λ c. refl) refl ∙ ap (λ (x : List Token). colon ∷ x)
    (lexed u (other refl) ∙ ap (λ (x : List Token). tokens_of u ++ x) (mark_alone 41 r refl refl (λ c. refl) refl)))))))

pub tokens_are : (t : Tree) → tokens (bracketed t) ≡ tokens_of t
unfolding tokens lex
tokens_are t = let z = lexed t ends in simp append-nil at z

pub standard_bracketed : (t : Tree) → Bounded t → standard (bracketed t) ≡ tree t
standard_bracketed t h = (agrees (bracketed t) t).1 (rw (tokens_are t) (looser full (omega arith) (derives t h)))
