-- The tokens of a text are those that it spells: the function and the relation agree, so each text spells one list of tokens. Assumes nothing.
use Prim.Native.Nat.{ℕ, zero, suc, ◌+◌, ◌-◌, ◌*◌, ◌<◌, ◌≤◌}
use Prim.Native.Char.{code}
use mathlib.Core.Path.{◌≡◌, refl, sym, ap, ap₂, ◌∙◌}
use mathlib.Core.Bool.{Bool, true, false, ◌&&◌, false≢true}
use mathlib.Core.Logic.{◌↔◌}
use mathlib.Core.List.{List, [], ◌∷◌, ◌++◌}
use mathlib.Core.Option.{Option, none, some}
use native.Mathlib.Omega.{arith}
use lib.ListN.{length}
use lib.Dec.{eqb}
use borrow.Author.Tests.{eqb-true}
use Rattle.rules.specs.Tree.{Op, Tree, tree}
use Rattle.reading_grammar.specs.Grammar.{Token, sign, number}
use Rattle.reading_grammar.specs.Reading.{standard}
use Rattle.reading_grammar.specs.Tokens.{tokens, lex, digits, second, twos, ones, find_two, two, find_one, digit, blank}
use Rattle.reading_grammar.specs.Spells.{decimal, Digits, none_left, one_more, Ends, at_end, at_other, Spells, nothing, skip, run, pair, single, Means}
use Rattle.reading_grammar.proofs.Choice.{taken_if, left_if, both}
use Rattle.reading_grammar.proofs.Complete.{agrees}

-- a byte that begins an operator of two is neither a digit nor a blank
abbrev plain : ℕ → Bool
plain b = elim (digit b) [ true ↦ false | false ↦ elim (blank b) [ true ↦ false | false ↦ true ] ]

abbrev all_plain : List (ℕ × ℕ × Op) → Bool
all_plain [] = true
all_plain (row ∷ rows) = plain row.0 && all_plain rows

plain_row : (rows : List (ℕ × ℕ × Op)) (b c : ℕ) {op : Op} → all_plain rows ≡ true → find_two rows b c ≡ some op → plain b ≡ true
plain_row [] b c a e = absurd (let z : ◌≡◌ {A = ℕ} 0 1 = cc in omega arith)
plain_row (row ∷ rows) b c {op} a e = go (λ q. plain_row rows b c (both (plain row.0) (all_plain rows) a).1 q) (eqb b row.0 && eqb c row.1) refl
  where
    go : (find_two rows b c ≡ some op → plain b ≡ true) → (x : Bool) → (eqb b row.0 && eqb c row.1) ≡ x → plain b ≡ true
    go later true q = rw (eqb-true b row.0 (both (eqb b row.0) (eqb c row.1) q).0) (both (plain row.0) (all_plain rows) a).0
    go later false q = later (sym (left_if (some row.2) (find_two rows b c) q) ∙ e)

not_digit : (b : ℕ) → plain b ≡ true → digit b ≡ false
not_digit b e = go (digit b) refl
  where
    go : (x : Bool) → digit b ≡ x → digit b ≡ false
    go true q = absurd (false≢true (sym (taken_if false _ q) ∙ e))
    go false q = q

not_blank : (b : ℕ) → plain b ≡ true → blank b ≡ false
not_blank b e = go (blank b) refl
  where
    go : (x : Bool) → blank b ≡ x → blank b ≡ false
    go true q = absurd (false≢true (sym (left_if false _ (not_digit b e) ∙ taken_if false true q) ∙ e))
    go false q = q

-- and a blank is no digit
blank_digit : (b : ℕ) → blank b ≡ true → digit b ≡ false
blank_digit b e = go (eqb b (code " ")) refl
  where
    go : (x : Bool) → eqb b (code " ") ≡ x → digit b ≡ false
    go true q = rw (eqb-true b (code " ") q) refl
    go false q = rw (eqb-true b (code "\t") (rw q at e)) refl

-- what the function does at a byte
module _ (b : ℕ) (s : List ℕ) where
  at_digit : digit b ≡ true → tokens (b ∷ s) ≡ lex (digits (b - code "0")) s
  unfolding tokens
  at_digit e = taken_if _ _ e

  at_blank : digit b ≡ false → blank b ≡ true → tokens (b ∷ s) ≡ tokens s
  unfolding tokens
  at_blank d e = left_if _ _ d ∙ taken_if _ _ e

  at_two : {op : Op} → digit b ≡ false → blank b ≡ false → two b s ≡ some op → tokens (b ∷ s) ≡ sign op ∷ lex second s
  unfolding tokens
  at_two d e t = left_if _ _ d ∙ (left_if _ _ e ∙ rw t refl)

  at_one : digit b ≡ false → blank b ≡ false → two b s ≡ none → tokens (b ∷ s) ≡ find_one ones b ∷ tokens s
  unfolding tokens
  at_one d e t = left_if _ _ d ∙ (left_if _ _ e ∙ rw t refl)

after_second : (c : ℕ) (s : List ℕ) → lex second (c ∷ s) ≡ tokens s
unfolding tokens
after_second c s = refl

grows : (v b : ℕ) (s : List ℕ) → digit b ≡ true → lex (digits v) (b ∷ s) ≡ lex (digits (10 * v + (b - code "0"))) s
unfolding lex
grows v b s e = taken_if _ _ e

stops : (v : ℕ) {s : List ℕ} → Ends s → lex (digits v) s ≡ number v ∷ tokens s
unfolding tokens
stops v at_end = refl
stops v (at_other {b} {s} e) = left_if _ _ e

-- from the relation to the function
ran : (v : ℕ) {d s : List ℕ} → Digits d → Ends s → lex (digits v) (d ++ s) ≡ number (decimal v d) ∷ tokens s
ran v none_left x = stops v x
ran v {d = b ∷ d} {s} (one_more e h) x = grows v b (d ++ s) e ∙ ran (10 * v + (b - code "0")) h x

pub spelled_tokens : {s : List ℕ} {t : List Token} → Spells s t → tokens s ≡ t
unfolding tokens
spelled_tokens nothing = refl
spelled_tokens (skip {b} {s} e w) = at_blank b s (blank_digit b e) e ∙ spelled_tokens w
spelled_tokens (run {b} {d} {s} (one_more e h) x w) =
    let z : 10 * 0 + (b - code "0") ≡ b - code "0" = omega arith in
    at_digit b (d ++ s) e ∙ ran (b - code "0") h x ∙ ap₂ (λ (v : ℕ) (t : List Token). number (decimal v d) ∷ t) (sym z) (spelled_tokens w)
spelled_tokens (pair {b} {c} {op} {s} e w) =
    let p = plain_row twos b c refl e in
    at_two b (c ∷ s) (not_digit b p) (not_blank b p) e ∙ ap (λ (t : List Token). sign op ∷ t) (after_second c s ∙ spelled_tokens w)
spelled_tokens (single {b} {s} d e o w) = at_one b s d e o ∙ ap (λ (t : List Token). find_one ones b ∷ t) (spelled_tokens w)

-- and back. The digits that a text begins with, and the rest
record Split (s : List ℕ) : Type 0 where
  front : List ℕ
  rest : List ℕ
  joined : s ≡ front ++ rest
  all : Digits front
  ends : Ends rest
  shorter : length rest ≤ length s

split : (s : List ℕ) → Split s
split [] = record { front = []; rest = []; joined = refl; all = none_left; ends = at_end; shorter = omega arith }
split (b ∷ s) = go (split s) (digit b) refl
  where
    go : Split s → (x : Bool) → digit b ≡ x → Split (b ∷ s)
    go w true e = record {
      front = b ∷ w.front;
      rest = w.rest;
      joined = ap (λ (t : List ℕ). b ∷ t) w.joined;
      all = one_more e w.all;
      ends = w.ends;
      shorter = omega (arith, w.shorter);
    }
    go w false e = record { front = []; rest = b ∷ s; joined = refl; all = none_left; ends = at_other e; shorter = omega arith }

-- a text, where all texts that are shorter spell their tokens
module _ (b : ℕ) (s : List ℕ) (before : (r : List ℕ) → length r ≤ length s → Spells r (tokens r)) where
  spells_run : digit b ≡ true → Spells (b ∷ s) (tokens (b ∷ s))
  spells_run e =
      let w = split s in
      let z : 10 * 0 + (b - code "0") ≡ b - code "0" = omega arith in
      let h : tokens (b ∷ s) ≡ number (decimal 0 (b ∷ w.front)) ∷ tokens w.rest =
      at_digit b s e ∙ ap (lex (digits (b - code "0"))) w.joined ∙ ran (b - code "0") w.all w.ends
      ∙ ap (λ (v : ℕ). number (decimal v w.front) ∷ tokens w.rest) (sym z) in
      whole w.joined h (run (one_more e w.all) w.ends (before w.rest w.shorter))
    where
      whole : {r : List ℕ} {t : List Token} → s ≡ r → tokens (b ∷ s) ≡ t → Spells (b ∷ r) t → Spells (b ∷ s) (tokens (b ∷ s))
      whole j h x = rw (h, j) x

  spells_pair : (r : List ℕ) → s ≡ r → {op : Op} → digit b ≡ false → blank b ≡ false → two b r ≡ some op → Spells (b ∷ r) (tokens (b ∷ r))
  spells_pair [] j d e q = absurd (let z : ◌≡◌ {A = ℕ} 0 1 = cc in omega arith)
  spells_pair (c ∷ r) j d e q =
      let l : length r ≤ length s = rw j (omega arith) in
      rw (at_two b (c ∷ r) d e q, after_second c r) (pair q (before r l))

  spells_next : Spells (b ∷ s) (tokens (b ∷ s))
  spells_next = by_digit (digit b) refl
    where
      by_two : digit b ≡ false → blank b ≡ false → (o : Option Op) → two b s ≡ o → Spells (b ∷ s) (tokens (b ∷ s))
      by_two d e none q = rw (at_one b s d e q) (single d e q (before s (omega arith)))
      by_two d e (some op) q = spells_pair s refl d e q

      by_blank : digit b ≡ false → (x : Bool) → blank b ≡ x → Spells (b ∷ s) (tokens (b ∷ s))
      by_blank d true e = rw (at_blank b s d e) (skip e (before s (omega arith)))
      by_blank d false e = by_two d e (two b s) refl

      by_digit : (x : Bool) → digit b ≡ x → Spells (b ∷ s) (tokens (b ∷ s))
      by_digit true e = spells_run e
      by_digit false e = by_blank e (blank b) refl

spells_below : (k : ℕ) (s : List ℕ) → length s < k → Spells s (tokens s)
unfolding tokens
spells_below zero s h = absurd (omega arith)
spells_below (suc k) [] h = nothing
spells_below (suc k) (b ∷ s) h = spells_next b s (λ r l. spells_below k r (omega (arith, h, l)))

spells_from : (s : List ℕ) → Spells s (tokens s)
spells_from s = spells_below (suc (length s)) s (omega arith)

pub spells_exactly : (s : List ℕ) (t : List Token) → Spells s t ↔ (tokens s ≡ t)
spells_exactly s t = (spelled_tokens, λ e. rw e at (spells_from s))

-- so the Standard reading of a text is the tree that the text means in C's grammar
pub agrees_text : (s : List ℕ) (t : Tree) → (standard s ≡ tree t) ↔ Means s t
agrees_text s t = (
  λ e. record { these = tokens s; spelled = spells_from s; derived = (agrees s t).0 e },
  λ m. (agrees s t).1 (rw (← spelled_tokens m.spelled) at m.derived),
)
