-- What the grammar derives, the reading gives: by induction on the derivation, a level that has read a text goes on after it where an
-- operator of that level follows. So the two agree, and a text has at most one tree.
use Prim.Native.Nat.{ℕ, zero, suc, ◌<◌, ◌≤◌}
use Prim.Native.Char.{code}
use mathlib.Core.Path.{◌≡◌, refl, sym, ◌∙◌}
use mathlib.Core.Bool.{Bool, true, false, ◌&&◌}
use mathlib.Core.Logic.{◌↔◌}
use mathlib.Core.List.{List, [], ◌∷◌, ◌++◌, append_assoc, append-nil}
use native.Mathlib.Omega.{arith}
use lib.Dec.{eqb}
use borrow.Author.Tests.{eq-eqb, ne_eqb, lt-ltb}
use Rattle.rules.specs.Tree.{Tree, nay, bin, cond, Op, tree, none}
use Rattle.reading_grammar.specs.Grammar.{Token, sign, number, mark, ask, colon, opening, closing, bang, rank, loosest, full, Derives, variable, integer, bracket, negation, tighter, binary, conditional}
use Rattle.reading_grammar.specs.Reading.{Outcome, got, Level, More, reading, standard}
use Rattle.reading_grammar.specs.Tokens.{tokens}
use Rattle.reading_grammar.proofs.Sound.{low, sound}
use Rattle.reading_grammar.proofs.Steps.{level_zero, level_suc, more_nil, more_number, more_sign, more_mark, prefix_number, prefix_mark}
use Rattle.reading_grammar.proofs.Choice.{taken_if, left_if}

-- the level that would read on at r
abbrev grip : List Token → ℕ
grip [] = suc full
grip (sign op ∷ r) = rank op
grip (number v ∷ r) = suc full
grip (mark b ∷ r) = elim (eqb b (code "?")) [ true ↦ full | false ↦ suc full ]

-- what may follow a text of level l: what no level up to l reads, or an operator of level l
data Follows (l : ℕ) (r : List Token) : Type 0 where
  chained : l < full → l ≤ grip r → Follows l r
  stops : l < grip r → Follows l r

inner : {k : ℕ} {r : List Token} → Follows (suc k) r → k < grip r
inner (chained h i) = omega arith
inner (stops h) = omega arith

at_full : {r : List Token} → Follows full r → full < grip r
at_full (chained h i) = absurd (omega arith)
at_full (stops h) = h

-- where level l goes on after t
abbrev after : ℕ → Tree → List Token → Outcome
after zero t r = got t r
after (suc k) t r = More k t r

-- a text that level l reads as t, up to where it goes on
record Reads (l : ℕ) (s : List Token) (t : Tree) : Type 0 where
  goes : (r : List Token) → Follows l r → Level l (s ++ r) ≡ after l t r

stop_mark : (x : Bool) (k : ℕ) (A B : Outcome) → suc k < elim x [ true ↦ full | false ↦ suc full ] → elim (x && eqb k loosest) [ true ↦ A | false ↦ B ] ≡ B
stop_mark true k A B h = rw (ne_eqb k loosest (omega arith))
stop_mark false k A B h = refl

stop : (l : ℕ) (t : Tree) (r : List Token) → l < grip r → after l t r ≡ got t r
stop zero t r h = refl
stop (suc k) t [] h = more_nil k t
stop (suc k) t (number v ∷ r) h = more_number k t v r
stop (suc k) t (sign op ∷ r) h = more_sign k t op r ∙ left_if _ _ (ne_eqb (rank op) (suc k) (omega arith))
stop (suc k) t (mark b ∷ r) h = more_mark k t b r ∙ stop_mark (eqb b (code "?")) k _ _ h

finish : {l : ℕ} {s : List Token} {t : Tree} → Reads l s t → (r : List Token) → l < grip r → Level l (s ++ r) ≡ got t r
finish {l} {s} {t} w r h = w.goes r (stops h) ∙ stop l t r h

-- a step for each rule
module _ {s : List Token} {t : Tree} where
  reads_bracket : Reads full s t → Reads 0 (opening ∷ s ++ closing ∷ []) t
  reads_bracket w = record { goes = λ r h. level_zero _ ∙ (prefix_mark _ _ ∙ rw (append_assoc s (closing ∷ []) r, finish w (closing ∷ r) (omega arith))) }

  reads_negation : Reads 0 s t → Reads 0 (bang ∷ s) (nay t)
  reads_negation w = record { goes = λ r h. level_zero _ ∙ (prefix_mark _ _ ∙ rw (← level_zero (s ++ r), w.goes r h)) }

  reads_tighter : {k : ℕ} → Reads k s t → Reads (suc k) s t
  reads_tighter {k} w = record { goes = λ r h. level_suc k (s ++ r) ∙ rw (finish w r (inner h)) }

  reads_binary : {op : Op} {k : ℕ} {u : List Token} {v : Tree} → rank op ≡ suc k → Reads (suc k) s t → Reads k u v → Reads (suc k) (s ++ sign op ∷ u) (bin op t v)
  reads_binary {op} {k} {u} {v} i w x = record {
    goes = λ r h. rw append_assoc
        (w.goes (sign op ∷ u ++ r) (chained (omega (arith, low op)) (omega arith)) ∙ (more_sign k t op (u ++ r) ∙ (taken_if _ _ (eq-eqb _ _ i) ∙ rw (finish x r (inner h)))));
  }

  reads_conditional : {u w : List Token} {v x : Tree} → Reads loosest s t → Reads full u v → Reads full w x → Reads full (s ++ ask ∷ u ++ colon ∷ w) (cond t v x)
  reads_conditional {u} {w} {v} {x} a b c = record {
    goes = λ r h. simp append_assoc
        (level_suc loosest _ ∙ rw (finish a (ask ∷ (u ++ colon ∷ (w ++ r))) (omega arith)) (more_mark loosest t (code "?") (u ++ colon ∷ (w ++ r))
        ∙ rw (finish b (colon ∷ (w ++ r)) (omega arith), finish c r (at_full h)) (sym (stop full (cond t v x) r (at_full h)))));
  }

reads : {l : ℕ} {s : List Token} {t : Tree} → Derives l s t → Reads l s t
reads variable = record { goes = λ r h. level_zero _ ∙ prefix_mark _ r }
reads (integer {v} h) = record { goes = λ r _. level_zero _ ∙ (prefix_number v r ∙ taken_if _ _ (lt-ltb _ _ h)) }
reads (bracket d) = reads_bracket (reads d)
reads (negation d) = reads_negation (reads d)
reads (tighter d) = reads_tighter (reads d)
reads (binary e d w) = reads_binary e (reads d) (reads w)
reads (conditional d w x) = reads_conditional (reads d) (reads w) (reads x)

pub complete : (s : List Token) (t : Tree) → Derives full s t → reading s ≡ tree t
unfolding reading
complete s t d = let z = finish (reads d) [] (omega arith) in rw (rw append-nil at z)

-- at most one tree
pub one_tree : (s : List Token) (t u : Tree) → Derives full s t → Derives full s u → t ≡ u
one_tree s t u d e = let y = complete s t d in let z = complete s u e in cc

-- a text of bytes
pub agrees : (s : List ℕ) (t : Tree) → (standard s ≡ tree t) ↔ Derives full (tokens s) t
unfolding standard
agrees s t = (sound (tokens s) t, complete (tokens s) t)

pub no_tree : (s : List ℕ) (t : Tree) → standard s ≡ none → Derives full (tokens s) t → ⊥
no_tree s t e d = let y = (agrees s t).1 d in let z : ◌≡◌ {A = ℕ} 0 1 = cc in omega arith
