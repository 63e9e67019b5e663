-- Spans, computed from the definition: the figures, as document 02 prints them for n%3 over 0 to 9, and where forms above 15 and a zero divisor
-- fall. Assumes nothing.
use Prim.Native.Nat.{ℕ}
use mathlib.Core.Path.{◌≡◌, refl}
use mathlib.Core.Bool.{true, false}
use mathlib.Core.List.{List, [], ◌∷◌, map}
use Rattle.rules.specs.Tree.{Tree, var, int, bin, rem}
use Rattle.rules.specs.Value.{eval_tree, binary}
use Rattle.rules_span.specs.Span.{tallied, is_span}

-- a rule, the first count, how many; the figures
abbrev rows : List ((Tree × ℕ × ℕ) × List ℕ)
rows =
    ((bin rem var (int 3), 0, 10), 4 ∷ 3 ∷ 3 ∷ 0 ∷ 0 ∷ 0 ∷ 0 ∷ 0 ∷ 0 ∷ 0 ∷ 0 ∷ 0 ∷ 0 ∷ 0 ∷ 0 ∷ 0 ∷ 0 ∷ 0 ∷ [])
    ∷ ((var, 14, 5), 0 ∷ 0 ∷ 0 ∷ 0 ∷ 0 ∷ 0 ∷ 0 ∷ 0 ∷ 0 ∷ 0 ∷ 0 ∷ 0 ∷ 0 ∷ 0 ∷ 1 ∷ 1 ∷ 3 ∷ 0 ∷ [])
    ∷ ((bin rem (int 5) var, 0, 4), 1 ∷ 1 ∷ 1 ∷ 0 ∷ 0 ∷ 0 ∷ 0 ∷ 0 ∷ 0 ∷ 0 ∷ 0 ∷ 0 ∷ 0 ∷ 0 ∷ 0 ∷ 0 ∷ 0 ∷ 1 ∷ [])
    ∷ ((var, 0xffffffffffffffff, 1), 0 ∷ 0 ∷ 0 ∷ 0 ∷ 0 ∷ 0 ∷ 0 ∷ 0 ∷ 0 ∷ 0 ∷ 0 ∷ 0 ∷ 0 ∷ 0 ∷ 0 ∷ 0 ∷ 1 ∷ 0 ∷ [])
    ∷ []

abbrev said : (Tree × ℕ × ℕ) × List ℕ → List ℕ
said r = r.1

abbrev computed : (Tree × ℕ × ℕ) × List ℕ → List ℕ
computed r = tallied r.0.0 r.0.1 r.0.2

rows_hold : map computed rows ≡ map said rows
unfolding tallied eval_tree binary
rows_hold = refl

-- one count, a million, one more; the wrong way round; both ends of 64 bits
spans_hold : map (λ (s : ℕ × ℕ). is_span s.0 s.1) ((0, 0) ∷ (0, 999999) ∷ (0, 1000000) ∷ (1, 0) ∷ (0xffffffffffffffff, 0xffffffffffffffff) ∷ (0, 0xffffffffffffffff) ∷ [])
    ≡ true ∷ true ∷ false ∷ false ∷ true ∷ false ∷ []
unfolding is_span
spans_hold = refl
