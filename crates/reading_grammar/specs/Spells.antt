-- Which bytes spell which tokens, as a relation. SPEC 6.2: blanks, space and tab, stand between tokens; a whole run of digits is one integer,
-- decimal even after a leading zero; the longest operator is taken, and any other byte stands for itself. Each text spells one list of
-- tokens, and the function `tokens` finds it (proofs/Spelled.antt, `spells_exactly`).
use Rattle.std.specs.Prelude.{ℕ, ◌+◌, ◌-◌, ◌*◌, ◌≡◌, true, false, List, [], ◌∷◌, ◌++◌}
use Prim.Native.Char.{code}
use Rattle.std.proofs.Math.Option.{none, some}
use Rattle.rules.specs.Tree.{Op, Tree}
use Rattle.reading_grammar.specs.Grammar.{Token, sign, number, Derives, full}
use Rattle.reading_grammar.specs.Tokens.{twos, ones, find_two, two, find_one, digit, blank}

-- the number that digits spell after those that made v
abbrev pub decimal : ℕ → List ℕ → ℕ
decimal v [] = v
decimal v (b ∷ d) = decimal (10 * v + (b - code "0")) d

pub data Digits : List ℕ → Type 0 where
  none_left : Digits []
  one_more : {b : ℕ} {d : List ℕ} → digit b ≡ true → Digits d → Digits (b ∷ d)

-- a run of digits ends here
pub data Ends : List ℕ → Type 0 where
  at_end : Ends []
  at_other : {b : ℕ} {s : List ℕ} → digit b ≡ false → Ends (b ∷ s)

pub data Spells : List ℕ → List Token → Type 0 where
  nothing : Spells [] []
  skip : {b : ℕ} {s : List ℕ} {t : List Token} → blank b ≡ true → Spells s t → Spells (b ∷ s) t
  run : {b : ℕ} {d s : List ℕ} {t : List Token} → Digits (b ∷ d) → Ends s → Spells s t → Spells (b ∷ d ++ s) (number (decimal 0 (b ∷ d)) ∷ t)
  pair : {b c : ℕ} {op : Op} {s : List ℕ} {t : List Token} → find_two twos b c ≡ some op → Spells s t → Spells (b ∷ c ∷ s) (sign op ∷ t)
  single : {b : ℕ} {s : List ℕ} {t : List Token} → digit b ≡ false → blank b ≡ false → two b s ≡ none → Spells s t → Spells (b ∷ s) (find_one ones b ∷ t)

-- a text means a tree, in C's grammar: it spells tokens that derive the tree
pub record Means (s : List ℕ) (t : Tree) : Type 0 where
  pub these : List Token
  pub spelled : Spells s these
  pub derived : Derives full these t
