-- A text cut at each byte x: always at least one piece. Document 01: a header's lines at byte 10, Plural-Forms at semicolons, a
-- translation's segments at NUL.
use Rattle.std.specs.Prelude.{ℕ, Bool, true, false, ◌&&◌, List, [], ◌∷◌, eqb}

-- b before the first piece
abbrev pub onto : ℕ → List (List ℕ) → List (List ℕ)
onto b [] = (b ∷ []) ∷ []
onto b (p ∷ ps) = (b ∷ p) ∷ ps

unfoldable pub cut : ℕ → List ℕ → List (List ℕ)
cut x [] = [] ∷ []
cut x (b ∷ s) = elim (eqb b x) [ true ↦ [] ∷ cut x s | false ↦ onto b (cut x s) ]

-- every piece passes the test
unfoldable pub every : (List ℕ → Bool) → List (List ℕ) → Bool
every f [] = true
every f (p ∷ ps) = f p && every f ps
