-- Small questions about texts of bytes that several layers ask.
use Rattle.std.specs.Prelude.{ℕ, suc, ◌+◌, Bool, true, false, not, ◌&&◌, List, [], ◌∷◌, leb, eqb, Option, Some, None}
use Prim.Native.Char.{code}
use Prim.Native.String as Str
use Rattle.text.specs.declared.Case.{Case}
use Rattle.text.specs.declared.Case.TheVariants.{AsWritten, Small}

-- the bytes of an ASCII text in quotes
abbrev pub bytes : Str.String → List ℕ
bytes Str.String.[] = []
bytes (Str.String.◌∷◌ c s) = code c ∷ bytes s

-- a byte is one of those from one to another, both included
abbrev pub within : ℕ × ℕ → ℕ → Bool
within r b = leb r.0 b && leb b r.1

-- every byte is in the set
unfoldable pub all : (ℕ → Bool) → List ℕ → Bool
all w [] = true
all w (b ∷ s) = w b && all w s

-- how many bytes of the set stand at the front
unfoldable pub front : (ℕ → Bool) → List ℕ → ℕ
front w [] = 0
front w (b ∷ s) = elim (w b) [ true ↦ suc (front w s) | false ↦ 0 ]

-- the first place of a byte, or the text's length: how many other bytes stand at the front
abbrev pub place : ℕ → List ℕ → ℕ
place x s = front (λ b. not (eqb b x)) s

-- the two texts are the same
unfoldable pub same : List ℕ → List ℕ → Bool
same [] [] = true
same [] (b ∷ t) = false
same (a ∷ s) [] = false
same (a ∷ s) (b ∷ t) = eqb a b && same s t

-- the text begins with the pattern
unfoldable pub begins : List ℕ → List ℕ → Bool
begins [] s = true
begins (p ∷ ps) [] = false
begins (p ∷ ps) (b ∷ s) = eqb p b && begins ps s

abbrev pub next : Option ℕ → Option ℕ
next (Some i) = Some (suc i)
next None = None

-- the first place at which the pattern stands
unfoldable pub first : List ℕ → List ℕ → Option ℕ
unfolding begins
first p [] = elim (begins p []) [ true ↦ Some 0 | false ↦ None ]
first p (b ∷ s) = elim (begins p (b ∷ s)) [ true ↦ Some 0 | false ↦ next (first p s) ]

-- A to Z as a to z, every other byte as it is
abbrev pub small : ℕ → ℕ
small b = elim (leb 65 b && leb b 90) [ true ↦ b + 32 | false ↦ b ]

-- a byte as it is read
abbrev pub read : Case → ℕ → ℕ
read AsWritten b = b
read Small b = small b
