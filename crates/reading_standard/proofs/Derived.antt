-- The promise of `standard` in the words of the grammar: a text that derives a tree has that tree stored, and a text that is answered
-- None derives none. Both follow from `agrees`, since the promise speaks of the function that finds the tree.
use Prim.Native.Nat.{ℕ}
use mathlib.Core.Path.{◌≡◌}
use mathlib.Core.List.{List}
use native.Mathlib.Omega.{arith}
use Rattle.rules.specs.Tree.{Tree}
use Rattle.rules.specs.Pool.{Pool}
use Rattle.rules.specs.Store.{size}
use Rattle.std.specs.Prelude.{Option, Some, None}
use Rattle.reading_grammar.specs.Grammar.{full, Derives}
use Rattle.reading_grammar.specs.Tokens.{tokens}
use Rattle.reading_grammar.proofs.Complete.{agrees}
use Rattle.rules.specs.Reads.{Stored, Answered}
use Rattle.reading_grammar.specs.Reading.{standard}

module _ {s : List ℕ} {P Q : Pool} where
  pub derived : {t : Tree} {r : Option ℕ} → Derives full (tokens s) t → Answered (standard s) s P Q r → Stored t s P Q r
  derived {t} d a = rw ((agrees s t).1 d) at a.read

  pub underived : Answered (standard s) s P Q None → (t : Tree) → Derives full (tokens s) t → ⊥
  underived a t d =
      let e : None ≡ Some (size t) = (derived d a).answer in
      let z : ◌≡◌ {A = ℕ} 0 1 = cc in
      omega arith
