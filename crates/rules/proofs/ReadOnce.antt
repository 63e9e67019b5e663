-- What a reader promises allows one result: a text with a tree fixes the answer and every array, since storing is a function of the tree; a
-- text without one fixes the answer, and the arrays are then of no use.
use Prim.Native.Nat.{ℕ}
use mathlib.Core.Path.{◌≡◌, sym, ◌∙◌}
use mathlib.Core.List.{List}
use Rattle.std.specs.Prelude.{Option}
use Rattle.rules.specs.Tree.{Reading, tree, none}
use Rattle.rules.specs.Pool.{Pool}
use Rattle.rules.specs.Reads.{Answered}

abbrev pub Same : Reading → Pool → Pool → Option ℕ → Option ℕ → Type 0
Same (tree t) Q R q r = (q ≡ r) × (Q ≡ R)
Same none Q R q r = q ≡ r

pub unique : (o : Reading) {s : List ℕ} {P Q R : Pool} {q r : Option ℕ} → Answered o s P Q q → Answered o s P R r → Same o Q R q r
unique (tree t) a b = (a.read.answer ∙ sym b.read.answer, a.read.stored ∙ sym b.read.stored)
unique none a b = a.read ∙ sym b.read
