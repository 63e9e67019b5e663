-- From place 0 on the next free place is the number of nodes: what `parse` gives there is what the reader promises. Assumes nothing.
use Prim.Native.Nat.{ℕ}
use mathlib.Core.Path.{ap, ◌∙◌}
use mathlib.Core.List.{List}
use native.Mathlib.Omega.{arith}
use lib.ListN.{length}
use Rattle.std.specs.Prelude.{Option, Some}
use Rattle.rules.specs.Tree.{Reading, tree, none}
use Rattle.rules.specs.Pool.{Pool}
use Rattle.rules.specs.Reads.{Answered}
use Rattle.reading_shipped.specs.Private.{Gives}

pub from_zero : (o : Reading) (s : List ℕ) {P Q : Pool} {r : Option ℕ} → Gives o (length s) 0 P Q r → Answered o s P Q r
from_zero (tree t) s w = record { read = record { answer = w.wrote.answer ∙ ap Some (omega arith); stored = w.wrote.stored; fits = w.wrote.small } }
from_zero none s w = record { read = w.wrote }
