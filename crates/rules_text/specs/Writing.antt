-- What writing the text of a rule into a buffer answers, and what it leaves there. SPEC 14: "after 11, a text over 512 bytes or
-- longer than the buffer answers 8, and both leave it unchanged; otherwise the answer has the length and the rest of the buffer stays".
use Rattle.std.specs.Prelude.{ℕ, true, false, ◌&&◌, List, ◌++◌, length, drop, leb, Result, Ok, Err}
use Rattle.rules.specs.Tree.{Tree}
use Rattle.rules.specs.Pool.{Pool, tree_of, is_tree}
use Rattle.rules_text.specs.declared.Unwritten.{Unwritten}
use Rattle.rules_text.specs.declared.Unwritten.TheVariants.{TooLong, NoTree}
use Rattle.rules_text.specs.Bracketed.{bracketed}
use Rattle.rules_text.specs.Bounded.{Bounded}

-- the answer for a text in a buffer of so many bytes
abbrev pub fitted : List ℕ → ℕ → Result ℕ Unwritten
fitted s room = elim (leb (length s) 512 && leb (length s) room) [ true ↦ Ok (length s) | false ↦ Err TooLong ]

-- and for the rule of a record
unfoldable pub writing_of : Pool → ℕ → ℕ → ℕ → Result ℕ Unwritten
writing_of P count root room = elim (is_tree P count root) [ true ↦ fitted (bracketed (tree_of P root)) room | false ↦ Err NoTree ]

-- what the buffer then holds
abbrev pub left_by : Result ℕ Unwritten → List ℕ → List ℕ → List ℕ
left_by (Ok n) s old = s ++ drop n old
left_by (Err e) s old = old

-- the integers of a rule that was written are below 2^64
abbrev pub BoundedBy : Result ℕ Unwritten → Tree → Type 0
BoundedBy (Ok n) t = Bounded t
BoundedBy (Err e) t = Unit {0}
