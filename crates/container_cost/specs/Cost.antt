-- What a load costs: the sum of the lengths that the tables of a file state. A load looks at these many bytes of strings, at most, since it
-- tests each entry's by themselves, and entries may overlap.
use Rattle.std.specs.Prelude.{ℕ, zero, suc, ◌+◌, ◌*◌, ◌-◌, ◌^◌, Bool, true, false, List, ltb, Result, Ok, Err}
use Rattle.container_layout.specs.Mo.{word, has_cell}
use Rattle.container_head.specs.Head.{head_of}
use Rattle.container_layout.specs.declared.Tables.{Tables}
use Rattle.refusal.specs.declared.Error.{Error}

-- the length that the cell of index i states, where it lies in the file
unfoldable pub stated : Bool → List ℕ → ℕ → ℕ → ℕ
unfolding word
stated big s table i = elim (has_cell s table i) [ true ↦ word big s (table + 8 * i) | false ↦ 0 ]

-- of the cells of the first k indices
unfoldable pub lengths : Bool → List ℕ → ℕ → ℕ → ℕ
unfolding stated
lengths big s table zero = 0
lengths big s table (suc k) = lengths big s table k + stated big s table k

-- as a number of 64 bits: the greatest stands for those above it
unfoldable pub capped : ℕ → ℕ
capped x = elim (ltb x (2 ^ 64)) [ true ↦ x | false ↦ 2 ^ 64 - 1 ]

unfoldable pub cost_of : List ℕ → Result Tables Error → ℕ
unfolding lengths capped
cost_of s (Ok t) = capped (lengths t.big s t.originals t.count + lengths t.big s t.translations t.count)
cost_of s (Err e) = 0

unfoldable pub cost : List ℕ → ℕ
unfolding cost_of head_of
cost s = cost_of s (head_of s)
