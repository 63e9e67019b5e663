-- The tree of a plural rule: n, an integer, !, a binary operator, ?:. SPEC 6; the operators are those of the Rust's `Operator` and C's
-- + - * / (SPEC 6.4). The six comparisons are one constructor, and so are the three that wrap.
use Rattle.std.specs.Prelude.{ℕ}

pub data Cmp : Type 0 where
  eq ne ge le gt lt : Cmp

pub data Calc : Type 0 where
  plus minus times : Calc

pub data Op : Type 0 where
  cmp : Cmp → Op
  calc : Calc → Op
  and or rem div : Op

pub data Tree : Type 0 where
  var : Tree
  int : ℕ → Tree
  nay : Tree → Tree
  bin : Op → Tree → Tree → Tree
  cond : Tree → Tree → Tree → Tree

-- what a reading makes of a text: its tree, or no reading
pub data Reading : Type 0 where
  tree : Tree → Reading
  none : Reading

-- the rule of a catalog without one: n != 1
abbrev pub default_tree : Tree
default_tree = bin (cmp ne) var (int 1)
