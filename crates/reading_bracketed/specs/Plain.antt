-- The trees that either reading gives back. SPEC 14: "any tree of 01's operators"; b: "The Standard reading gains binary + - * /",
-- "Shipped does not change".
use Rattle.rules.specs.Tree.{Tree, var, int, nay, bin, cond, Op, cmp, calc, and, or, rem, div}
use Rattle.reading_rule.specs.declared.Reading.{Reading}
use Rattle.reading_rule.specs.declared.Reading.TheVariants.{Shipped, Standard}

-- one of document 01's binary operators, which are those of the Rust's `Operator`
abbrev pub Plain-op : Op → Type 0
Plain-op (cmp c) = Unit {0}
Plain-op and = Unit {0}
Plain-op or = Unit {0}
Plain-op rem = Unit {0}
Plain-op div = ⊥
Plain-op (calc c) = ⊥

-- a tree of such operators only
abbrev pub Plain : Tree → Type 0
Plain var = Unit {0}
Plain (int v) = Unit {0}
Plain (nay t) = Plain t
Plain (bin op s t) = Plain-op op × Plain s × Plain t
Plain (cond s t u) = Plain s × Plain t × Plain u

-- a tree of the operators that a reading has
abbrev pub Knows : Reading → Tree → Type 0
Knows Shipped t = Plain t
Knows Standard t = Unit {0}
