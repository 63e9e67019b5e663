-- What an array of 64-bit numbers can hold of a tree. SPEC 6: an integer "above 2^64-1 is 6", no rule.
use Rattle.std.specs.Prelude.{◌^◌, ◌<◌}
use Rattle.rules.specs.Tree.{Tree, var, int, nay, bin, cond}

-- the integers of a tree are below 2^64
abbrev pub Bounded : Tree → Type 0
Bounded var = Unit {0}
Bounded (int v) = v < 2 ^ 64
Bounded (nay t) = Bounded t
Bounded (bin op s t) = Bounded s × Bounded t
Bounded (cond s t u) = Bounded s × Bounded t × Bounded u
