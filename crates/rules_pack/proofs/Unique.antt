-- The promise fixes its result: any two results that it allows on the same input are equal, and so is what it leaves in the arrays that are
-- lent to be written. `Post` is the promise as the check reads it from the source. Assumes nothing.
use mathlib.Core.Path.{sym, ◌∙◌}
use contract.Lifetimes.{Lfts}
use denote.Triple.Clauses.{AtExit}
use borrow.Fn.Kinds.{ended_of}
use Rattle.promise.proofs.One.{OneLeft}
use Rattle.rules.specs.Pool.{Pool}
use Rattle.rules.specs.Lent.{pool_left}
use Rattle.rules_pack.proofs.pack.Reads as pack
use Rattle.rules_pack.proofs.pack.Kinds as pack-kinds

-- the arrays that are written, as a pool
abbrev pub pack_left : (κs : Lfts 3) → AtExit (ended_of 3 pack-kinds.ps pack-kinds.r) κs → Pool
pack_left κs x = pool_left x.1.1.0.now

pub pack_one : OneLeft 3 pack-kinds.ps pack-kinds.r pack.Post pack_left
pack_one κs a u v x y p q = (p.1.1 ∙ sym q.1.1, p.1.0 ∙ sym q.1.0)
