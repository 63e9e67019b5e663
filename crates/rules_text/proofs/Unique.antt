-- The promise fixes its result: any two results that it allows on the same input are equal, and so is what it leaves in the buffer. `Post`
-- is the promise as the check reads it from the source. Assumes nothing.
use mathlib.Core.Path.{sym, ap, ◌∙◌}
use mathlib.Core.List.{List}
use Prim.Native.Nat.{ℕ}
use contract.Lifetimes.{Lfts}
use denote.Triple.Clauses.{AtExit}
use borrow.Fn.Kinds.{ended_of}
use Rattle.promise.proofs.One.{OneLeft}
use Rattle.rules.specs.Pool.{pool_in, tree_of}
use Rattle.rules_text.specs.Bracketed.{bracketed}
use Rattle.rules_text.specs.Writing.{left_by}
use Rattle.rules_text.proofs.write.Reads as write
use Rattle.rules_text.proofs.write.Kinds as write-kinds

abbrev pub write_left : (κs : Lfts 2) → AtExit (ended_of 2 write-kinds.ps write-kinds.r) κs → List ℕ
write_left κs x = x.1.0.now

pub write_one : OneLeft 2 write-kinds.ps write-kinds.r write.Post write_left
write_one κs a u v x y p q =
    let e = p.0 ∙ sym q.0 in
    (e, p.1.0 ∙ (ap (λ w. left_by w (bracketed (tree_of (pool_in a.0.nodes) a.0.root)) a.1.0.now) e ∙ sym q.1.0))
