-- Each public function's promise fixes its result: any two results that it allows on the same input are equal, what it leaves in the
-- arrays that are lent counted in. `Post` is the promise as the check reads it from the source. Assumes nothing.
use Prim.Native.Nat.{ℕ}
use mathlib.Core.Path.{◌≡◌, sym, ◌∙◌}
use contract.Lifetimes.{Lfts}
use denote.Triple.Clauses.{AtExit}
use borrow.Fn.Kinds.{ended_of}
use Rattle.promise.proofs.One.{OneLeft}
use Rattle.refusal.specs.declared.Refusal.{Refusal}
use Rattle.std.specs.Prelude.{Result}
use Rattle.rules.specs.Pool.{Pool}
use Rattle.rules.specs.Lent.{pool_left}
use Rattle.reading_rule.specs.Plurals.{Parse, Parses}
use Rattle.reading_rule.proofs.parse.Reads as parse
use Rattle.reading_rule.proofs.parse.Kinds as parse-kinds
use Rattle.reading_rule.proofs.refuse.Reads as refuse
use Rattle.reading_rule.proofs.refuse.Kinds as refuse-kinds

pub parses_one : (p : Parse) {P Q : Pool} (u v : Result ℕ Refusal) → Parses p P u → Parses p Q v → (u ≡ v) × (P ≡ Q)
parses_one p u v a b = (a.outcome ∙ sym b.outcome, a.stored ∙ sym b.stored)

-- the arrays that are lent, as a pool
abbrev refuse_left : (κs : Lfts 2) → AtExit (ended_of 2 refuse-kinds.ps refuse-kinds.r) κs → Pool
refuse_left κs x = pool_left x.1.0.now

pub refuse_one : OneLeft 2 refuse-kinds.ps refuse-kinds.r refuse.Post refuse_left
refuse_one κs a u v x y p q = parses_one _ u v p.1 q.1

abbrev parse_left : (κs : Lfts 3) → AtExit (ended_of 3 parse-kinds.ps parse-kinds.r) κs → Pool
parse_left κs x = pool_left x.1.1.1.0.now

pub parse_one : OneLeft 3 parse-kinds.ps parse-kinds.r parse.Post parse_left
parse_one κs a u v x y p q = parses_one _ u v p.1 q.1
