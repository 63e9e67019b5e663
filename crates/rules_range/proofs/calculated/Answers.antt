-- `rules_range::calculated` meets its contract: an arm's number picks the row, and one of no other number is that of *.
use Prim.Native.Nat.{◌+◌, ◌-◌, ◌*◌, ◌^◌}
use mathlib.Core.Path.{◌≡◌}
use mathlib.Core.Option.{some}
use native.Mathlib.Omega.{arith}
use native.Mathlib.Nat.{mul-le-mul}
use borrow.Author.Tests.{lt-ltb, le-ltb, le-leb, lt-leb}
use Rattle.rules.specs.Tree.{calc, plus, minus}
use Rattle.rules.specs.Operator.{op_of, op_at}
use Rattle.rules.specs.Range.{kept, op_range}
use Rattle.rules_operators.proofs.Operators.{same_calc, calc_rest}
use borrow.Author.Rules.{rules}
use Rattle.rules_range.proofs.calculated.Goals as goal

pub returns-in-Some : goal.returns-in-Some
unfolding op_of op_at op_range kept
returns-in-Some c =
    record { is = λ k e. let d : some (calc plus) ≡ some (calc k) = rw c.in-10.is at e in rw (← same_calc d, lt-ltb _ _ (c.in-Some.ensures).0, (c.in-Some.ensures).1) }

pub returns-in-None : goal.returns-in-None
unfolding op_of op_at op_range kept
returns-in-None c =
    record { is = λ k e. let d : some (calc plus) ≡ some (calc k) = rw c.in-10.is at e in rw (← same_calc d, le-ltb (c.args.h + c.args.m) (2 ^ 64) (omega (arith, c.in-None.ensures))) }

pub returns-then-m-k : goal.returns-then-m-k
unfolding op_of op_at op_range kept
returns-then-m-k c = record { is = λ k e. let d : some (calc minus) ≡ some (calc k) = rw c.in-11.is at e in rw (← same_calc d, le-leb _ _ c.if-m-k.true, lt-ltb (c.args.h - c.args.l) (2 ^ 64) (omega arith)) }

pub returns-else-m-k : goal.returns-else-m-k
unfolding op_of op_at op_range kept
returns-else-m-k c = record { is = λ k e. let d : some (calc minus) ≡ some (calc k) = rw c.in-11.is at e in rw (← same_calc d, lt-leb _ _ c.if-m-k.false) }

pub overflow_mul-result : goal.overflow_mul-result
overflow_mul-result c =
    let h = (c.in-Some-checked_mul.ensures).0 in
    let g = mul-le-mul {n₁ = c.args.k} {m₁ = c.args.l} {n₂ = c.args.h} {m₂ = c.args.m} c.requires.0 c.requires.1 in search rules

pub returns-in-Some-checked_mul : goal.returns-in-Some-checked_mul
unfolding op_range kept
returns-in-Some-checked_mul c =
    record { is = λ k e. let f = c.in-Some-checked_mul.ensures in rw (calc_rest c.args.op k e (omega arith) (omega arith), lt-ltb _ _ f.0, f.1) }

pub returns-in-None-checked_mul : goal.returns-in-None-checked_mul
unfolding op_range kept
returns-in-None-checked_mul c =
    record { is = λ k e. rw (calc_rest c.args.op k e (omega arith) (omega arith), le-ltb (c.args.h * c.args.m) (2 ^ 64) (omega (arith, c.in-None-checked_mul.ensures))) }
