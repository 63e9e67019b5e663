use mathlib.Core.Path.{◌≡◌, sym, ◌∙◌}
use lib.ListN.{length}
use native.Mathlib.Omega.{arith}
use borrow.Author.Rules.{rules}
use Rattle.reading_tokens.proofs.Lexed.{run_end, run_stop, run_on, run_huge}
use Rattle.reading_tokens.proofs.integer.Goals as goal

pub returns-then-not-is_digit : goal.returns-then-not-is_digit
returns-then-not-is_digit c =
    run_stop _ _ _ c.loop-i.invariant.0 c.loop-i-test.true (sym c.is_digit.ensures ∙ c.if-not-is_digit.true) ∙ sym c.loop-i.invariant.1

pub returns-in_default : goal.returns-in_default
returns-in_default c =
    run_huge _ _ _ c.loop-i-test.true (sym c.is_digit.ensures ∙ c.if-not-is_digit.false) c.in_default.ensures ∙ sym c.loop-i.invariant.1

pub loop-i-preserved : goal.loop-i-preserved
loop-i-preserved c = (
  search rules,
  c.loop-i.invariant.1 ∙ run_on _ _ _ c.loop-i-test.true (sym c.is_digit.ensures ∙ c.if-not-is_digit.false) c.in-Some.ensures,
)

pub returns : goal.returns
returns c =
    let all : c.loop-i.i ≡ length c.args.s.now = omega arith in run_end _ _ _ c.loop-i.invariant.0 all ∙ sym c.loop-i.invariant.1
