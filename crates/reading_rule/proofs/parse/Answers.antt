-- Each test leaves one case of the definition. Assumes nothing.
use native.Mathlib.Omega.{arith}
use borrow.Author.Tests.{lt-ltb, le-ltb}
use Rattle.reading_rule.proofs.Steps.{parses, long_refused, foreign_refused, passed}
use Rattle.reading_rule.proofs.parse.Goals as goal

pub returns-then-long-clause-parsed : goal.returns-then-long-clause-parsed
returns-then-long-clause-parsed c =
    parses (long_refused c.args.place c.args.reading _ c.trim-s.ensures.result_value (lt-ltb _ _ (omega arith))) (rw c.at.ensures at c.refuse.ensures.parsed)

pub returns-then-not-ascii-clause-parsed : goal.returns-then-not-ascii-clause-parsed
returns-then-not-ascii-clause-parsed c =
    parses (foreign_refused c.args.place c.args.reading _ c.trim-s.ensures.result_value (le-ltb _ _ (omega arith)) c.ascii.ensures c.if-not-ascii.true)
    (rw c.at-then-not-ascii.ensures at c.refuse-then-not-ascii.ensures.parsed)

pub returns-clause-parsed : goal.returns-clause-parsed
returns-clause-parsed c =
    parses (passed c.args.place c.args.reading _ c.trim-s.ensures.result_value (le-ltb _ _ (omega arith)) c.ascii.ensures c.if-not-ascii.false) c.rule_of.ensures.parsed
