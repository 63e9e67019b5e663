use native.Mathlib.Omega.{arith}
use borrow.Author.Rules.{rules}
use Rattle.text.proofs.Lowest.{least_none, least_at, least_join}
use Rattle.text.proofs.least_of.Goals as goal

pub returns-then-n-lt16 : goal.returns-then-n-lt16
returns-then-n-lt16 c = c.least_short.ensures

pub returns-then-n-le32 : goal.returns-then-n-le32
returns-then-n-le32 c = least_join c.least.ensures c.least-then-n-le32.ensures (omega arith)

pub returns-then-n-le64 : goal.returns-then-n-le64
returns-then-n-le64 c = least_at c.least_four.ensures (omega arith)

pub loop-i-init : goal.loop-i-init
loop-i-init c = (search rules, least_none (omega arith), search rules)

pub loop-i-preserved : goal.loop-i-preserved
loop-i-preserved c = (search rules, least_join c.loop-i.invariant.1 c.least_four-z.ensures (omega arith), search rules)

pub returns : goal.returns
returns c = least_join c.loop-i.invariant.1 c.least_four-2.ensures (omega arith)
