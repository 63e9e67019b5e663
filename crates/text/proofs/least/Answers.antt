use native.Mathlib.Omega.{arith}
use Rattle.text.proofs.Lowest.{least_none, least_at, least_more}
use Rattle.text.proofs.least.Goals as goal

pub loop-k-init : goal.loop-k-init
loop-k-init c = least_none (omega arith)

pub loop-k-preserved : goal.loop-k-preserved
loop-k-preserved c = least_more c.loop-k.invariant c.common.ensures (omega arith) (omega arith)

pub returns : goal.returns
returns c = least_at c.loop-k.invariant (omega arith)
