-- Two blocks and two more. Assumes nothing.
use native.Mathlib.Omega.{arith}
use Rattle.text.proofs.Lowest.{least_blocks}
use Rattle.text.proofs.least_four.Goals as goal

pub returns : goal.returns
returns c = least_blocks c.least-one.ensures c.least-two.ensures c.least-three.ensures c.least.ensures (omega arith)
