use native.Mathlib.Omega.{arith}
use borrow.Author.Tests.{eqb-true}
use Rattle.text.proofs.Flags.{or_left, or_right}
use Rattle.text_utf8.proofs.Plain.{plain_none, plain_more, plain_to}
use Rattle.text_utf8.proofs.block.Goals as goal

pub loop-k-init : goal.loop-k-init
loop-k-init c = λ e. plain_to plain_none (omega arith)

pub loop-k-preserved : goal.loop-k-preserved
loop-k-preserved c = let z = c.loop-k.z in λ e. plain_more _ (c.loop-k.invariant (or_left z c.odd-z.result e)) (c.odd-z.ensures (or_right z c.odd-z.result e))

pub returns : goal.returns
returns c = λ e. plain_to (c.loop-k.invariant (eqb-true _ 0 e)) (omega arith)
