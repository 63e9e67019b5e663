use native.Mathlib.Omega.{arith}
use Rattle.text_utf8.proofs.Machine.{begins, goes_on, ends}
use Rattle.text_utf8.proofs.by_table.Goals as goal

pub loop-b-init : goal.loop-b-init
loop-b-init c = begins

pub loop-b-preserved : goal.loop-b-preserved
loop-b-preserved c =
    goes_on c.requires c.loop-b.invariant c.loop-b-test.true (omega (arith, c.type_inv.s c.loop-b.b-index)) c.from.ensures c.from-class.ensures c.from-state.ensures

pub returns : goal.returns
returns c = ends c.loop-b.invariant c.loop-b-test.false
