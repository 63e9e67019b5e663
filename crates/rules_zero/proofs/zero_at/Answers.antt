use Rattle.rules_zero.proofs.Steps.{step_down}
use Rattle.rules_zero.proofs.zero_at.Goals as goal

pub loop-at-smaller : goal.loop-at-smaller
loop-at-smaller c = (step_down _ c.loop-at.invariant.0 c.step-next.ensures c.if-next-at.false).0
