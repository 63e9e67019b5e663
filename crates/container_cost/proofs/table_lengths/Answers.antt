use mathlib.Core.Path.{refl, ap, ◌∙◌}
use native.Mathlib.Omega.{arith}
use Rattle.container_cost.specs.Cost.{lengths, capped}
use Rattle.container_cost.proofs.Sums.{capped_min, lengths_none, lengths_step, lengths_all}
use Rattle.container_cost.proofs.table_lengths.Goals as goal

pub loop-i-init : goal.loop-i-init
loop-i-init c = lengths_none _ _ _

pub loop-i-preserved : goal.loop-i-preserved
loop-i-preserved c = lengths_step _ _ _ _ c.loop-i.invariant (c.cells-n.ensures.inside _ c.loop-i-test.true) (omega (arith, c.wide.ensures.0)) c.read_u32.ensures (c.saturating_add-sum.ensures ∙ capped_min _) refl

pub returns : goal.returns
returns c = c.loop-i.invariant ∙ ap capped (ap (lengths _ _ _) (omega arith) ∙ lengths_all _ _ _ c.cells-n.ensures)
