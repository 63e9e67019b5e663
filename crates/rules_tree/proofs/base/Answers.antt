use mathlib.Core.Path.{sym, ◌∙◌}
use native.Mathlib.Omega.{arith}
use Rattle.rules_tree.proofs.Runs.{no_run, some_below, longer, stands}
use Rattle.rules_tree.proofs.base.Goals as goal

pub loop-p-init : goal.loop-p-init
loop-p-init c = no_run _ _ _

pub overflow_sub-p : goal.overflow_sub-p
overflow_sub-p c = some_below c.loop-p.invariant c.requires.1 (sym c.is_above.ensures ∙ c.loop-p-test.true)

pub loop-p-smaller : goal.loop-p-smaller
loop-p-smaller c = omega (arith, (some_below c.loop-p.invariant c.requires.1 (sym c.is_above.ensures ∙ c.loop-p-test.true)))

pub loop-p-preserved : goal.loop-p-preserved
loop-p-preserved c = longer c.loop-p.invariant _ (omega (arith, (some_below c.loop-p.invariant c.requires.1 (sym c.is_above.ensures ∙ c.loop-p-test.true)))) (sym c.is_above.ensures ∙ c.loop-p-test.true)

pub returns : goal.returns
returns c = stands c.loop-p.invariant (sym c.is_above.ensures ∙ c.loop-p-test.false)
