use mathlib.Core.Path.{◌≡◌}
use native.Mathlib.Omega.{arith}
use Rattle.rules_tree.proofs.Runs.{down_to}
use Rattle.rules_value.proofs.Values.{lift_more}
use Rattle.rules_value.proofs.up.Goals as goal

pub loop-p-init : goal.loop-p-init
loop-p-init c = record { gives = λ n b g. g }

pub one-y-requires : goal.one-y-requires
one-y-requires c = record { sound = down_to c.requires.sound (omega arith); one = c.requires.run.all _ (omega arith) (omega arith) }

pub loop-p-preserved : goal.loop-p-preserved
loop-p-preserved c = lift_more (omega arith) c.loop-p.invariant c.one-y.ensures

pub returns : goal.returns
returns c = let e : c.loop-p.p ≡ c.args.at = omega (arith, c.requires.run.below) in rw e at c.loop-p.invariant
