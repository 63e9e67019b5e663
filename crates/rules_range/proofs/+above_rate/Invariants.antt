-- `rules_range::rate` and `above` meet their contracts: a first or a second operand lies below its parent, so the place is the measure. The loop's
-- invariant: the two numbers are the range of the tree before p.
use mathlib.Core.Path.{◌≡◌}
use Rattle.rules.specs.Range.{rate_tree}
use Rattle.rules.specs.Pool.{pool_in, tree_of}
use Rattle.rules_range.specs.Private.{from_to}
use Prim.Native.Nat.{◌+◌, ◌-◌, ◌*◌}
use Rattle.rules_range.proofs.+above_rate.Given as goal

abbrev pub decreases-above : goal.decreases-above
decreases-above l = 2 * l.at

abbrev pub decreases-rate : goal.decreases-rate
decreases-rate l = 2 * l.at + 1

abbrev pub invariant-rate-loop-p : goal.invariant-rate-loop-p
invariant-rate-loop-p l = from_to l.low l.high ≡ rate_tree (tree_of (pool_in l.nodes) (l.p - 1))
