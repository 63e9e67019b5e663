-- The loop's invariant: the node sought from the root is the one sought from here. The measure is the place. Assumes nothing.
use mathlib.Core.Path.{◌≡◌}
use Rattle.rules.specs.Pool.{pool_in}
use Rattle.rules.specs.Promise.{Sound}
use Rattle.rules_zero.specs.Zero.{zero_at}
use Rattle.rules_zero.proofs.zero_at.Given as goal

abbrev pub invariant-loop-at : goal.invariant-loop-at
invariant-loop-at l = Sound (pool_in l.nodes) l.at × (zero_at (pool_in l.nodes) l.n l.root ≡ zero_at (pool_in l.nodes) l.n l.at)

abbrev pub decreases-loop-at : goal.decreases-loop-at
decreases-loop-at l = l.at
