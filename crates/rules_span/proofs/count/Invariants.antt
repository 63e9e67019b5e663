-- A turn is one step of the definition. Assumes nothing.
use mathlib.Core.Path.{◌≡◌}
use Rattle.rules.specs.Pool.{pool_in, tree_of}
use Rattle.rules_span.specs.Span.{tallied}
use Rattle.rules_span.proofs.count.Given as goal

abbrev pub invariant-loop-k : goal.invariant-loop-k
invariant-loop-k l = l.figures ≡ tallied (tree_of (pool_in l.nodes) l.root) l.a l.k
