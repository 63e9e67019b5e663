-- `rules_value::up` meets its contract. The loop's invariant: y is the value of the node at p.
use Rattle.rules.specs.Pool.{pool_in}
use Rattle.rules_value.specs.Private.{Lifts}
use Rattle.rules_value.proofs.up.Given as goal

abbrev pub invariant-loop-p : goal.invariant-loop-p
invariant-loop-p l = Lifts (pool_in l.nodes) l.base l.p l.x l.initial.zero l.zero l.y
