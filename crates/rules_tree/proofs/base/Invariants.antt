-- `rules_tree::base` meets its contract. The loop's invariant: the nodes above p are of the run.
use Rattle.rules_tree.specs.Promise.{Run}
use Rattle.rules_tree.proofs.base.Given as goal

abbrev pub invariant-loop-p : goal.invariant-loop-p
invariant-loop-p l = Run l.codes l.at l.end l.p

abbrev pub decreases-loop-p : goal.decreases-loop-p
decreases-loop-p l = l.p
