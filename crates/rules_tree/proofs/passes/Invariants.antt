-- `rules_tree::passes` meets its contract. The loop's invariant: every place before p passed, and the marks are those of their operands,
-- of which none stands twice.
use mathlib.Core.List.{[]}
use Rattle.rules.specs.Pool.{pool}
use Rattle.rules_tree.proofs.Marks.{Passed}
use Rattle.rules_tree.proofs.passes.Given as goal

abbrev pub invariant-loop-p : goal.invariant-loop-p
invariant-loop-p l = Passed (pool l.codes l.places []) l.p l.marks
