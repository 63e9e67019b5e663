-- The rule has a node, the last of which is the root. Assumes nothing.
use Prim.Native.Nat.{ℕ, ◌-◌}
use mathlib.Core.Path.{ap}
use Rattle.container.specs.Catalog as catalog
use Rattle.container.proofs.Stages.{some_nodes}
use Rattle.container.proofs.load.Goals as goal

pub overflow_sub-result : goal.overflow_sub-result
overflow_sub-result c = some_nodes (catalog.tree_in (catalog.load c.args.options c.args.rule.now c.args.file.now)) c.load_into-loading.ensures.nodes_are

pub returns : goal.returns
returns c = let w = c.load_into-loading.ensures in
    record {
      outcome_is = w.outcome_is;
      holds = record { tables_are = w.tables_are; rule_is = w.rule_is; nodes_are = w.nodes_are; root_is = ap (λ (k : ℕ). k - 1) w.nodes_are; forms_are = w.forms_are };
    }
