-- The default rule has a node. Assumes nothing.
use Rattle.rules.specs.Tree.{default_tree}
use Rattle.container.proofs.Stages.{some_nodes}
use Rattle.container.proofs.empty.Goals as goal

pub overflow_sub-result : goal.overflow_sub-result
overflow_sub-result c = some_nodes default_tree c.put_default-nodes.ensures.count
