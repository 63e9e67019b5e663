-- A rule that was loaded, or is the empty catalog's, has a node. Assumes nothing.
use Prim.Native.Nat.{◌<◌}
use Rattle.std.specs.Prelude.{Result}
use Rattle.refusal.specs.declared.Refusal.{Refusal}
use Rattle.rules.specs.Tree.{default_tree}
use Rattle.rules.specs.Pool.{Pool}
use Rattle.container.specs.Catalog.{Answer, tree_in}
use Rattle.container.specs.Promise as promise
use Rattle.container.specs.declared.Loading.{Loading}
use Rattle.container.proofs.Stages.{some_nodes}

pub loaded_nodes : (a : Answer) {Q : Pool} {r : Loading} → promise.Loads a Q r → 0 < r.nodes
loaded_nodes a h = some_nodes (tree_in a) h.nodes_are

pub empty_nodes : {b : Result Unit Refusal} {Q : Pool} {r : Loading} → promise.Empties b Q r → 0 < r.nodes
empty_nodes h = some_nodes default_tree h.nodes_are
