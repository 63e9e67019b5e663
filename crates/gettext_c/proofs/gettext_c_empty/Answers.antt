-- The empty catalog's rule has a node. Assumes nothing.
use Rattle.gettext_c.proofs.Exports.{empty_nodes}
use Rattle.gettext_c.proofs.gettext_c_empty.Goals as goal

pub loaded_of-requires : goal.loaded_of-requires
loaded_of-requires c = empty_nodes c.empty_into-loading.ensures
