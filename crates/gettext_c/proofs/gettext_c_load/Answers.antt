-- A loaded rule has a node. Assumes nothing.
use Rattle.gettext_c.proofs.Exports.{loaded_nodes}
use Rattle.gettext_c.proofs.gettext_c_load.Goals as goal

pub loaded_of-requires : goal.loaded_of-requires
loaded_of-requires c = loaded_nodes _ c.load_into-loading.ensures
