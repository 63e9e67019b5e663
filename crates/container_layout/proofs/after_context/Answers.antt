use Rattle.container_layout.proofs.Marks.{with_context}
use Rattle.container_layout.proofs.after_context.Goals as goal

pub returns : goal.returns
returns c = with_context _ c.requires.0 c.requires.1 c.find_byte_from.ensures
