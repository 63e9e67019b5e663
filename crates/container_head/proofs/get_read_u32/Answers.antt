-- The magic in the one byte order or in the other. Assumes nothing.
use Rattle.container_head.proofs.Heads.{is_little, is_big, is_unknown}
use Rattle.container_head.proofs.get_read_u32.Goals as goal

pub returns-then-read_u32-eq-MAGIC : goal.returns-then-read_u32-eq-MAGIC
returns-then-read_u32-eq-MAGIC c = is_little _ c.read_u32.ensures c.if-read_u32-eq-MAGIC.true

pub returns-then-read_u32-eq-MAGIC-2 : goal.returns-then-read_u32-eq-MAGIC-2
returns-then-read_u32-eq-MAGIC-2 c = is_big _ c.read_u32.ensures c.if-read_u32-eq-MAGIC.false c.read_u32-2.ensures c.if-read_u32-eq-MAGIC-2.true

pub returns : goal.returns
returns c = is_unknown _ c.read_u32.ensures c.if-read_u32-eq-MAGIC.false c.read_u32-2.ensures c.if-read_u32-eq-MAGIC-2.false
