-- Four bytes in either order. Assumes nothing.
use native.Mathlib.Omega.{arith}
use Rattle.container_layout.proofs.Cells.{read_big, read_little}
use Rattle.container_layout.proofs.read_u32.Goals as goal

pub returns-then-big : goal.returns-then-big
returns-then-big c = read_big _ _ c.if-big.true (omega (arith, c.from_be_bytes.ensures))

pub returns : goal.returns
returns c = read_little _ _ c.if-big.false (omega (arith, c.from_le_bytes.ensures))
