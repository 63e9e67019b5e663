use Rattle.container_layout.proofs.Segments.{segment_out, segment_in_lem}
use native.Mathlib.Omega.{arith}
use Rattle.container_layout.proofs.segment_at.Goals as goal

pub returns-then-file-start : goal.returns-then-file-start
returns-then-file-start c = segment_out _ _ _ _ (omega arith)

pub returns-then-file-start-2 : goal.returns-then-file-start-2
returns-then-file-start-2 c = segment_out _ _ _ _ (omega arith)

pub returns : goal.returns
returns c = segment_in_lem _ _ _ _ (omega arith) c.segment_in.ensures
