-- The cell lies in the file exactly if the two tests say so. Assumes nothing.
use Rattle.container_layout.proofs.Cells.{no_cell, has_cell_lem}
use mathlib.Core.Path.{◌∙◌}
use native.Mathlib.Omega.{arith}
use Rattle.container_layout.proofs.string_at.Goals as goal

pub returns-then-file-start : goal.returns-then-file-start
returns-then-file-start c = no_cell _ _ _ _ (omega arith)

pub returns-then-file-start-2 : goal.returns-then-file-start-2
returns-then-file-start-2 c = no_cell _ _ _ _ (omega arith)

pub returns : goal.returns
returns c = c.cell_at.ensures ∙ has_cell_lem _ _ _ _ c.wide-start.ensures.0 (omega arith)
