-- Cells and strings by the load's tests, then the id's ending. Assumes nothing.
use mathlib.Core.Path.{sym, ◌∙◌}
use Rattle.container_layout.proofs.Cells.{string_told}
use Rattle.container_layout.proofs.Entries.{no_original, no_id, no_translation, is_entry}
use native.Mathlib.Omega.{arith}
use Rattle.container_layout.proofs.entry_at.Goals as goal

pub returns-in_err-original : goal.returns-in_err-original
returns-in_err-original c = c.from_residual.ensures ∙ no_original _ _ _ c.string_at.ensures c.in_err-original.was

pub overflow_add-end : goal.overflow_add-end
overflow_add-end c = omega (arith, string_told _ _ _ _ (sym c.string_at.ensures ∙ c.in_ok-original.was))

pub overflow_add-end-2 : goal.overflow_add-end-2
overflow_add-end-2 c = omega (arith, string_told _ _ _ _ (sym c.string_at.ensures ∙ c.in_ok-original.was))

pub slice_bounds-split-end : goal.slice_bounds-split-end
slice_bounds-split-end c = string_told _ _ _ _ (sym c.string_at.ensures ∙ c.in_ok-original.was)

pub returns-then-original-parts : goal.returns-then-original-parts
returns-then-original-parts c = no_id _ _ _ c.string_at.ensures c.in_ok-original.was c.split-parts.ensures c.if-original-parts.true

pub returns-in_err-translation : goal.returns-in_err-translation
returns-in_err-translation c =
    c.from_residual-in_err-translation.ensures
    ∙ no_translation _ _ _ c.string_at.ensures c.in_ok-original.was c.split-parts.ensures c.if-original-parts.false c.string_at-2.ensures c.in_err-translation.was

pub returns : goal.returns
returns c =
    is_entry _ _ _ c.string_at.ensures c.in_ok-original.was c.split-parts.ensures c.if-original-parts.false c.string_at-2.ensures c.in_ok-translation.was
