-- At the first mark: a byte 4 ends the context there; after a NUL one is still sought. Assumes nothing.
use mathlib.Core.Path.{sym, ◌∙◌}
use Rattle.container_layout.proofs.Marks.{four_here, four_later, marked_end, marked_nul}
use native.Mathlib.Omega.{arith}
use Rattle.container_layout.proofs.split.Goals as goal

pub returns-then-o-mark : goal.returns-then-o-mark
returns-then-o-mark c = marked_end _ c.find_mark-mark.ensures c.if-o-mark.true

pub after_context-requires : goal.after_context-requires
after_context-requires c = (sym (four_here _ c.find_mark-mark.ensures c.if-o-mark.false c.if-o-mark-eq4.true), c.if-o-mark.false)

pub returns-then-o-four : goal.returns-then-o-four
returns-then-o-four c = marked_nul _ c.find_mark-mark.ensures c.if-o-mark.false c.if-o-mark-eq4.false (omega (arith, c.find_byte_from-four.ensures, c.if-o-four.true))

pub after_context-requires-2 : goal.after_context-requires-2
after_context-requires-2 c = (c.find_byte_from-four.ensures ∙ sym (four_later _ c.find_mark-mark.ensures c.if-o-mark.false c.if-o-mark-eq4.false), c.if-o-four.false)
