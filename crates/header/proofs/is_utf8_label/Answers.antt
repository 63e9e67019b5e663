-- The three names are tried in turn. Assumes nothing.
use mathlib.Core.Path.{sym, ◌∙◌}
use Rattle.text.proofs.Tests.{never}
use Rattle.header.proofs.Labels.{first_label, second_label, third_label}
use Rattle.header.proofs.is_utf8_label.Goals as goal
use Rattle.header.proofs.is_utf8_label.Goals.{then-equal_small, else-equal_small}

pub returns-then-equal_small-2 : goal.returns-then-equal_small-2
returns-then-equal_small-2 c =
    c.if-equal_small-2.true
    ∙ elim c.if-equal_small.branch [
      | then-equal_small w ↦ first_label _ c.trim-name.ensures.result_value c.equal_small.ensures w.if-equal_small.true
      | else-equal_small w ↦
          second_label _ c.trim-name.ensures.result_value c.equal_small.ensures w.if-equal_small.false w.equal_small-else-equal_small.ensures
          (sym w.value-is ∙ c.if-equal_small-2.true)
    ]

pub returns-else-equal_small-2 : goal.returns-else-equal_small-2
returns-else-equal_small-2 c =
    elim c.if-equal_small.branch [
      | then-equal_small w ↦ absurd (never (sym c.if-equal_small-2.false ∙ w.value-is ∙ w.if-equal_small.true))
      | else-equal_small w ↦
          third_label _ c.trim-name.ensures.result_value c.equal_small.ensures w.if-equal_small.false w.equal_small-else-equal_small.ensures
          (sym w.value-is ∙ c.if-equal_small-2.false) c.equal_small-else-equal_small-2.ensures
    ]
