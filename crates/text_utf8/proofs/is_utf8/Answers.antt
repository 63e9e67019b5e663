-- What the quick tests pass is right; the tables, which pass their tests, decide the rest. Assumes nothing.
use mathlib.Core.Path.{refl, sym, ◌∙◌}
use Rattle.text_utf8.proofs.Ascii.{ascii_right}
use Rattle.text_utf8.proofs.Machine.{tables_by_test}
use Rattle.text_utf8.proofs.is_utf8.Goals as goal
use Rattle.text_utf8.proofs.is_utf8.Goals.{then-all_within, else-all_within}

pub returns-then-is_plain : goal.returns-then-is_plain
returns-then-is_plain c =
    c.if-is_plain.true
    ∙ sym (elim c.if-all_within.branch [
      | then-all_within w ↦ ascii_right _ (sym c.all_within.ensures ∙ w.if-all_within.true)
      | else-all_within w ↦ w.is_plain.ensures (sym w.value-is ∙ c.if-is_plain.true)
    ])

pub by_table-requires : goal.by_table-requires
by_table-requires c = tables_by_test _ _ refl refl
