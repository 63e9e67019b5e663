-- Entry 0 as loading reads it. Assumes nothing.
use mathlib.Core.Path.{ap, ◌∙◌}
use Rattle.std.specs.Prelude.{Ok, Err}
use Rattle.std.proofs.lemmas.Result.{err_from_is_err_and}
use Rattle.container_rule.proofs.Entry.{none_first, header_fits, first_told}
use Rattle.container_rule.proofs.parse_first.Goals as goal

pub returns-then-t-eq0 : goal.returns-then-t-eq0
returns-then-t-eq0 c = none_first _ _ _ _ c.if-t-eq0.true

pub returns-in_err-parse_entry : goal.returns-in_err-parse_entry
returns-in_err-parse_entry c =
    let k = err_from_is_err_and c.from_residual.result c.from_residual.ensures.1 in
    k.1 ∙ ap Err k.2 ∙ first_told _ _ _ _ c.if-t-eq0.false c.parse_entry.ensures c.in_err-parse_entry.was

pub header_at-requires : goal.header_at-requires
header_at-requires c = header_fits _ _ c.parse_entry.ensures (c.in_ok-parse_entry.was ∙ ap Ok c.in-Header.is)

pub returns-in-Message : goal.returns-in-Message
returns-in-Message c = first_told _ _ _ _ c.if-t-eq0.false c.parse_entry.ensures (c.in_ok-parse_entry.was ∙ ap Ok c.in-Message.is)

pub returns-in-Header : goal.returns-in-Header
returns-in-Header c = c.header_at.ensures ∙ first_told _ _ _ _ c.if-t-eq0.false c.parse_entry.ensures (c.in_ok-parse_entry.was ∙ ap Ok c.in-Header.is)
