-- Where every line is a field, the label, the rule and the count are sought in the last fields of their names. Assumes nothing.
use mathlib.Core.Path.{sym, ◌∙◌}
use Rattle.text.specs.Bytes.{bytes}
use Rattle.header.proofs.Parts.{field_end, malformed, well_formed}
use Rattle.header.proofs.parse_metadata.Goals as goal

pub returns-then-not-lines_ok : goal.returns-then-not-lines_ok
returns-then-not-lines_ok c = malformed _ (sym c.lines_ok.ensures ∙ c.if-not-lines_ok.true)

pub charset_at-requires : goal.charset_at-requires
charset_at-requires c = rw c.last_of-content_type.ensures (field_end (bytes "Content-Type") c.args.h.now)

pub plural_at-requires : goal.plural_at-requires
plural_at-requires c = rw c.last_of-plural_forms.ensures (field_end (bytes "Plural-Forms") c.args.h.now)

pub forms_at-requires : goal.forms_at-requires
forms_at-requires c = rw c.last_of-plural_forms.ensures (field_end (bytes "Plural-Forms") c.args.h.now)

pub returns : goal.returns
returns c = well_formed _ (sym c.lines_ok.ensures ∙ c.if-not-lines_ok.false) c.last_of-content_type.ensures c.last_of-plural_forms.ensures c.charset_at.ensures c.plural_at.ensures c.forms_at.ensures
