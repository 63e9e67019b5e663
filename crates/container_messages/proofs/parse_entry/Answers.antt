-- The original's error counts first; each error has the entry's place. Assumes nothing.
use mathlib.Core.Path.{◌≡◌, ap, ◌∙◌}
use Rattle.std.proofs.Common.{rules}
use Rattle.std.specs.Prelude.{Ok, Err}
use Rattle.std.proofs.lemmas.Result.{err_from_is_err_and}
use Rattle.container_messages.proofs.Entries.{read_refused, read_wrong, read_joined}
use Rattle.container_messages.proofs.Placed.{err_told, ok_told}
use Rattle.refusal.specs.Places.{at}
use Rattle.refusal.specs.declared.Side.TheVariants as side
use Rattle.refusal.specs.declared.Where.TheVariants.{Entry}
use Rattle.container_messages.proofs.parse_entry.Goals as goal

pub returns-in_err-original : goal.returns-in_err-original
returns-in_err-original c =
    let p = err_told _ c.original_at.result _ c.in_err-original.ensures.cases in
    let k = err_from_is_err_and c.from_residual.result c.from_residual.ensures.1 in
    let z : c.in_err-original.field-0.0 ≡ at (Entry c.args.i side.Original) p.0 = search rules in
    k.1 ∙ ap Err (k.2 ∙ z) ∙ read_refused _ _ _ c.original_at.ensures p.1

pub returns-in_err-translation : goal.returns-in_err-translation
returns-in_err-translation c =
    let o = ok_told _ c.original_at.result _ c.in_ok-original.ensures.cases (λ e h. h) in
    let p = err_told _ c.translation_at.result _ c.in_err-translation.ensures.cases in
    let k = err_from_is_err_and c.from_residual-in_err-translation.result c.from_residual-in_err-translation.ensures.1 in
    let z : c.in_err-translation.field-0.0 ≡ at (Entry c.args.i side.Translation) p.0 = search rules in
    k.1 ∙ ap Err (k.2 ∙ z) ∙ read_wrong _ _ _ c.original_at.ensures o c.translation_at.ensures p.1

pub returns-in-Named : goal.returns-in-Named
returns-in-Named c =
    let o = ok_told _ c.original_at.result _ c.in_ok-original.ensures.cases (λ e h. h) in
    let p = ok_told _ c.translation_at.result _ c.in_ok-translation.ensures.cases (λ e h. h) in
    read_joined _ _ _ c.original_at.ensures (o ∙ ap Ok c.in-Named.is) c.translation_at.ensures p

pub returns-in-Empty : goal.returns-in-Empty
returns-in-Empty c =
    let o = ok_told _ c.original_at.result _ c.in_ok-original.ensures.cases (λ e h. h) in
    let p = ok_told _ c.translation_at.result _ c.in_ok-translation.ensures.cases (λ e h. h) in
    read_joined _ _ _ c.original_at.ensures (o ∙ ap Ok c.in-Empty.is) c.translation_at.ensures p
