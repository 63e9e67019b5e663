-- Malformed, then the label, then the rule. Assumes nothing.
use mathlib.Core.Path.{◌≡◌, sym, ap, ◌∙◌}
use borrow.Author.Rules.{rules}
use Rattle.std.specs.Prelude.{Err}
use Rattle.refusal.specs.Places.{at, in_header}
use Rattle.refusal.specs.declared.Error.TheVariants.{MalformedMetadata}
use Rattle.text.proofs.Tests.{taken, left}
use Rattle.container_rule.proofs.Headers.{malformed, inside, unknown, rule_told}
use Rattle.container_rule.proofs.parse_header.Goals as goal

pub returns-in_err-fields : goal.returns-in_err-fields
returns-in_err-fields c =
    let e : c.from_residual.result ≡ Err (at in_header MalformedMetadata) = search rules in
    e ∙ malformed _ _ _ c.parse_metadata.ensures c.in_err-fields.ensures.ok_part

pub is_known-requires : goal.is_known-requires
is_known-requires c = (inside c.args.forced c.args.utf8 c.args.h.now c.parse_metadata.ensures c.in_ok-fields.ensures.ok_part).label

pub returns-then-not-is_known : goal.returns-then-not-is_known
returns-then-not-is_known c =
    ap Err c.refused-then-not-is_known.ensures
    ∙ unknown c.args.forced c.args.utf8 _ c.parse_metadata.ensures c.in_ok-fields.ensures.ok_part c.is_known.ensures c.if-not-is_known.true

pub returns-then-forced : goal.returns-then-forced
returns-then-forced c =
    rule_told c.args.forced c.args.utf8 _ c.parse_metadata.ensures c.in_ok-fields.ensures.ok_part c.is_known.ensures c.if-not-is_known.false (sym (taken _ _ c.if-forced.true))

pub returns-else-forced : goal.returns-else-forced
returns-else-forced c =
    rule_told c.args.forced c.args.utf8 _ c.parse_metadata.ensures c.in_ok-fields.ensures.ok_part c.is_known.ensures c.if-not-is_known.false (sym (left _ _ c.if-forced.false))
