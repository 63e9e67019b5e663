-- Stage by stage. Assumes nothing.
use mathlib.Core.Path.{◌≡◌, ap, ◌∙◌}
use borrow.Author.Rules.{rules}
use Rattle.std.specs.Prelude.{Err}
use Rattle.std.proofs.lemmas.Result.{err_from_is_err_and}
use Rattle.refusal.specs.Places.{at}
use Rattle.refusal.specs.declared.Where.TheVariants.{File}
use Rattle.container_messages.proofs.Placed.{err_told, ok_told}
use Rattle.container.proofs.Stages.{forced_refused, head_refused, rule_lies, rule_stopped, rest_refused, is_loaded}
use Rattle.container.proofs.open_into.Goals as goal

pub returns-in_err-forced-clause-gives : goal.returns-in_err-forced-clause-gives
returns-in_err-forced-clause-gives c =
    let k = err_from_is_err_and c.from_residual.result c.from_residual.ensures.1 in
    forced_refused c.args.options c.args.rule.now c.args.file.now c.parse_forced.ensures.parsed c.in_err-forced.was (k.1 ∙ ap Err k.2)

pub returns-in_err-tables-clause-gives : goal.returns-in_err-tables-clause-gives
returns-in_err-tables-clause-gives c =
    let p = err_told _ c.parse_head.result _ c.in_err-tables.ensures.cases in
    let k = err_from_is_err_and c.from_residual-in_err-tables.result c.from_residual-in_err-tables.ensures.1 in
    let z : c.in_err-tables.field-0.0 ≡ at File p.0 = search rules in
    head_refused c.args.options c.args.rule.now c.args.file.now c.parse_forced.ensures.parsed c.in_ok-forced.was c.parse_head.ensures p.1 (k.1 ∙ ap Err (k.2 ∙ z))

pub rule_of-requires : goal.rule_of-requires
rule_of-requires c = rule_lies c.args.options c.args.file.now _ c.parse_first-first.ensures

pub returns-in_err-nodes-clause-gives : goal.returns-in_err-nodes-clause-gives
returns-in_err-nodes-clause-gives c =
    let h = ok_told _ c.parse_head.result _ c.in_ok-tables.ensures.cases (λ e h. h) in
    let k = err_from_is_err_and c.from_residual-in_err-nodes.result c.from_residual-in_err-nodes.ensures.1 in
    rule_stopped c.args.options c.args.rule.now c.args.file.now c.parse_forced.ensures.parsed c.in_ok-forced.was c.parse_head.ensures h c.parse_first-first.ensures c.rule_of.ensures.chosen c.in_err-nodes.was (k.1 ∙ ap Err k.2)

pub returns-in_err-parse_rest-clause-gives : goal.returns-in_err-parse_rest-clause-gives
returns-in_err-parse_rest-clause-gives c =
    let h = ok_told _ c.parse_head.result _ c.in_ok-tables.ensures.cases (λ e h. h) in
    let k = err_from_is_err_and c.from_residual-in_err-parse_rest.result c.from_residual-in_err-parse_rest.ensures.1 in
    rest_refused c.args.options c.args.rule.now c.args.file.now c.parse_forced.ensures.parsed c.in_ok-forced.was c.parse_head.ensures h c.parse_first-first.ensures c.rule_of.ensures.chosen c.in_ok-nodes.was c.parse_rest.ensures c.in_err-parse_rest.was (k.1 ∙ ap Err k.2)

pub returns-clause-gives : goal.returns-clause-gives
returns-clause-gives c =
    let h = ok_told _ c.parse_head.result _ c.in_ok-tables.ensures.cases (λ e h. h) in
    is_loaded c.args.options c.args.rule.now c.args.file.now c.parse_forced.ensures.parsed c.in_ok-forced.was c.parse_head.ensures h c.parse_first-first.ensures c.rule_of.ensures.chosen c.in_ok-nodes.was c.parse_rest.ensures c.forms_of.ensures c.in_ok-parse_rest.was
