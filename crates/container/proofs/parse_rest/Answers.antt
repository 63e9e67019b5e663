use mathlib.Core.Path.{ap, ◌∙◌}
use native.Mathlib.Omega.{arith}
use Rattle.std.specs.Prelude.{Err}
use Rattle.std.proofs.lemmas.Result.{err_from_is_err_and}
use Rattle.container.proofs.Rest.{left_none, left_stop, left_more}
use Rattle.container.proofs.parse_rest.Goals as goal

pub returns-in_err-parse_entry : goal.returns-in_err-parse_entry
returns-in_err-parse_entry c =
    let k = err_from_is_err_and c.from_residual.result c.from_residual.ensures.1 in
    k.1 ∙ ap Err k.2 ∙ left_stop _ _ _ c.loop-i.invariant (omega (arith, c.wide-i-end.ensures.0)) c.parse_entry.ensures c.in_err-parse_entry.was

pub loop-i-preserved : goal.loop-i-preserved
loop-i-preserved c = left_more _ _ _ c.loop-i.invariant (omega (arith, c.wide-i-end.ensures.0)) c.parse_entry.ensures c.in_ok-parse_entry.was

pub returns : goal.returns
returns c = left_none _ _ _ c.loop-i.invariant (omega (arith, c.wide-i-end.ensures.0))
