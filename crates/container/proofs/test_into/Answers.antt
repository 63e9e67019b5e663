-- The last test, where it is asked for, of a load that was not refused before. Assumes nothing.
use mathlib.Core.Path.{ap, ◌∙◌}
use Rattle.std.specs.Prelude.{Err}
use Rattle.std.proofs.lemmas.Result.{err_from_is_err_and}
use Rattle.container.proofs.Fitted.{not_asked, stays_refused, has_nodes, does_fit, does_not}
use Rattle.container.proofs.test_into.Goals as goal
use Rattle.container.proofs.test_into.Goals.{else-options-via-then-options+else-not-fits, else-options-via-else-options}

pub returns-in_err-opened-clause-gives : goal.returns-in_err-opened-clause-gives
returns-in_err-opened-clause-gives c =
    let k = err_from_is_err_and c.from_residual.result c.from_residual.ensures.1 in
    stays_refused c.args.options c.args.rule.now c.args.file.now c.open_into.ensures.gives c.in_err-opened.was (k.1 ∙ ap Err k.2)

pub fits-requires : goal.fits-requires
fits-requires c = has_nodes c.args.options c.args.rule.now c.args.file.now c.open_into.ensures.gives c.in_ok-opened.was

pub returns-then-not-fits-clause-gives : goal.returns-then-not-fits-clause-gives
returns-then-not-fits-clause-gives c =
    does_not c.args.options c.args.rule.now c.args.file.now c.open_into.ensures.gives c.in_ok-opened.was c.nodes.ensures c.fits.ensures c.if-options.true c.if-not-fits.true c.at.ensures

pub returns-clause-gives : goal.returns-clause-gives
returns-clause-gives c = elim c.else-options.branch [
  | else-options-via-then-options+else-not-fits w ↦
      does_fit c.args.options c.args.rule.now c.args.file.now c.open_into.ensures.gives c.in_ok-opened.was w.nodes.ensures w.fits.ensures w.if-options.true w.if-not-fits.false
  | else-options-via-else-options w ↦ not_asked c.args.options c.args.rule.now c.args.file.now c.open_into.ensures.gives c.in_ok-opened.was w.if-options.false
]
