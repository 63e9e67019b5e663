-- The load's answer, as it is told. Assumes nothing.
use Rattle.std.proofs.lemmas.Result.{err_from_is_err_and}
use Rattle.mo_report.proofs.Told.{some, entries, refusal}
use Rattle.mo_report.proofs.report.Goals as goal

pub returns-in_err-loading : goal.returns-in_err-loading
returns-in_err-loading c =
    let p = err_from_is_err_and c.from_residual.result c.from_residual.ensures.1 in
    rw (p.1, p.2) (refusal c.args.file.now c.load_into-loading.ensures c.in_err-loading.was)

pub overflow_sub-loading : goal.overflow_sub-loading
overflow_sub-loading c = some _ c.load_into-loading.ensures

pub returns : goal.returns
returns c = entries c.args.file.now c.load_into-loading.ensures c.in_ok-loading.was c.rating_of-range.ensures
