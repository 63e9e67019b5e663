-- The promise of `report` fixes its result. `Post` is the promise as the check reads it from the source. Assumes nothing.
use mathlib.Core.Path.{sym, ◌∙◌}
use Rattle.promise.proofs.One.{One}
use Rattle.mo_report.proofs.report.Reads as report
use Rattle.mo_report.proofs.report.Kinds as report-kinds

pub report_one : One 1 report-kinds.ps report-kinds.r report.Post
report_one κs a u v x y p q = p ∙ sym q
