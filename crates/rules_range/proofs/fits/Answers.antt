-- `rules_range::fits` meets its contract: whether a rule fits is settled by its range.
use mathlib.Core.Path.{◌≡◌, refl, ap, ◌∙◌}
use mathlib.Core.Bool.{Bool, true, false}
use Rattle.std.specs.Prelude.{Result, Ok}
use Rattle.std.proofs.lemmas.Result.{err_from_is_err_and}
use Rattle.rules.specs.Answer.{fitting}
use Rattle.rules.specs.declared.NoTree.{NoTree}
use Rattle.rules.proofs.Answers.{fits_as}
use Rattle.rules_range.proofs.fits.Goals as goal

fitting_is : (b : Bool) → ◌≡◌ {A = Result Bool NoTree} (fitting b) (Ok b)
fitting_is true = refl
fitting_is false = refl

pub returns-in_err-high : goal.returns-in_err-high
returns-in_err-high c = let p = err_from_is_err_and c.from_residual.result c.from_residual.ensures.1 in rw p.1 (fits_as _ _ _ _ c.rating_of.ensures c.in_err-high.was refl)

pub returns-in-Some : goal.returns-in-Some
returns-in-Some c = fits_as _ _ _ _ c.rating_of.ensures (c.in_ok-high.was ∙ ap Ok c.in-Some.is) (fitting_is _)

pub returns-in-None : goal.returns-in-None
returns-in-None c = fits_as _ _ _ _ c.rating_of.ensures (c.in_ok-high.was ∙ ap Ok c.in-None.is) refl
