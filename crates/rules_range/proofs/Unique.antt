-- Each public function's promise fixes its result: any two results that it allows on the same input are equal. `Post` is the promise
-- as the check reads it from the source.
use mathlib.Core.Path.{sym, ◌∙◌}
use Rattle.promise.proofs.One.{One}
use Rattle.rules_range.proofs.rating_of.Reads as rating-of
use Rattle.rules_range.proofs.rating_of.Kinds as rating-of-kinds
use Rattle.rules_range.proofs.fits.Reads as fits
use Rattle.rules_range.proofs.fits.Kinds as fits-kinds

pub rating_one : One 1 rating-of-kinds.ps rating-of-kinds.r rating-of.Post
rating_one κs a u v x y p q = p ∙ sym q

pub fits_one : One 1 fits-kinds.ps fits-kinds.r fits.Post
fits_one κs a u v x y p q = p ∙ sym q
