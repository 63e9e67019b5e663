-- Each public function's promise fixes its result: any two results that it allows on the same input are equal. `Post` is the promise
-- as the check reads it from the source. Assumes nothing.
use mathlib.Core.Path.{sym, ◌∙◌}
use Rattle.promise.proofs.One.{One}
use Rattle.refusal.proofs.number_of.Reads as number_of_lem
use Rattle.refusal.proofs.number_of.Kinds as number-of-kinds
use Rattle.refusal.proofs.outcome_number.Reads as outcome-number
use Rattle.refusal.proofs.outcome_number.Kinds as outcome-number-kinds
use Rattle.refusal.proofs.at.Reads as at
use Rattle.refusal.proofs.at.Kinds as at-kinds
use Rattle.refusal.proofs.error_of.Reads as error-of
use Rattle.refusal.proofs.error_of.Kinds as error-of-kinds
use Rattle.refusal.proofs.place_of.Reads as place_of
use Rattle.refusal.proofs.place_of.Kinds as place-of-kinds
use Rattle.refusal.proofs.entry_index.Reads as entry-index
use Rattle.refusal.proofs.entry_index.Kinds as entry-index-kinds
use Rattle.refusal.proofs.names_entry.Reads as names-entry
use Rattle.refusal.proofs.names_entry.Kinds as names-entry-kinds
use Rattle.refusal.proofs.side_number.Reads as side-number
use Rattle.refusal.proofs.side_number.Kinds as side-number-kinds
use Rattle.refusal.proofs.outcome_place.Reads as outcome-place
use Rattle.refusal.proofs.outcome_place.Kinds as outcome-place-kinds

pub number_of_one : One 0 number-of-kinds.ps number-of-kinds.r number_of_lem.Post
number_of_one κs a u v x y p q = p ∙ sym q

pub outcome_number_one : One 0 outcome-number-kinds.ps outcome-number-kinds.r outcome-number.Post
outcome_number_one κs a u v x y p q = p ∙ sym q

pub at_one : One 0 at-kinds.ps at-kinds.r at.Post
at_one κs a u v x y p q = p ∙ sym q

pub error_of_one : One 0 error-of-kinds.ps error-of-kinds.r error-of.Post
error_of_one κs a u v x y p q = p ∙ sym q

pub place_of_one : One 0 place-of-kinds.ps place-of-kinds.r place_of.Post
place_of_one κs a u v x y p q = p ∙ sym q

pub outcome_place_one : One 0 outcome-place-kinds.ps outcome-place-kinds.r outcome-place.Post
outcome_place_one κs a u v x y p q = p ∙ sym q

pub side_number_one : One 0 side-number-kinds.ps side-number-kinds.r side-number.Post
side_number_one κs a u v x y p q = p ∙ sym q

pub names_entry_one : One 0 names-entry-kinds.ps names-entry-kinds.r names-entry.Post
names_entry_one κs a u v x y p q = p ∙ sym q

pub entry_index_one : One 0 entry-index-kinds.ps entry-index-kinds.r entry-index.Post
entry_index_one κs a u v x y p q = p ∙ sym q
