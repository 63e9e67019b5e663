-- Each public function's promise fixes its result: any two results that it allows on the same input are equal. `Post` is the promise
-- as the check reads it from the source. Assumes nothing.
use mathlib.Core.Path.{sym, ◌∙◌}
use Rattle.promise.proofs.One.{One}
use Rattle.host.proofs.flag_of.Reads as flag-of
use Rattle.host.proofs.flag_of.Kinds as flag-of-kinds
use Rattle.host.proofs.options_of.Reads as options-of
use Rattle.host.proofs.options_of.Kinds as options-of-kinds
use Rattle.host.proofs.head_of.Reads as head_of
use Rattle.host.proofs.head_of.Kinds as head-of-kinds
use Rattle.host.proofs.loaded_of.Reads as loaded-of
use Rattle.host.proofs.loaded_of.Kinds as loaded-of-kinds
use Rattle.host.proofs.tables_in.Reads as tables_in_lem
use Rattle.host.proofs.tables_in.Kinds as tables-in-kinds
use Rattle.host.proofs.rule_in.Reads as rule_in_lem
use Rattle.host.proofs.rule_in.Kinds as rule-in-kinds
use Rattle.host.proofs.key_in.Reads as key_in_lem
use Rattle.host.proofs.key_in.Kinds as key-in-kinds
use Rattle.host.proofs.own_for.Reads as own-for
use Rattle.host.proofs.own_for.Kinds as own-for-kinds
use Rattle.host.proofs.answer_of.Reads as answer-of
use Rattle.host.proofs.answer_of.Kinds as answer-of-kinds
use Rattle.host.proofs.explained_of.Reads as explained-of
use Rattle.host.proofs.explained_of.Kinds as explained-of-kinds
use Rattle.host.proofs.rating_of.Reads as rating-of
use Rattle.host.proofs.rating_of.Kinds as rating-of-kinds
use Rattle.host.proofs.fits_of.Reads as fits-of
use Rattle.host.proofs.fits_of.Kinds as fits-of-kinds
use Rattle.host.proofs.form_of.Reads as form_of
use Rattle.host.proofs.form_of.Kinds as form-of-kinds
use Rattle.host.proofs.written_of.Reads as written_of_lem
use Rattle.host.proofs.written_of.Kinds as written-of-kinds

pub flag_of_one : One 0 flag-of-kinds.ps flag-of-kinds.r flag-of.Post
flag_of_one κs a u v x y p q = p ∙ sym q

pub options_of_one : One 0 options-of-kinds.ps options-of-kinds.r options-of.Post
options_of_one κs a u v x y p q = p ∙ sym q

pub head_of_one : One 0 head-of-kinds.ps head-of-kinds.r head_of.Post
head_of_one κs a u v x y p q = p.0 ∙ sym q.0

pub loaded_of_one : One 0 loaded-of-kinds.ps loaded-of-kinds.r loaded-of.Post
loaded_of_one κs a u v x y p q = p.0 ∙ sym q.0

pub tables_in_one : One 1 tables-in-kinds.ps tables-in-kinds.r tables_in_lem.Post
tables_in_one κs a u v x y p q = p ∙ sym q

pub rule_in_one : One 1 rule-in-kinds.ps rule-in-kinds.r rule_in_lem.Post
rule_in_one κs a u v x y p q = p ∙ sym q

pub key_in_one : One 1 key-in-kinds.ps key-in-kinds.r key_in_lem.Post
key_in_one κs a u v x y p q = p.0 ∙ sym q.0

pub own_for_one : One 0 own-for-kinds.ps own-for-kinds.r own-for.Post
own_for_one κs a u v x y p q = p ∙ sym q

pub answer_of_one : One 0 answer-of-kinds.ps answer-of-kinds.r answer-of.Post
answer_of_one κs a u v x y p q = p ∙ sym q

pub explained_of_one : One 0 explained-of-kinds.ps explained-of-kinds.r explained-of.Post
explained_of_one κs a u v x y p q = p ∙ sym q

pub rating_of_one : One 0 rating-of-kinds.ps rating-of-kinds.r rating-of.Post
rating_of_one κs a u v x y p q = p ∙ sym q

pub fits_of_one : One 0 fits-of-kinds.ps fits-of-kinds.r fits-of.Post
fits_of_one κs a u v x y p q = p ∙ sym q

pub form_of_one : One 0 form-of-kinds.ps form-of-kinds.r form_of.Post
form_of_one κs a u v x y p q = p ∙ sym q

pub written_of_one : One 0 written-of-kinds.ps written-of-kinds.r written_of_lem.Post
written_of_one κs a u v x y p q = p ∙ sym q
