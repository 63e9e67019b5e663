-- For each public function: its promise allows one result. What is lent is lent to read only, so that it is unchanged is in its type.
-- Of a text that is returned, the bytes and the place in memory are fixed. Assumes nothing.
use mathlib.Core.Path.{sym, ◌∙◌}
use contract.Lifetimes.{Lfts}
use denote.Triple.Clauses.{AtExit}
use borrow.Fn.Kinds.{Dens, res_t, ended_of}
use Rattle.promise.proofs.One.{One}
use Rattle.lookup.proofs.Unique.{SameText, same_text}
use Rattle.gettext.proofs.answer_gettext.Reads as answer-gettext
use Rattle.gettext.proofs.answer_gettext.Kinds as answer-gettext-kinds
use Rattle.gettext.proofs.answer_pgettext.Reads as answer-pgettext
use Rattle.gettext.proofs.answer_pgettext.Kinds as answer-pgettext-kinds
use Rattle.gettext.proofs.answer_ngettext.Reads as answer-ngettext
use Rattle.gettext.proofs.answer_ngettext.Kinds as answer-ngettext-kinds
use Rattle.gettext.proofs.answer_npgettext.Reads as answer-npgettext
use Rattle.gettext.proofs.answer_npgettext.Kinds as answer-npgettext-kinds
use Rattle.gettext.proofs.rating.Reads as rating
use Rattle.gettext.proofs.rating.Kinds as rating-kinds
use Rattle.gettext.proofs.fits.Reads as fits
use Rattle.gettext.proofs.fits.Kinds as fits-kinds
use Rattle.gettext.proofs.gettext.Reads as gettext
use Rattle.gettext.proofs.gettext.Kinds as gettext-kinds
use Rattle.gettext.proofs.pgettext.Reads as pgettext
use Rattle.gettext.proofs.pgettext.Kinds as pgettext-kinds
use Rattle.gettext.proofs.ngettext.Reads as ngettext
use Rattle.gettext.proofs.ngettext.Kinds as ngettext-kinds
use Rattle.gettext.proofs.npgettext.Reads as npgettext
use Rattle.gettext.proofs.npgettext.Kinds as npgettext-kinds

pub answer_gettext_one : One 2 answer-gettext-kinds.ps answer-gettext-kinds.r answer-gettext.Post
answer_gettext_one κs a u v x y p q = p ∙ sym q

pub answer_pgettext_one : One 3 answer-pgettext-kinds.ps answer-pgettext-kinds.r answer-pgettext.Post
answer_pgettext_one κs a u v x y p q = p ∙ sym q

pub answer_ngettext_one : One 2 answer-ngettext-kinds.ps answer-ngettext-kinds.r answer-ngettext.Post
answer_ngettext_one κs a u v x y p q = p ∙ sym q

pub answer_npgettext_one : One 3 answer-npgettext-kinds.ps answer-npgettext-kinds.r answer-npgettext.Post
answer_npgettext_one κs a u v x y p q = p ∙ sym q

pub rating_one : One 0 rating-kinds.ps rating-kinds.r rating.Post
rating_one κs a u v x y p q = p ∙ sym q

pub fits_one : One 0 fits-kinds.ps fits-kinds.r fits.Post
fits_one κs a u v x y p q = p ∙ sym q

pub gettext_one : (κs : Lfts 1) (a : Dens κs gettext-kinds.ps) (u v : (res_t gettext-kinds.r κs).Denot) (x y : AtExit (ended_of 1 gettext-kinds.ps gettext-kinds.r) κs)
    → gettext.Post κs a u x → gettext.Post κs a v y → SameText u v
gettext_one κs a u v x y p q = same_text _ _ _ _ p q

pub pgettext_one : (κs : Lfts 1) (a : Dens κs pgettext-kinds.ps) (u v : (res_t pgettext-kinds.r κs).Denot) (x y : AtExit (ended_of 1 pgettext-kinds.ps pgettext-kinds.r) κs)
    → pgettext.Post κs a u x → pgettext.Post κs a v y → SameText u v
pgettext_one κs a u v x y p q = same_text _ _ _ _ p q

pub ngettext_one : (κs : Lfts 1) (a : Dens κs ngettext-kinds.ps) (u v : (res_t ngettext-kinds.r κs).Denot) (x y : AtExit (ended_of 1 ngettext-kinds.ps ngettext-kinds.r) κs)
    → ngettext.Post κs a u x → ngettext.Post κs a v y → SameText u v
ngettext_one κs a u v x y p q = same_text _ _ _ _ p q

pub npgettext_one : (κs : Lfts 1) (a : Dens κs npgettext-kinds.ps) (u v : (res_t npgettext-kinds.r κs).Denot) (x y : AtExit (ended_of 1 npgettext-kinds.ps npgettext-kinds.r) κs)
    → npgettext.Post κs a u x → npgettext.Post κs a v y → SameText u v
npgettext_one κs a u v x y p q = same_text _ _ _ _ p q
