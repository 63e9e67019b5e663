-- Each export asks and promises what the function of its name in `gettext_c` does: the contracts, as the check reads them from the two sources, are
-- the same. So the theorems over those functions, the demands among them, are theorems over the exports. Assumes nothing.
use mathlib.Core.Path.{◌≡◌, refl}
use Rattle.gettext_c.proofs.gettext_c_empty.Reads as empty
use Rattle.gettext_c_c.proofs.gettext_c_empty.Reads as empty-export
use Rattle.gettext_c.proofs.gettext_c_load.Reads as load
use Rattle.gettext_c_c.proofs.gettext_c_load.Reads as load-export
use Rattle.gettext_c.proofs.gettext_c_gettext.Reads as gettext
use Rattle.gettext_c_c.proofs.gettext_c_gettext.Reads as gettext-export
use Rattle.gettext_c.proofs.gettext_c_ngettext.Reads as ngettext
use Rattle.gettext_c_c.proofs.gettext_c_ngettext.Reads as ngettext-export
use Rattle.gettext_c.proofs.gettext_c_slots.Reads as slots
use Rattle.gettext_c_c.proofs.gettext_c_slots.Reads as slots-export
use Rattle.gettext_c.proofs.gettext_c_index.Reads as index
use Rattle.gettext_c_c.proofs.gettext_c_index.Reads as index-export
use Rattle.gettext_c.proofs.gettext_c_gettext_indexed.Reads as gettext-indexed
use Rattle.gettext_c_c.proofs.gettext_c_gettext_indexed.Reads as gettext-indexed-export
use Rattle.gettext_c.proofs.gettext_c_ngettext_indexed.Reads as ngettext-indexed
use Rattle.gettext_c_c.proofs.gettext_c_ngettext_indexed.Reads as ngettext-indexed-export
use Rattle.gettext_c.proofs.gettext_c_rating.Reads as rating
use Rattle.gettext_c_c.proofs.gettext_c_rating.Reads as rating-export
use Rattle.gettext_c.proofs.gettext_c_fits.Reads as fits
use Rattle.gettext_c_c.proofs.gettext_c_fits.Reads as fits-export
use Rattle.gettext_c.proofs.gettext_c_resolve.Reads as resolve
use Rattle.gettext_c_c.proofs.gettext_c_resolve.Reads as resolve-export
use Rattle.gettext_c.proofs.gettext_c_text.Reads as text
use Rattle.gettext_c_c.proofs.gettext_c_text.Reads as text-export
use Rattle.gettext_c.proofs.gettext_c_span.Reads as span
use Rattle.gettext_c_c.proofs.gettext_c_span.Reads as span-export
use Rattle.gettext_c.proofs.gettext_c_is_utf8.Reads as is-utf8
use Rattle.gettext_c_c.proofs.gettext_c_is_utf8.Reads as is-utf8-export
use Rattle.gettext_c.proofs.gettext_c_cost.Reads as cost
use Rattle.gettext_c_c.proofs.gettext_c_cost.Reads as cost-export
use Rattle.gettext_c.proofs.gettext_c_why_ngettext.Reads as why-ngettext
use Rattle.gettext_c_c.proofs.gettext_c_why_ngettext.Reads as why-ngettext-export

pub same_empty : (empty-export.Pre ≡ empty.Pre) × (empty-export.Post ≡ empty.Post)
same_empty = (refl, refl)

pub same_load : (load-export.Pre ≡ load.Pre) × (load-export.Post ≡ load.Post)
same_load = (refl, refl)

pub same_gettext : (gettext-export.Pre ≡ gettext.Pre) × (gettext-export.Post ≡ gettext.Post)
same_gettext = (refl, refl)

pub same_ngettext : (ngettext-export.Pre ≡ ngettext.Pre) × (ngettext-export.Post ≡ ngettext.Post)
same_ngettext = (refl, refl)

pub same_slots : (slots-export.Pre ≡ slots.Pre) × (slots-export.Post ≡ slots.Post)
same_slots = (refl, refl)

pub same_index : (index-export.Pre ≡ index.Pre) × (index-export.Post ≡ index.Post)
same_index = (refl, refl)

pub same_gettext_indexed : (gettext-indexed-export.Pre ≡ gettext-indexed.Pre) × (gettext-indexed-export.Post ≡ gettext-indexed.Post)
same_gettext_indexed = (refl, refl)

pub same_ngettext_indexed : (ngettext-indexed-export.Pre ≡ ngettext-indexed.Pre) × (ngettext-indexed-export.Post ≡ ngettext-indexed.Post)
same_ngettext_indexed = (refl, refl)

pub same_rating : (rating-export.Pre ≡ rating.Pre) × (rating-export.Post ≡ rating.Post)
same_rating = (refl, refl)

pub same_fits : (fits-export.Pre ≡ fits.Pre) × (fits-export.Post ≡ fits.Post)
same_fits = (refl, refl)

pub same_resolve : (resolve-export.Pre ≡ resolve.Pre) × (resolve-export.Post ≡ resolve.Post)
same_resolve = (refl, refl)

pub same_text : (text-export.Pre ≡ text.Pre) × (text-export.Post ≡ text.Post)
same_text = (refl, refl)

pub same_span : (span-export.Pre ≡ span.Pre) × (span-export.Post ≡ span.Post)
same_span = (refl, refl)

pub same_is_utf8 : (is-utf8-export.Pre ≡ is-utf8.Pre) × (is-utf8-export.Post ≡ is-utf8.Post)
same_is_utf8 = (refl, refl)

pub same_cost : (cost-export.Pre ≡ cost.Pre) × (cost-export.Post ≡ cost.Post)
same_cost = (refl, refl)

pub same_why_ngettext : (why-ngettext-export.Pre ≡ why-ngettext.Pre) × (why-ngettext-export.Post ≡ why-ngettext.Post)
same_why_ngettext = (refl, refl)
