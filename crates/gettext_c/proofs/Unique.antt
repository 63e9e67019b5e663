-- Each exported function's promise fixes its result: any two results that it allows on the same input are equal, what it leaves in lent
-- arrays counted in. `Post` is the promise as the check reads it from the source. Assumes nothing.
use Prim.Native.Nat.{ℕ}
use mathlib.Core.Path.{◌≡◌, sym, ◌∙◌}
use mathlib.Core.List.{List}
use contract.Lifetimes.{Lfts}
use denote.Triple.Clauses.{AtExit}
use borrow.Fn.Kinds.{ended_of}
use Rattle.promise.proofs.One.{One, OneLeft}
use Rattle.rules.specs.Pool.{Pool, pool}
use Rattle.host.specs.declared.Loaded.{Loaded}
use Rattle.gettext_c.proofs.gettext_c_empty.Reads as empty
use Rattle.gettext_c.proofs.gettext_c_empty.Kinds as empty-kinds
use Rattle.gettext_c.proofs.gettext_c_load.Reads as load
use Rattle.gettext_c.proofs.gettext_c_load.Kinds as load-kinds
use Rattle.gettext_c.proofs.gettext_c_gettext.Reads as gettext
use Rattle.gettext_c.proofs.gettext_c_gettext.Kinds as gettext-kinds
use Rattle.gettext_c.proofs.gettext_c_ngettext.Reads as ngettext
use Rattle.gettext_c.proofs.gettext_c_ngettext.Kinds as ngettext-kinds
use Rattle.gettext_c.proofs.gettext_c_why_ngettext.Reads as why_ngettext
use Rattle.gettext_c.proofs.gettext_c_why_ngettext.Kinds as why-ngettext-kinds
use Rattle.gettext_c.proofs.gettext_c_rating.Reads as rating
use Rattle.gettext_c.proofs.gettext_c_rating.Kinds as rating-kinds
use Rattle.gettext_c.proofs.gettext_c_fits.Reads as fits
use Rattle.gettext_c.proofs.gettext_c_fits.Kinds as fits-kinds
use Rattle.gettext_c.proofs.gettext_c_resolve.Reads as resolve
use Rattle.gettext_c.proofs.gettext_c_resolve.Kinds as resolve-kinds
use Rattle.gettext_c.proofs.gettext_c_is_utf8.Reads as is-utf8
use Rattle.gettext_c.proofs.gettext_c_is_utf8.Kinds as is-utf8-kinds
use Rattle.gettext_c.proofs.gettext_c_slots.Reads as slots
use Rattle.gettext_c.proofs.gettext_c_slots.Kinds as slots-kinds
use Rattle.gettext_c.proofs.gettext_c_gettext_indexed.Reads as gettext-indexed
use Rattle.gettext_c.proofs.gettext_c_gettext_indexed.Kinds as gettext-indexed-kinds
use Rattle.gettext_c.proofs.gettext_c_ngettext_indexed.Reads as ngettext-indexed
use Rattle.gettext_c.proofs.gettext_c_ngettext_indexed.Kinds as ngettext-indexed-kinds
use Rattle.gettext_c.proofs.gettext_c_span.Reads as span
use Rattle.gettext_c.proofs.gettext_c_span.Kinds as span-kinds
use Rattle.gettext_c.proofs.gettext_c_text.Reads as text
use Rattle.gettext_c.proofs.gettext_c_text.Kinds as text-kinds
use Rattle.gettext_c.proofs.gettext_c_index.Reads as index
use Rattle.gettext_c.proofs.gettext_c_index.Kinds as index-kinds
use Rattle.gettext_c.proofs.gettext_c_cost.Reads as cost
use Rattle.gettext_c.proofs.gettext_c_cost.Kinds as cost-kinds

-- a load's answer, the place and the count counted in
same : {u v : Loaded} → u.number ≡ v.number → u.side ≡ v.side → u.entered ≡ v.entered → u.entry ≡ v.entry → u.counted ≡ v.counted → u.forms ≡ v.forms
    → u.head ≡ v.head → u ≡ v
same {u} {v} a b c d e f g = fields a b c d e f g
  where
    made : ℕ → ℕ → ℕ → ℕ → ℕ → ℕ → List ℕ → Loaded
    made n s k i c x h = record { number = n; side = s; entered = k; counted = c; entry = i; forms = x; head = h }

    fields : {n m s t k l i j c d x y : ℕ} {g h : List ℕ} → n ≡ m → s ≡ t → k ≡ l → i ≡ j → c ≡ d → x ≡ y → g ≡ h → made n s k i c x g ≡ made m t l j d y h
    fields a b c d e f g = rw (a, b, c, d, e, f, g)

abbrev empty_left : (κs : Lfts 3) → AtExit (ended_of 3 empty-kinds.ps empty-kinds.r) κs → Pool
empty_left κs x = pool x.0.now x.1.0.now x.1.1.0.now

pub empty_one : OneLeft 3 empty-kinds.ps empty-kinds.r empty.Post empty_left
empty_one κs a u v x y p q = (same (p.number_is ∙ sym q.number_is) (p.side_is ∙ sym q.side_is) (p.entered_is ∙ sym q.entered_is) (p.entry_is ∙ sym q.entry_is) (p.counted_is ∙ sym q.counted_is) (p.forms_are ∙ sym q.forms_are) (p.head_is ∙ sym q.head_is), p.rule_is ∙ sym q.rule_is)

abbrev load_left : (κs : Lfts 4) → AtExit (ended_of 4 load-kinds.ps load-kinds.r) κs → Pool
load_left κs x = pool x.1.1.1.1.1.1.0.now x.1.1.1.1.1.1.1.0.now x.1.1.1.1.1.1.1.1.0.now

pub load_one : OneLeft 4 load-kinds.ps load-kinds.r load.Post load_left
load_one κs a u v x y p q = (same (p.number_is ∙ sym q.number_is) (p.side_is ∙ sym q.side_is) (p.entered_is ∙ sym q.entered_is) (p.entry_is ∙ sym q.entry_is) (p.counted_is ∙ sym q.counted_is) (p.forms_are ∙ sym q.forms_are) (p.head_is ∙ sym q.head_is), p.rule_is ∙ sym q.rule_is)

pub gettext_one : One 1 gettext-kinds.ps gettext-kinds.r gettext.Post
gettext_one κs a u v x y p q = p ∙ sym q

pub ngettext_one : One 1 ngettext-kinds.ps ngettext-kinds.r ngettext.Post
ngettext_one κs a u v x y p q = p ∙ sym q

pub why_ngettext_one : One 1 why-ngettext-kinds.ps why-ngettext-kinds.r why_ngettext.Post
why_ngettext_one κs a u v x y p q = p ∙ sym q

pub rating_one : One 1 rating-kinds.ps rating-kinds.r rating.Post
rating_one κs a u v x y p q = p ∙ sym q

pub fits_one : One 1 fits-kinds.ps fits-kinds.r fits.Post
fits_one κs a u v x y p q = p ∙ sym q

pub resolve_one : One 1 resolve-kinds.ps resolve-kinds.r resolve.Post
resolve_one κs a u v x y p q = p ∙ sym q

pub is_utf8_one : One 1 is-utf8-kinds.ps is-utf8-kinds.r is-utf8.Post
is_utf8_one κs a u v x y p q = p ∙ sym q

pub cost_one : One 1 cost-kinds.ps cost-kinds.r cost.Post
cost_one κs a u v x y p q = p ∙ sym q

pub slots_one : One 1 slots-kinds.ps slots-kinds.r slots.Post
slots_one κs a u v x y p q = p ∙ sym q

pub gettext_indexed_one : One 1 gettext-indexed-kinds.ps gettext-indexed-kinds.r gettext-indexed.Post
gettext_indexed_one κs a u v x y p q = p ∙ sym q

pub ngettext_indexed_one : One 1 ngettext-indexed-kinds.ps ngettext-indexed-kinds.r ngettext-indexed.Post
ngettext_indexed_one κs a u v x y p q = p ∙ sym q

abbrev index_left : (κs : Lfts 2) → AtExit (ended_of 2 index-kinds.ps index-kinds.r) κs → List ℕ
index_left κs x = x.1.1.0.now

pub index_one : OneLeft 2 index-kinds.ps index-kinds.r index.Post index_left
index_one κs a u v x y p q = (p.number_is ∙ sym q.number_is, p.slots_are ∙ sym q.slots_are)

abbrev span_left : (κs : Lfts 2) → AtExit (ended_of 2 span-kinds.ps span-kinds.r) κs → List ℕ
span_left κs x = x.1.1.1.1.1.1.0.now

pub span_one : OneLeft 2 span-kinds.ps span-kinds.r span.Post span_left
span_one κs a u v x y p q = (p.0 ∙ sym q.0, p.1 ∙ sym q.1)

abbrev text_left : (κs : Lfts 2) → AtExit (ended_of 2 text-kinds.ps text-kinds.r) κs → List ℕ
text_left κs x = x.1.1.1.1.0.now

pub text_one : OneLeft 2 text-kinds.ps text-kinds.r text.Post text_left
text_one κs a u v x y p q = (p.answer ∙ sym q.answer, p.left ∙ sym q.left)
