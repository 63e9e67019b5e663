-- The demands over the lookups in lent slots. SPEC 10: demand 3 is asked where the slots are those that `gettext_c_index` left
-- for this record and these bytes; in any slots an answer is the form's own segment of an entry with the key, or the fallback. Names are
-- those of Demands.antt; `lent` are the slots before building, `slots` after it, and n its number. Assumes nothing.
use Prim.{tt}
use Prim.Native.Nat.{ℕ, ◌^◌, ◌<◌, ◌≤◌}
use mathlib.Core.Path.{◌≡◌, refl, sym, ap, ◌∙◌}
use mathlib.Core.List.{List}
use native.Mathlib.Omega.{arith}
use lib.ListN.{length}
use Rattle.std.specs.Prelude.{Result, Ok, Err}
use Rattle.refusal.specs.Numbers.{number_of}
use Rattle.refusal.specs.declared.Error.TheVariants as error
use Rattle.rules.specs.Pool.{Pool}
use Rattle.rules.specs.declared.NoForm.{NoForm}
use Rattle.container_layout.specs.Mo.{segments}
use Rattle.lookup_scan.specs.Keys.{last_with}
use Rattle.lookup_scan.specs.declared.Hit.{Hit}
use Rattle.lookup_scan.proofs.Last.{Last}
use Rattle.lookup_slots.specs.Used.{used}
use Rattle.lookup_index.specs.Index.{sought_in, building, leaves, number}
use Rattle.lookup_index.specs.declared.Unbuilt.{Unbuilt}
use Rattle.lookup_index.specs.declared.Unbuilt.TheVariants as unbuilt
use Rattle.lookup_index.proofs.Answers.{built_exactly}
use Rattle.lookup.specs.Lookup.{plural, plural_in}
use Rattle.lookup.specs.declared.Reason.{Reason}
use Rattle.lookup.specs.declared.Reason.TheVariants as reason
use Rattle.lookup.proofs.Indexed.{indexed_as_scan}
use Rattle.container.specs.Catalog.{load, tree_in}
use Rattle.container.specs.declared.Options.{Options}
use Rattle.host.specs.Host.{tables_in, own_for, answer_of, rating_of, fits_of, nodes_in, root_in}
use Rattle.rules.specs.Answer.{resolved_of, fit_of}
use Rattle.host.specs.declared.Loaded.{Loaded}
use Rattle.host.specs.declared.Rating.{Rating}
use Rattle.host.specs.declared.Fits.{Fits}
use Rattle.gettext_c.specs.Record.{Loads, Indexes, counted_in}
use Rattle.gettext_c.proofs.Fresh.{fresh_length}
use Rattle.gettext_c.proofs.Demands.{AsksNothing, Yields, IsSegment, Kept, range, demand_3, demand_3_fits}
use Rattle.gettext_c.proofs.gettext_c_slots.Reads as slots
use Rattle.gettext_c.proofs.gettext_c_slots.Kinds as slots-kinds
use Rattle.gettext_c.proofs.gettext_c_index.Reads as index
use Rattle.gettext_c.proofs.gettext_c_index.Kinds as index-kinds
use Rattle.gettext_c.proofs.gettext_c_gettext_indexed.Reads as gettext
use Rattle.gettext_c.proofs.gettext_c_gettext_indexed.Kinds as gettext-kinds
use Rattle.gettext_c.proofs.gettext_c_ngettext_indexed.Reads as ngettext
use Rattle.gettext_c.proofs.gettext_c_ngettext_indexed.Kinds as ngettext-kinds

-- 1. No function asks anything of its caller.
pub nothing_asked_indexed : AsksNothing 1 slots-kinds.ps slots.Pre × AsksNothing 2 index-kinds.ps index.Pre × AsksNothing 1 gettext-kinds.ps gettext.Pre × AsksNothing 1 ngettext-kinds.ps ngettext.Pre
nothing_asked_indexed = (λ κs a. tt, λ κs a. tt, λ κs a. tt, λ κs a. tt)

-- a refused lookup gives the caller's own id or plural id, with 10, 11 or 12
pub data Refused : ℕ → Type 0 where
  zero_modulus : Refused (number_of error.ZeroModulus)
  bad_record : Refused (number_of error.BadRecord)
  index_room : Refused (number_of error.IndexRoom)

pub refused_indexed : (own : ℕ) (a : Reason) → ((answer_of own a).number ≡ 0 → ⊥) → ((answer_of own a).which ≡ own) × Refused (answer_of own a).number
refused_indexed own reason.StaleLength n = (refl, bad_record)
refused_indexed own reason.NoTree n = (refl, bad_record)
refused_indexed own reason.IndexRoom n = (refl, index_room)
refused_indexed own reason.ZeroModulus n = (refl, zero_modulus)
refused_indexed own reason.NoEntry n = absurd (n refl)
refused_indexed own (reason.TooFewSegments i) n = absurd (n refl)
refused_indexed own (reason.Answered i form start len) n = absurd (n refl)

-- building is refused with 11 or 12, and then leaves the slots as they were
pub refused_index : {s h lent slots : List ℕ} {n : ℕ} → Indexes s h lent slots n → (n ≡ 0 → ⊥) → slots ≡ lent
refused_index {s} {h} {lent} {slots} {n} w z = by_went (building s (tables_in h) (length lent)) w.slots_are w.number_is
  where
    by_went : (b : Result Unit Unbuilt) → slots ≡ leaves s (tables_in h) lent b → n ≡ number b → slots ≡ lent
    by_went (Ok tt) e f = absurd (z f)
    by_went (Err unbuilt.StaleLength) e f = e
    by_went (Err unbuilt.TooFewSlots) e f = e

went_0 : (b : Result Unit Unbuilt) → number b ≡ 0 → b ≡ Ok tt
went_0 (Ok tt) e = refl
went_0 (Err unbuilt.StaleLength) e = absurd (omega arith)
went_0 (Err unbuilt.TooFewSlots) e = absurd (omega arith)

-- The slots that were built: every lookup answers as the scan, v being the rule's value, form 0 without a count.
module _ {s h lent slots : List ℕ} {n : ℕ} (w : Indexes s h lent slots n) (zero : n ≡ 0) where
  is_built : building s (tables_in h) (length lent) ≡ Ok tt
  is_built = went_0 _ (sym w.number_is ∙ zero)

  pub answers_as_scan : (v : Result ℕ NoForm) (key : List ℕ) → plural_in s (tables_in h) v (sought_in s (tables_in h) slots key) ≡ plural s (tables_in h) v (last_with s (tables_in h) key)
  answers_as_scan v key =
      let e : slots ≡ leaves s (tables_in h) lent (Ok tt) = w.slots_are ∙ ap (leaves s (tables_in h) lent) is_built in
      ap (λ (x : List ℕ). plural_in s (tables_in h) v (sought_in s (tables_in h) x key)) e ∙ indexed_as_scan s (tables_in h) v lent key is_built

-- 3. An accepted load, the record unaltered, and an index built from it and these bytes.
module _ (o : Options) (f s : List ℕ) {Q : Pool} {r : Loaded} (loads : Loads (load o f s) Q r) (number_0 : r.number ≡ 0) where
  -- as many slots as `gettext_c_slots` says are enough
  pub enough_slots : (lent : List ℕ) {slots : List ℕ} {n : ℕ} → Indexes s r.head lent slots n → used (tables_in r.head).count ≤ length lent → n ≡ 0
  enough_slots lent w l = w.number_is ∙ ap number (built_exactly s (tables_in r.head) (length lent) (fresh_length o f s loads number_0) l)

  module _ {lent slots : List ℕ} {m : ℕ} (w : Indexes s r.head lent slots m) (zero : m ≡ 0) where
    pub record KeptIn (lo hi k n : ℕ) : Type 0 where
      pub yields : Yields (tree_in (load o f s)) lo hi k n
      pub answers : (key : List ℕ) (h : Hit) → Last s (tables_in r.head) key (tables_in r.head).count h → k ≤ length (segments s h.start h.len)
          → IsSegment s h yields.form (answer_of (own_for n) (counted_in s r.head slots Q key n))

    kept_in : {lo hi k n : ℕ} → Kept o f s loads number_0 lo hi k n → KeptIn lo hi k n
    kept_in {n = n} q = record {
      yields = q.yields;
      answers =
          λ key h l g.
          rw (answers_as_scan w zero (resolved_of Q (nodes_in r.head) (root_in r.head) n) key) (q.answers key h l g);
    }

    pub indexed_demand_3 : (q : Rating) → q ≡ rating_of (range o f s loads number_0) → q.rated ≡ 1 → (k : ℕ) → q.highest < k → (n : ℕ) → n < 2 ^ 64
        → KeptIn q.lowest q.highest k n
    indexed_demand_3 q e g k below n count = kept_in (demand_3 o f s loads number_0 q e g k below n count)

    pub indexed_demand_3_fits : (k : ℕ) (q : Fits) (e : q ≡ fits_of (fit_of Q (nodes_in r.head) (root_in r.head) k)) (g : q.fits ≡ 1) (n : ℕ) (count : n < 2 ^ 64)
        → KeptIn (demand_3_fits o f s loads number_0 k q e g n count).range.lowest (demand_3_fits o f s loads number_0 k q e g n count).range.highest k n
    indexed_demand_3_fits k q e g n count = kept_in (demand_3_fits o f s loads number_0 k q e g n count).kept
