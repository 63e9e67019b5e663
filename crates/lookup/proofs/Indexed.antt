-- Lookups in lent slots. SPEC 10. In the slots that building left for this record and these bytes a lookup answers as the scan
-- does; in any slots an answer is the form's own segment of an entry with the key, and the number is the scan's, but for 12 where too few
-- are lent. Assumes nothing.
use Prim.Native.Nat.{ℕ, ◌<◌, ◌≤◌}
use mathlib.Core.Path.{◌≡◌, refl, sym, ap, ◌∙◌}
use mathlib.Core.List.{List}
use native.Mathlib.Omega.{arith}
use lib.ListN.{length, take}
use lib.Dec.{eqb, leb}
use borrow.Author.Tests.{eq-eqb, le-leb, lt-leb}
use Rattle.text.proofs.Tests.{taken, left, by_test}
use Rattle.rules.specs.declared.NoForm.{NoForm}
use Rattle.rules.specs.declared.NoForm.TheVariants as no_form
use Rattle.container_layout.specs.declared.Tables.{Tables}
use Rattle.lookup_scan.specs.Keys.{last_with}
use Rattle.lookup_scan.specs.declared.Hit.{Hit}
use Rattle.lookup_slots.specs.Used.{used}
use Rattle.lookup_index.specs.Index as index
use Rattle.lookup_index.specs.Index.{indexed, sought_in, building, leaves}
use Rattle.lookup_index.specs.declared.TooFewSlots.{TooFewSlots}
use Rattle.std.specs.Prelude.{Option, Result, Ok, Err}
use Rattle.lookup_index.proofs.Answers.{built_as_scan, indexed_sound}
use Rattle.lookup.specs.Lookup.{by_rule, few_slots, plural, plural_in, number}
use Rattle.lookup.specs.declared.Reason.TheVariants.{StaleLength, IndexRoom, Answered}
use Rattle.lookup.proofs.Reasons.{by_entry_0}
use Rattle.lookup.proofs.Found.{Found, found}

module _ (s : List ℕ) (t : Tables) (v : Result ℕ NoForm) where
  -- THE THEOREM: after building, every lookup answers as the scan
  pub indexed_as_scan : (lent key : List ℕ) → building s t (length lent) ≡ Ok tt
      → plural_in s t v (sought_in s t (leaves s t lent (Ok tt)) key) ≡ plural s t v (last_with s t key)
  unfolding plural plural_in
  indexed_as_scan lent key b = ap (plural_in s t v) (built_as_scan s t lent b key)

  -- the scan never gives 12
  rule_not_12 : (w : Result ℕ NoForm) (h : Option Hit) → number (by_rule s w h) ≡ number IndexRoom → ⊥
  rule_not_12 (Ok form) h e = omega (arith, by_entry_0 s form h)
  rule_not_12 (Err no_form.ZeroModulus) h e = omega arith
  rule_not_12 (Err no_form.NoTree) h e = omega arith

  pub never_12 : (h : Option Hit) → number (plural s t v h) ≡ number IndexRoom → ⊥
  unfolding plural
  never_12 h e =
      by_test ⊥ (eqb (length s) t.length) (λ y. rule_not_12 v h (sym (ap number (taken (by_rule s v h) StaleLength y)) ∙ e))
      (λ n. let f = sym (ap number (left (by_rule s v h) StaleLength n)) ∙ e in omega arith)

  -- too few slots are lent: the length and the nodes are tested before, a zero divisor would be met after
  pub too_few : (lent key : List ℕ) → length lent < used t.count → length s ≡ t.length → plural_in s t v (sought_in s t lent key) ≡ few_slots v
  unfolding plural_in sought_in
  too_few lent key h e =
      ap (plural_in s t v) (left (Ok (indexed s t (take (used t.count) lent) key)) (Err index.too_few) (lt-leb (used t.count) (length lent) h))
      ∙ taken _ _ (eq-eqb (length s) t.length e)

  enough_slots : (lent key : List ℕ) → used t.count ≤ length lent → sought_in s t lent key ≡ Ok (indexed s t (take (used t.count) lent) key)
  unfolding sought_in
  enough_slots lent key h = taken _ _ (le-leb (used t.count) (length lent) h)

  -- an entry changes no number
  by_rule_same : (w : Result ℕ NoForm) (h g : Option Hit) → number (by_rule s w h) ≡ number (by_rule s w g)
  by_rule_same (Ok form) h g = by_entry_0 s form h ∙ sym (by_entry_0 s form g)
  by_rule_same (Err no_form.ZeroModulus) h g = refl
  by_rule_same (Err no_form.NoTree) h g = refl

  same_number : (h g : Option Hit) → number (plural s t v h) ≡ number (plural s t v g)
  unfolding plural
  same_number h g =
      by_test (number (plural s t v h) ≡ number (plural s t v g)) (eqb (length s) t.length)
      (λ e. ap number (taken (by_rule s v h) StaleLength e) ∙ by_rule_same v h g ∙ sym (ap number (taken (by_rule s v g) StaleLength e)))
      (λ e. ap number (left (by_rule s v h) StaleLength e) ∙ sym (ap number (left (by_rule s v g) StaleLength e)))

  pub number_as_scan : (lent key : List ℕ) → used t.count ≤ length lent
      → number (plural_in s t v (sought_in s t lent key)) ≡ number (plural s t v (last_with s t key))
  unfolding plural plural_in
  number_as_scan lent key h =
      ap (λ (x : Result (Option Hit) TooFewSlots). number (plural_in s t v x)) (enough_slots lent key h)
      ∙ same_number (indexed s t (take (used t.count) lent) key) (last_with s t key)

  -- in any slots
  few_not : (w : Result ℕ NoForm) {i form at size : ℕ} → few_slots w ≡ Answered i form at size → ⊥
  few_not (Ok g) e = let z : ◌≡◌ {A = ℕ} 0 1 = cc in omega arith
  few_not (Err no_form.ZeroModulus) e = let z : ◌≡◌ {A = ℕ} 0 1 = cc in omega arith
  few_not (Err no_form.NoTree) e = let z : ◌≡◌ {A = ℕ} 0 1 = cc in omega arith

  not_few : {i form at size : ℕ} → plural_in s t v (Err index.too_few) ≡ Answered i form at size → ⊥
  unfolding plural_in
  not_few e =
      by_test ⊥ (eqb (length s) t.length) (λ y. few_not v (sym (taken (few_slots v) StaleLength y) ∙ e))
      (λ n. let f = sym (left (few_slots v) StaleLength n) ∙ e in let z : ◌≡◌ {A = ℕ} 0 1 = cc in omega arith)

  pub any_slots : (lent key : List ℕ) {i form at size : ℕ} → plural_in s t v (sought_in s t lent key) ≡ Answered i form at size → Found s t key v i form at size
  unfolding plural plural_in sought_in
  any_slots lent key {i} {form} {at} {size} f =
      by_test (Found s t key v i form at size) (leb (used t.count) (length lent))
      (λ e. found s t key v (indexed_sound s t (take (used t.count) lent) key) (sym (ap (plural_in s t v) (taken _ (Err index.too_few) e)) ∙ f))
      (λ e. absurd (not_few (sym (ap (plural_in s t v) (left (Ok (indexed s t (take (used t.count) lent) key)) (Err index.too_few) e)) ∙ f)))
