-- The reason, put together from the parts that the code finds. Assumes nothing.
use Prim.Native.Nat.{ℕ}
use mathlib.Core.Path.{◌≡◌, refl, sym, ap, ◌∙◌}
use mathlib.Core.Bool.{true}
use mathlib.Core.List.{List}
use lib.ListN.{length}
use borrow.Author.Tests.{eq-eqb, ne_eqb}
use Rattle.promise.proofs.Told.{told}
use Rattle.text.proofs.Tests.{never, taken, left}
use Rattle.std.specs.Result.{is_err}
use Rattle.rules.specs.declared.NoForm.{NoForm}
use Rattle.rules.specs.declared.NoForm.TheVariants as no_form
use Rattle.container_layout.specs.Mo.{segment}
use Rattle.container_layout.specs.declared.Tables.{Tables}
use Rattle.text.specs.declared.Stretch.{Stretch}
use Rattle.lookup_scan.specs.declared.Hit.{Hit}
use Rattle.std.specs.Prelude.{Option, Some, None, Result, Ok, Err}
use Rattle.lookup_index.specs.declared.TooFewSlots.{TooFewSlots}
use Rattle.lookup.specs.Lookup.{by_segment, by_entry, by_rule, few_slots, by_slots, plural, plural_in, number}
use Rattle.lookup.specs.declared.Reason.{Reason}
use Rattle.lookup.specs.declared.Reason.TheVariants.{StaleLength, IndexRoom}

module _ (s : List ℕ) (t : Tables) (v : Result ℕ NoForm) (h : Option Hit) where
  pub stale : (length s ≡ t.length → ⊥) → StaleLength ≡ plural s t v h
  unfolding plural
  stale e = sym (left _ _ (ne_eqb (length s) t.length e))

  -- the rule's value is u, as the code has it
  pub by_rule_lem : {u w : Result ℕ NoForm} {r : Reason} → length s ≡ t.length → u ≡ v → u ≡ w → r ≡ by_rule s w h → r ≡ plural s t v h
  unfolding plural
  by_rule_lem e f g k = k ∙ told (λ (x : Result ℕ NoForm). by_rule s x h) (sym f ∙ g) ∙ sym (taken _ _ (eq-eqb (length s) t.length e))

  -- the hit is g, as the code has it
  pub by_form : {u : Result ℕ NoForm} {g : Option Hit} {r : Reason} → length s ≡ t.length → u ≡ v → g ≡ h → r ≡ by_rule s u g → r ≡ plural s t v h
  by_form {u} e f m n = by_rule_lem e f refl (n ∙ ap (by_rule s u) m)

-- without a count the form is 0
pub by_first : (s : List ℕ) (t : Tables) (h : Option Hit) {g : Option Hit} {r : Reason} → length s ≡ t.length → g ≡ h → r ≡ by_entry s 0 g → r ≡ plural s t (Ok 0) h
by_first s t h e m k = by_rule_lem s t (Ok 0) h e refl refl (k ∙ ap (by_entry s 0) m)

-- where the rule names no form, no key is sought
no_form_lem : (s : List ℕ) (v : Result ℕ NoForm) (h : Option Hit) → is_err v ≡ true → by_rule s v None ≡ by_rule s v h
no_form_lem s (Ok form) h k = absurd (never k)
no_form_lem s (Err no_form.ZeroModulus) h k = refl
no_form_lem s (Err no_form.NoTree) h k = refl

pub by_no_form : (s : List ℕ) (t : Tables) (v : Result ℕ NoForm) (h : Option Hit) {u : Result ℕ NoForm} {r : Reason} → length s ≡ t.length → u ≡ v
    → is_err u ≡ true → r ≡ by_rule s u None → r ≡ plural s t v h
by_no_form s t v h {u} e f g k = by_rule_lem s t v h e f refl (k ∙ no_form_lem s u h g)

-- too few slots, where the nodes are a tree
pub some_tree : (v : Result ℕ NoForm) → (v ≡ Err no_form.NoTree → ⊥) → IndexRoom ≡ few_slots v
some_tree (Ok form) k = refl
some_tree (Err no_form.ZeroModulus) k = refl
some_tree (Err no_form.NoTree) k = absurd (k refl)

-- by lent slots
module _ (s : List ℕ) (t : Tables) (v : Result ℕ NoForm) (x : Result (Option Hit) TooFewSlots) where
  pub stale_in : (length s ≡ t.length → ⊥) → StaleLength ≡ plural_in s t v x
  unfolding plural_in
  stale_in e = sym (left _ _ (ne_eqb (length s) t.length e))

  -- what the code has: the value u, and y, which was sought
  pub by_slots_lem : {u : Result ℕ NoForm} {y : Result (Option Hit) TooFewSlots} {r : Reason} → length s ≡ t.length → u ≡ v → y ≡ x → r ≡ by_slots s u y → r ≡ plural_in s t v x
  unfolding plural_in
  by_slots_lem {u} {y} e f g k =
      k ∙ ap (λ (w : Result ℕ NoForm). by_slots s w y) f ∙ ap (by_slots s v) g ∙ sym (taken _ _ (eq-eqb (length s) t.length e))

-- an entry changes the text, and no number
by_segment_0 : (i form : ℕ) (x : Option Stretch) → number (by_segment i form x) ≡ 0
by_segment_0 i form (Some p) = refl
by_segment_0 i form None = refl

pub by_entry_0 : (s : List ℕ) (form : ℕ) (h : Option Hit) → number (by_entry s form h) ≡ 0
by_entry_0 s form (Some h) = by_segment_0 h.entry form (segment s h.start h.len form)
by_entry_0 s form None = refl
