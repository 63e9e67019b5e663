-- The reason, put together from the parts that the code finds. Assumes nothing.
use Prim.Native.Nat.{ℕ}
use mathlib.Core.Path.{◌≡◌, sym, ap, ◌∙◌}
use mathlib.Core.List.{List}
use lib.ListN.{length}
use borrow.Author.Tests.{eq-eqb, ne_eqb}
use Rattle.text.proofs.Tests.{taken, left}
use Rattle.rules_zero.specs.declared.Fault.{Fault}
use Rattle.container_layout.specs.declared.Tables.{Tables}
use Rattle.lookup_scan.specs.declared.Hit.{Hit}
use Rattle.std.specs.Prelude.{Option, Result}
use Rattle.lookup_why.specs.Why.{by_rule, why}
use Rattle.lookup_why.specs.declared.Why.{Why}
use Rattle.lookup_why.specs.declared.Why.TheVariants.{StaleLength}

module _ (s : List ℕ) (t : Tables) (v : Result ℕ Fault) (h : Option Hit) where
  pub stale : (length s ≡ t.length → ⊥) → StaleLength ≡ why s t v h
  unfolding why
  stale e = sym (left _ _ (ne_eqb (length s) t.length e))

  -- the rule's value is u and the hit g, as the code has them
  pub by_rule_lem : {u : Result ℕ Fault} {g : Option Hit} {r : Why} → length s ≡ t.length → u ≡ v → g ≡ h → r ≡ by_rule s u g → r ≡ why s t v h
  unfolding why
  by_rule_lem {u} {g} e f d k =
      k ∙ ap (λ (w : Result ℕ Fault). by_rule s w g) f ∙ ap (by_rule s v) d ∙ sym (taken _ _ (eq-eqb (length s) t.length e))
