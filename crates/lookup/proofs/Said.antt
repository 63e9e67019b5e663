-- The text that answers, by its cases. Assumes nothing.
use Prim.Native.Nat.{ℕ}
use mathlib.Core.Path.{◌≡◌, sym, ◌∙◌}
use borrow.Author.Tests.{eq-eqb, ne_eqb}
use Rattle.text.proofs.Tests.{taken, left}
use Rattle.lookup.specs.Text.{text_or, plural_text}
use Rattle.lookup.specs.declared.Reason.{Reason}
use Rattle.lookup.specs.declared.Text.{Text}
use Rattle.lookup.specs.declared.Text.TheVariants.{Id, PluralId}

-- with a count the caller's own text is the id for 1
module _ (n : ℕ) (r : Reason) {x : Text} where
  pub for_one : n ≡ 1 → x ≡ text_or Id r → x ≡ plural_text n r
  unfolding plural_text
  for_one e f = f ∙ sym (taken _ _ (eq-eqb n 1 e))

  pub for_many : (n ≡ 1 → ⊥) → x ≡ text_or PluralId r → x ≡ plural_text n r
  unfolding plural_text
  for_many e f = f ∙ sym (left _ _ (ne_eqb n 1 e))
