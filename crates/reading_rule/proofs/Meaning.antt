-- A rule in the Standard reading, by C's grammar alone: the trimmed text has at most 512 bytes, all ASCII, and means that tree. Assumes nothing.
use Prim.Native.Nat.{ℕ, ◌≤◌}
use mathlib.Core.Path.{◌≡◌, sym, ap, ◌∙◌}
use mathlib.Core.Bool.{true, false}
use mathlib.Core.Logic.{◌↔◌}
use mathlib.Core.List.{List}
use native.Mathlib.Omega.{arith}
use lib.ListN.{length}
use lib.Dec.{ltb}
use borrow.Author.Tests.{ltb-false, le-ltb}
use Rattle.text.specs.Bytes.{all}
use Rattle.text.proofs.Tests.{taken, left, by_test}
use Rattle.text_trim.specs.Trim.{trim, white_space}
use Rattle.refusal.specs.Places.{at}
use Rattle.refusal.specs.declared.Where.{Where}
use Rattle.refusal.specs.declared.Refusal.{Refusal}
use Rattle.refusal.specs.declared.Error.TheVariants.{PluralParsing, RuleTooLong}
use Rattle.rules.specs.Tree as tree
use Rattle.rules.specs.Tree.{Tree}
use Rattle.reading_grammar.specs.Spells.{Means}
use Rattle.reading_grammar.specs.Reading.{standard}
use Rattle.reading_grammar.proofs.Spelled.{agrees_text}
use Rattle.reading_rule.specs.Plurals.{rule, norule, made, is_ascii, tested, parsed}
use Rattle.reading_rule.specs.declared.Reading.TheVariants.{Standard}

pub record IsRule (s : List ℕ) (t : Tree) : Type 0 where
  pub short : length s ≤ 512
  pub ascii : all is_ascii s ≡ true
  pub means : Means s t

never : {e : Refusal} {t : Tree} → norule e ≡ rule t → ⊥
never e = let z : ◌≡◌ {A = ℕ} 0 1 = cc in omega arith

made_tree : (w : Where) (x : tree.Reading) {t : Tree} → made w x ≡ rule t → x ≡ tree.tree t
unfolding made
made_tree w (tree.tree u) {t} e = let z : u ≡ t = cc in ap tree.tree z
made_tree w tree.none e = absurd (never e)

module _ (place : Where) (s : List ℕ) (t : Tree) where
  to_rule : tested place Standard s ≡ rule t → IsRule s t
  unfolding tested
  to_rule e =
      by_test (IsRule s t) (ltb 512 (length s)) (λ long. absurd (never (sym (taken (norule (at place RuleTooLong)) (elim (all is_ascii s) [ true ↦ made place (standard s) | false ↦ norule (at place PluralParsing) ]) long) ∙ e)))
      (λ short. let r = sym (left (norule (at place RuleTooLong)) (elim (all is_ascii s) [ true ↦ made place (standard s) | false ↦ norule (at place PluralParsing) ]) short) ∙ e in
      by_test (IsRule s t) (all is_ascii s)
      (λ a. record { short = ltb-false 512 (length s) short; ascii = a; means = (agrees_text s t).0 (made_tree place (standard s) (sym (taken (made place (standard s)) (norule (at place PluralParsing)) a) ∙ r)) })
      (λ a. absurd (never (sym (left (made place (standard s)) (norule (at place PluralParsing)) a) ∙ r))))

  from_rule : IsRule s t → tested place Standard s ≡ rule t
  unfolding tested made
  from_rule w =
      left (norule (at place RuleTooLong)) (elim (all is_ascii s) [ true ↦ made place (standard s) | false ↦ norule (at place PluralParsing) ]) (le-ltb 512 (length s) w.short)
      ∙ taken (made place (standard s)) (norule (at place PluralParsing)) w.ascii
      ∙ ap (made place) ((agrees_text s t).1 w.means)

pub standard_exactly : (place : Where) (s : List ℕ) (t : Tree) → (parsed place Standard s ≡ rule t) ↔ IsRule (trim white_space s) t
unfolding parsed
standard_exactly place s t = (to_rule place (trim white_space s) t, from_rule place (trim white_space s) t)
