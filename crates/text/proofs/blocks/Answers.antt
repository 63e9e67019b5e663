use mathlib.Core.Path.{refl, sym, ◌∙◌}
use native.Mathlib.Omega.{arith}
use borrow.Author.Rules.{rules}
use borrow.Author.Tests.{leb-true, leb-false}
use Rattle.text.proofs.Front.{counted_on}
use Rattle.text.proofs.blocks.Goals as goal

pub loop-i-init : goal.loop-i-init
loop-i-init c = (refl, search rules, search rules)

pub loop-i-preserved : goal.loop-i-preserved
loop-i-preserved c = (counted_on _ _ _ _ 16 c.loop-i.invariant.0 (leb-true _ _ (sym c.block.ensures ∙ c.if-block.true)), omega arith, omega arith)

pub returns-else-block : goal.returns-else-block
returns-else-block c = record { counted = c.loop-i.invariant.0; after = search rules; inside = search rules; stops = λ h. leb-false _ _ (sym c.block.ensures ∙ c.if-block.false) }

pub returns-after-loop-i : goal.returns-after-loop-i
returns-after-loop-i c = record { counted = c.loop-i.invariant.0; after = search rules; inside = search rules; stops = λ h. absurd (omega arith) }
