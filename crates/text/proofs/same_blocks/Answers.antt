use mathlib.Core.Path.{refl, sym, ◌∙◌}
use native.Mathlib.Omega.{arith}
use borrow.Author.Rules.{rules}
use borrow.Author.Tests.{leb-true, leb-false}
use Rattle.text.proofs.Front.{counted_on}
use Rattle.text.proofs.Alike.{differences_length}
use Rattle.text.proofs.same_blocks.Goals as goal

pub loop-at-init : goal.loop-at-init
loop-at-init c = (refl, search rules)

pub loop-at-preserved : goal.loop-at-preserved
loop-at-preserved c = (counted_on _ _ _ _ 16 c.loop-at.invariant.0 (leb-true _ _ (sym c.same_block.ensures ∙ c.if-same_block.true)), omega arith)

pub returns-else-same_block : goal.returns-else-same_block
returns-else-same_block c = let l = differences_length c.args.other.now c.args.s.now c.requires in
    record { counted = c.loop-at.invariant.0; after = search rules; inside = omega (arith, l); stops = λ h. leb-false _ _ (sym c.same_block.ensures ∙ c.if-same_block.false) }

pub returns-after-loop-at : goal.returns-after-loop-at
returns-after-loop-at c = let l = differences_length c.args.other.now c.args.s.now c.requires in
    record { counted = c.loop-at.invariant.0; after = search rules; inside = omega (arith, l); stops = λ h. absurd (omega (arith, l)) }
