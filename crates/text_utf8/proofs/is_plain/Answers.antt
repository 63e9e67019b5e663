use native.Mathlib.Omega.{arith}
use borrow.Author.Rules.{rules}
use borrow.Author.Tests.{ltb-true}
use Rattle.text_utf8.proofs.Plain.{plain_none, plain_join, plain_to, plain_right}
use Rattle.text_utf8.proofs.is_plain.Goals as goal

pub loop-i-init : goal.loop-i-init
loop-i-init c = (search rules, plain_none, omega arith)

pub loop-i-preserved : goal.loop-i-preserved
loop-i-preserved c = (search rules, plain_join c.loop-i.invariant.1 (c.block.ensures c.if-not-block.false) (omega arith), omega arith)

pub returns-then-s-n-lt192 : goal.returns-then-s-n-lt192
returns-then-s-n-lt192 c = λ e. plain_right _ (omega arith) (c.odd.ensures c.if-odd-ne0.false) (c.odd-2.ensures c.if-odd-ne0-2.false) (plain_join c.loop-i.invariant.1 (plain_to (c.block-2.ensures c.if-not-block-2.false) (omega arith)) (omega arith)) (ltb-true _ _ e) (omega arith)
