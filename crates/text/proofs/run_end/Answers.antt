use mathlib.Core.Path.{◌≡◌, sym, ◌∙◌}
use lib.ListN.{length}
use native.Mathlib.Omega.{arith}
use borrow.Author.Tests.{leb-true}
use Rattle.text.proofs.Front.{counted_end, counted_stop, counted_more, counted_last}
use Rattle.text.proofs.run_end.Goals as goal

pub returns-then-block : goal.returns-then-block
returns-then-block c = counted_last _ _ _ _ 16 c.blocks-past.ensures.counted (omega arith) (omega arith) (leb-true _ _ (sym c.block.ensures ∙ c.if-block.true))

pub loop-i-init : goal.loop-i-init
loop-i-init c = c.blocks-past.ensures.counted

pub loop-i-preserved : goal.loop-i-preserved
loop-i-preserved c = counted_more _ _ _ _ (omega arith) (c.ends.ensures.zero c.if-ends-ne0.false) c.loop-i.invariant

pub returns-then-ends-ne0 : goal.returns-then-ends-ne0
returns-then-ends-ne0 c = counted_stop _ _ _ _ (omega arith) (c.ends.ensures.one c.if-ends-ne0.true) c.loop-i.invariant

pub returns : goal.returns
returns c =
    let i = c.loop-i.auto.i-end c.blocks-past.ensures.inside in
    let q : length c.args.s.now ≡ c.loop-i.i = omega arith in
    q ∙ counted_end _ _ _ _ (omega arith) c.loop-i.invariant
