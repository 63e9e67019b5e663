use Prim.Native.Nat.{◌-◌}
use mathlib.Core.Path.{refl, ◌∙◌}
use native.Mathlib.Omega.{arith}
use lib.ListN.{length}
use Rattle.text.proofs.Front.{counted_end, counted_stop, counted_more, counted_narrow}
use Rattle.container_layout.proofs.Marks.{from_start, plain_nul, plain_four, plain_other, plain_high, part_plain}
use Rattle.container_layout.proofs.find_mark.Goals as goal

pub returns-then-o-eq0 : goal.returns-then-o-eq0
returns-then-o-eq0 c = from_start _ _ (counted_end _ _ _ _ (omega (arith, c.if-o-eq0.true)) refl)

pub loop-i-init : goal.loop-i-init
loop-i-init c = part_plain _ (length c.args.o.now - 1) c.span-i.ensures

pub returns-then-o-i-eq0 : goal.returns-then-o-i-eq0
returns-then-o-i-eq0 c = from_start _ _ (counted_stop _ _ _ _ c.loop-i-test.true (plain_nul _ c.if-o-i-eq0.true) c.loop-i.invariant)

pub returns-then-o-i-eq4 : goal.returns-then-o-i-eq4
returns-then-o-i-eq4 c = from_start _ _ (counted_stop _ _ _ _ c.loop-i-test.true (plain_four _ c.if-o-i-eq4.true) c.loop-i.invariant)

pub loop-i-preserved : goal.loop-i-preserved
loop-i-preserved c = counted_more _ _ _ _ c.loop-i-test.true (plain_other _ c.if-o-i-eq0.false c.if-o-i-eq4.false) c.loop-i.invariant ∙ counted_narrow _ _ plain_high _ _ c.span-i-in-loop-i.ensures

pub returns : goal.returns
returns c = from_start _ _ (counted_end _ _ _ _ c.loop-i-test.false c.loop-i.invariant)
