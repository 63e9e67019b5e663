use mathlib.Core.Path.{sym}
use lib.Seq.{length-take-le}
use Rattle.text_trim.proofs.Trimming.{cut_none, cut_fits, cut_more, cut_stop}
use native.Mathlib.Omega.{arith}
use Rattle.text_trim.proofs.trimmed_end.Goals as goal

pub loop-set-init : goal.loop-set-init
loop-set-init c = (omega arith, cut_none c.args.set c.args.s.now)

pub slice_bounds-last_char-end : goal.slice_bounds-last_char-end
slice_bounds-last_char-end c = sym (length-take-le _ _ c.loop-set.invariant.0)

pub returns-then-k-eq0 : goal.returns-then-k-eq0
returns-then-k-eq0 c = cut_stop c.args.set c.args.s.now c.loop-set.e _ c.loop-set.invariant.0 c.last_char-k.ensures c.if-k-eq0.true c.loop-set.invariant.1

pub overflow_sub-e : goal.overflow_sub-e
overflow_sub-e c = cut_fits c.args.set c.args.s.now c.loop-set.e _ c.loop-set.invariant.0 c.last_char-k.ensures

pub loop-set-smaller : goal.loop-set-smaller
loop-set-smaller c = omega (arith, cut_fits c.args.set c.args.s.now c.loop-set.e _ c.loop-set.invariant.0 c.last_char-k.ensures)

pub loop-set-preserved : goal.loop-set-preserved
loop-set-preserved c = (omega arith, cut_more c.args.set c.args.s.now c.loop-set.e _ c.loop-set.invariant.0 c.last_char-k.ensures c.loop-set.invariant.1)
