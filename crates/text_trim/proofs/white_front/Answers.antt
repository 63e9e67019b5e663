use Rattle.text_trim.specs.Trim.{chars_of}
use Rattle.text_trim.proofs.Trimming.{over_fits, over_more, over_stop}
use native.Mathlib.Omega.{arith}
use Rattle.text_trim.proofs.white_front.Goals as goal

pub loop-set-init : goal.loop-set-init
loop-set-init c = (omega arith, omega arith)

pub returns-then-k-eq0 : goal.returns-then-k-eq0
returns-then-k-eq0 c = over_stop (chars_of c.args.set) c.args.s.now c.loop-set.n _ c.loop-set.invariant.0 c.first_char-k.ensures c.if-k-eq0.true c.loop-set.invariant.1

pub overflow_add-n : goal.overflow_add-n
overflow_add-n c = omega (arith, over_fits (chars_of c.args.set) c.args.s.now c.loop-set.n _ c.loop-set.invariant.0 c.first_char-k.ensures)

pub loop-set-smaller : goal.loop-set-smaller
loop-set-smaller c = omega (arith, over_fits (chars_of c.args.set) c.args.s.now c.loop-set.n _ c.loop-set.invariant.0 c.first_char-k.ensures)

pub loop-set-preserved : goal.loop-set-preserved
loop-set-preserved c = (over_fits (chars_of c.args.set) c.args.s.now c.loop-set.n _ c.loop-set.invariant.0 c.first_char-k.ensures, over_more (chars_of c.args.set) c.args.s.now c.loop-set.n _ c.loop-set.invariant.0 c.first_char-k.ensures c.loop-set.invariant.1)
