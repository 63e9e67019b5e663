use native.Mathlib.Omega.{arith}
use Rattle.text.proofs.Cuts.{rest_bound}
use Rattle.header_forms.proofs.Pieces.{met_none, met_last, met_more}
use Rattle.header_forms.proofs.form_count.Goals as goal

pub loop-found-init : goal.loop-found-init
loop-found-init c = (omega arith, met_none _)

pub slice_bounds-count_in-end : goal.slice_bounds-count_in-end
slice_bounds-count_in-end c = rest_bound 59 _ _ _ c.find_byte_from-end.ensures c.loop-found.invariant.0

pub returns-then-v-end : goal.returns-then-v-end
returns-then-v-end c = met_last _ _ _ _ c.find_byte_from-end.ensures c.loop-found.invariant.1 c.count_in.ensures c.or-found.ensures c.loop-found.invariant.0 c.if-v-end.true

pub loop-found-preserved : goal.loop-found-preserved
loop-found-preserved c = (omega arith, met_more _ _ _ _ c.find_byte_from-end.ensures c.loop-found.invariant.1 c.count_in.ensures c.or-found.ensures c.if-v-end.false)
