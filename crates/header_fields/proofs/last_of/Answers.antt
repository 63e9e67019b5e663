use mathlib.Core.Path.{◌∙◌}
use Rattle.text_trim.specs.Trim.{chars_of, white_space}
use Rattle.text.proofs.Cuts.{rest_bound}
use Rattle.header_fields.specs.Fields.{named}
use Rattle.header_fields.proofs.Places.{named_end, met_none, met_last, met_more, piece_fits, found_so}
use native.Mathlib.Omega.{arith}
use Rattle.header_fields.proofs.last_of.Goals as goal

pub loop-names-init : goal.loop-names-init
loop-names-init c = (omega arith, met_none _ _ _)

pub slice_bounds-named_value-end : goal.slice_bounds-named_value-end
slice_bounds-named_value-end c = rest_bound c.args.c _ _ _ c.find_byte_from-end.ensures c.loop-names.invariant.0

pub moved-requires : goal.moved-requires
moved-requires c = omega (arith, piece_fits (named (chars_of c.args.names) white_space c.args.x c.args.name.now) (named_end (chars_of c.args.names) white_space c.args.x c.args.name.now) c.args.s.now c.loop-names.at _ c.named_value.ensures (omega (arith, c.find_byte_from-end.ensures)) (rest_bound c.args.c c.args.s.now c.loop-names.at _ c.find_byte_from-end.ensures c.loop-names.invariant.0))

pub returns-then-s-end : goal.returns-then-s-end
returns-then-s-end c = found_so c.loop-names.at c.loop-names.found c.named_value.ensures c.moved.ensures c.or-found.ensures ∙ met_last _ _ _ _ _ _ c.find_byte_from-end.ensures c.loop-names.invariant.0 c.if-s-end.true c.loop-names.invariant.1

pub loop-names-preserved : goal.loop-names-preserved
loop-names-preserved c = (omega arith, rw (found_so c.loop-names.at c.loop-names.found c.named_value.ensures c.moved.ensures c.or-found.ensures) (met_more _ _ _ _ _ _ c.find_byte_from-end.ensures c.loop-names.invariant.0 c.if-s-end.false c.loop-names.invariant.1))
