use mathlib.Core.Path.{◌≡◌, ◌∙◌}
use lib.ListN.{length}
use native.Mathlib.Omega.{arith}
use Rattle.lookup_slots.specs.Slots.{zeros}
use Rattle.lookup_index.proofs.Filled.{filled_first, filled_more, filled_end}
use Rattle.lookup_index.proofs.Lent.{power_same}
use Rattle.lookup_index.proofs.fill.Goals as goal

pub loop-i-init : goal.loop-i-init
loop-i-init c =
    let z : c.fill.new.self ≡ zeros (length c.args.slots.now) = c.fill.ensures.after (λ y e. e) in
    filled_first c.args.file.now c.args.t (length c.args.slots.now) _ z

pub put-requires : goal.put-requires
put-requires c = record {
  i_lt_count = omega (arith, c.wide-i-end.ensures.0);
  power = power_same (c.loop-i.auto.slots ∙ c.fill.ensures.len) c.requires;
}

pub loop-i-preserved : goal.loop-i-preserved
loop-i-preserved c = filled_more c.args.file.now c.args.t _ c.loop-i.invariant (omega (arith, c.wide-i-end.ensures.0)) c.put.ensures

pub returns : goal.returns
returns c = filled_end c.args.file.now c.args.t _ c.loop-i.invariant (length c.args.slots.now) (omega (arith, c.wide-i-end.ensures.0)) c.fill.ensures.len
