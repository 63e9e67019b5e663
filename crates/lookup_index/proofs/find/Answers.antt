-- Too few slots, or the hit in those that are used. Assumes nothing.
use mathlib.Core.Path.{ap, ◌∙◌}
use Rattle.std.specs.Result.{result_ok}
use Rattle.std.proofs.lemmas.Result.{err_from_is_err_and}
use Rattle.lookup_index.proofs.Lent.{part_length, power_used, sought_none, sought_hit}
use Rattle.lookup_index.proofs.find.Goals as goal

pub returns-in_err-size : goal.returns-in_err-size
returns-in_err-size c =
    let p = err_from_is_err_and c.from_residual.result c.from_residual.ensures.1 in
    p.1 ∙ sought_none c.args.file.now c.args.t c.args.slots.now c.room_for.ensures _ (c.ok_or.ensures.ok_part ∙ ap result_ok c.in_err-size.was)

pub slice_bounds-hit_in-end : goal.slice_bounds-hit_in-end
slice_bounds-hit_in-end c =
    part_length c.args.file.now c.args.t c.args.slots.now c.room_for.ensures (c.ok_or.ensures.ok_part ∙ ap result_ok c.in_ok-size.was)

pub hit_in-requires : goal.hit_in-requires
hit_in-requires c =
    power_used c.args.file.now c.args.t c.args.slots.now c.room_for.ensures (c.ok_or.ensures.ok_part ∙ ap result_ok c.in_ok-size.was)

pub returns : goal.returns
returns c =
    sought_hit _ _ _ c.room_for.ensures (c.ok_or.ensures.ok_part ∙ ap result_ok c.in_ok-size.was) _ c.hit_in.ensures
