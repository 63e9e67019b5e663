-- The first of the slots lent are filled, or none is written. Assumes nothing.
use Prim.Native.Nat.{ℕ}
use mathlib.Core.Path.{◌≡◌, refl, sym, ap, ◌∙◌}
use Rattle.std.specs.Prelude.{Option, Result, Err}
use Rattle.std.specs.Option.{ok_or}
use Rattle.lookup_index.specs.declared.Unbuilt.{Unbuilt}
use Rattle.lookup_index.specs.declared.Unbuilt.TheVariants as unbuilt
use Rattle.std.specs.Result.{result_ok}
use Rattle.std.proofs.lemmas.Result.{err_from_is_err_and}
use Rattle.lookup_index.proofs.Lent.{room_fits, part_length, power_used, build_stale, build_none, build_done, given_back}
use Rattle.lookup_index.proofs.build.Goals as goal

pub returns-then-file-t : goal.returns-then-file-t
returns-then-file-t c = record { result = build_stale _ _ _ c.if-file-t.true; left = refl }

pub returns-in_err-size : goal.returns-in_err-size
returns-in_err-size c =
    let p = err_from_is_err_and c.from_residual.result c.from_residual.ensures.1 in
    let e = c.ok_or.ensures.ok_part ∙ ap result_ok c.in_err-size.was in
    let z : ◌≡◌ {A = Result Unit Unbuilt} (Err c.in_err-size.field-0.0) (Err unbuilt.TooFewSlots) =
    cc (sym c.in_err-size.was ∙ c.ok_or.ensures.value ∙ ap (λ (o : Option ℕ). ok_or o unbuilt.TooFewSlots) e)
    in
    rw (p.1, p.2) (record {
      result = z ∙ build_none c.args.file.now c.args.t c.args.slots.now c.room_for.ensures c.if-file-t.false e;
      left = refl;
    })

pub slice_bounds-fill-end : goal.slice_bounds-fill-end
slice_bounds-fill-end c =
    room_fits c.args.file.now c.args.t c.args.slots.now c.room_for.ensures (c.ok_or.ensures.ok_part ∙ ap result_ok c.in_ok-size.was)

pub slice_bounds-fill-end-2 : goal.slice_bounds-fill-end-2
slice_bounds-fill-end-2 c =
    part_length c.args.file.now c.args.t c.args.slots.now c.room_for.ensures (c.ok_or.ensures.ok_part ∙ ap result_ok c.in_ok-size.was)

pub fill-requires : goal.fill-requires
fill-requires c =
    power_used c.args.file.now c.args.t c.args.slots.now c.room_for.ensures (c.ok_or.ensures.ok_part ∙ ap result_ok c.in_ok-size.was)

pub returns : goal.returns
returns c =
    let e = c.ok_or.ensures.ok_part ∙ ap result_ok c.in_ok-size.was in
    record {
      result = build_done c.args.file.now c.args.t c.args.slots.now c.room_for.ensures e c.if-file-t.false;
      left = given_back c.args.file.now c.args.t c.args.slots.now c.room_for.ensures e c.fill.ensures;
    }
