-- A block more, and what is passed up to the next NUL; at the end there are no more NULs. Assumes nothing.
use native.Mathlib.Omega.{arith}
use Rattle.text.proofs.Cuts.{place_length}
use Rattle.lookup_why.proofs.Counted.{count_more, count_to, count_past, cut_count, ends_within}
use Rattle.lookup_why.proofs.count_in.Goals as goal

pub loop-at-init : goal.loop-at-init
loop-at-init c =
    let t = c.args.translation.now in
    (omega (arith, count_to t 0 {end = c.find_byte-at.result} (omega (arith, c.find_byte-at.ensures))), omega (arith, place_length 0 t, c.find_byte-at.ensures))

pub loop-at-preserved : goal.loop-at-preserved
loop-at-preserved c =
    let t = c.args.translation.now in (
      omega (arith, count_to t c.min-end.result c.find_byte_from-at.ensures, count_more t {i = c.loop-at.at} {end = c.min-end.result} (omega arith)),
      ends_within t c.min-end.result c.find_byte_from-at.ensures (omega arith),
    )

pub returns : goal.returns
returns c = omega (arith, count_past c.args.translation.now c.loop-at-test.false, cut_count c.args.translation.now)
