use mathlib.Core.Path.{◌≡◌}
use lib.ListN.{length, get_or}
use native.Mathlib.Omega.{arith}
use Rattle.reading_scan.proofs.Scanned.{end_on, end_end, deeper_le, further_le}
use Rattle.reading_scan.proofs.end_of.Goals as goal

pub loop-ch-preserved : goal.loop-ch-preserved
loop-ch-preserved c =
    let at = c.loop-ch in
    let ch = get_or c.args.s.now at.ch-index 0 in (
      omega (arith, c.level_on-level.ensures, deeper_le at.level ch),
      omega (arith, c.index_on-index.ensures, further_le at.level at.index ch),
      end_on _ _ _ _ _ _ _ c.loop-ch-test.true at.invariant.2 c.level_on-level.ensures c.index_on-index.ensures,
    )

pub returns : goal.returns
returns c =
    let all : c.loop-ch.ch-index ≡ length c.args.s.now = omega arith in end_end _ _ _ _ _ all c.loop-ch.invariant.2
