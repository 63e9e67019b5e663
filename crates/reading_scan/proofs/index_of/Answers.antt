use mathlib.Core.Path.{◌≡◌, sym, ◌∙◌}
use lib.ListN.{length, get_or}
use native.Mathlib.Omega.{arith}
use Rattle.reading_scan.proofs.Scanned.{index_zero, index_on, index_here, index_end, counted_le, matched_le}
use Rattle.reading_scan.proofs.index_of.Goals as goal

pub loop-i-init : goal.loop-i-init
loop-i-init c = (omega arith, omega arith, omega arith, index_zero _ _)

pub returns-then-is_match : goal.returns-then-is_match
returns-then-is_match c =
    index_here _ _ _ _ _ _ c.loop-i.invariant.3 _ _ _ c.loop-i-test.true c.match_on-n.ensures c.count-opened.ensures c.count-closed.ensures c.requires
    (sym c.is_match.ensures ∙ c.if-is_match.true)

pub loop-i-preserved : goal.loop-i-preserved
loop-i-preserved c =
    let at = c.loop-i in
    let ch = get_or c.args.s.now at.i 0 in (
      omega (arith, c.match_on-n.ensures, matched_le c.args.pat.now at.n ch),
      omega (arith, c.count-opened.ensures, counted_le at.opened 40 ch),
      omega (arith, c.count-closed.ensures, counted_le at.closed 41 ch),
      index_on _ _ _ _ _ _ at.invariant.3 _ _ _ c.loop-i-test.true c.match_on-n.ensures c.count-opened.ensures c.count-closed.ensures
          (sym c.is_match.ensures ∙ c.if-is_match.false),
    )

pub returns : goal.returns
returns c =
    let all : c.loop-i.i ≡ length c.args.s.now = omega arith in index_end _ _ _ _ _ _ c.loop-i.invariant.3 all
