use mathlib.Core.Path.{refl, sym}
use Rattle.lookup_scan.proofs.Keys.{sized_is}
use Rattle.lookup_scan.proofs.Scan.{passed_first, passed_down, passed_all, passed_hit, passed_miss}
use Rattle.lookup_scan.proofs.last_hit.Goals as goal

pub loop-i-init : goal.loop-i-init
loop-i-init c = passed_first _ _ _ refl c.scan_from-below.ensures

pub returns-in-Some-hit_at : goal.returns-in-Some-hit_at
returns-in-Some-hit_at c =
    passed_hit _ _ _ refl c.hit_at.ensures
    (passed_down _ _ _ c.last_maybe.ensures (sym (sized_is _ c.size_of.ensures c.in_ok-n.was)) c.loop-i.invariant c.in-Some.is)
    c.in-Some-hit_at.is

pub loop-i-preserved : goal.loop-i-preserved
loop-i-preserved c =
    passed_miss _ _ _ refl c.hit_at.ensures
    (passed_down _ _ _ c.last_maybe.ensures (sym (sized_is _ c.size_of.ensures c.in_ok-n.was)) c.loop-i.invariant c.in-Some.is)
    c.in_default-hit_at.is

pub returns : goal.returns
returns c = passed_all _ _ _ c.last_maybe.ensures (sym (sized_is _ c.size_of.ensures c.in_ok-n.was)) c.loop-i.invariant c.in_default.is
