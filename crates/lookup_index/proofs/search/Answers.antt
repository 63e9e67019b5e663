use native.Mathlib.Omega.{arith}
use Rattle.lookup_scan.specs.Keys.{bytes_of}
use Rattle.lookup_index.proofs.Searched.{searched_first, searched_on, stop_end, stop_empty, stop_named}
use Rattle.lookup_index.proofs.search.Goals as goal

pub loop-passed-init : goal.loop-passed-init
loop-passed-init c =
    searched_first c.args.file.now c.args.t c.args.slots.now (bytes_of c.args.key) c.requires.h_value c.home-p.ensures.0 c.home-p.ensures.1 (omega arith)

pub returns-then-x-eq0 : goal.returns-then-x-eq0
returns-then-x-eq0 c = stop_empty _ _ _ _ c.loop-passed.invariant (omega arith) c.if-x-eq0.true

pub returns-in-Some : goal.returns-in-Some
returns-in-Some c = stop_named _ _ _ _ c.loop-passed.invariant (omega arith) c.named_by.ensures c.in-Some.is

pub loop-passed-preserved : goal.loop-passed-preserved
loop-passed-preserved c =
    searched_on _ _ _ _ c.loop-passed.invariant (omega arith) c.named_by.ensures c.if-x-eq0.false c.in_default.is c.next_of-p.ensures (omega arith)

pub returns : goal.returns
returns c = stop_end _ _ _ _ c.loop-passed.invariant (omega arith)
