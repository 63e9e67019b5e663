-- As many segments as the form are passed over. Assumes nothing.
use Prim.Native.Nat.{◌+◌, ◌-◌}
use mathlib.Core.Path.{◌≡◌}
use Rattle.container_layout.proofs.Segments.{sought_here, sought_none, sought_on}
use native.Mathlib.Omega.{arith}
use Rattle.container_layout.proofs.segment_in.Goals as goal

pub returns-then-translation-end : goal.returns-then-translation-end
returns-then-translation-end c =
    sought_none _ _ _ _ _ _ c.loop-passed.invariant.2 c.loop-passed.invariant.0 c.loop-passed.invariant.1 (omega arith) c.if-translation-end.true

pub loop-passed-preserved : goal.loop-passed-preserved
loop-passed-preserved c =
    let z : c.args.form - (c.loop-passed.passed + 1) ≡ c.args.form - c.loop-passed.passed - 1 = omega arith in (
      omega arith,
      rw z (sought_on _ _ _ _ _ _ c.loop-passed.invariant.2 c.loop-passed.invariant.0 c.loop-passed.invariant.1 (omega arith) c.if-translation-end.false),
      c.find_byte_from-end.ensures,
    )

pub returns : goal.returns
returns c = sought_here _ _ _ _ _ _ c.loop-passed.invariant.2 c.loop-passed.invariant.0 c.loop-passed.invariant.1 (omega arith)
