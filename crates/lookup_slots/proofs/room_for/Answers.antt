-- Too few slots, or enough. Assumes nothing.
use native.Mathlib.Omega.{arith}
use Rattle.lookup_slots.proofs.Grown.{too_few, enough}
use Rattle.lookup_slots.proofs.room_for.Goals as goal

pub returns-then-lent-size : goal.returns-then-lent-size
returns-then-lent-size c = too_few _ _ (omega (arith, c.used_by-size.ensures, c.if-lent-size.true))

pub returns : goal.returns
returns c = enough _ _ c.used_by-size.ensures c.if-lent-size.false
