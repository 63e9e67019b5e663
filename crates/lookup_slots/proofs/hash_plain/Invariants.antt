-- A text of less than eight bytes byte after byte, another in pieces. Assumes nothing.
use Prim.Native.Nat.{◌-◌}
use lib.ListN.{length}
use Rattle.lookup_slots.proofs.Turn.{Turn}
use Rattle.lookup_slots.proofs.hash_plain.Given as goal

abbrev pub invariant-loop-i : goal.invariant-loop-i
invariant-loop-i l = Turn l.start l.s l.h l.i l.factor l.cut l.x l.least

abbrev pub decreases-loop-i : goal.decreases-loop-i
decreases-loop-i l = length l.s - l.i
