-- The loop's invariant: the bytes before i are neither NUL nor byte 4. The measure is what is left. Assumes nothing.
use Prim.Native.Nat.{◌-◌}
use lib.ListN.{length}
use Rattle.text.proofs.Front.{Counted}
use Rattle.container_layout.specs.Private.{plain}
use Rattle.container_layout.proofs.find_mark.Given as goal

abbrev pub invariant-loop-i : goal.invariant-loop-i
invariant-loop-i l = Counted plain l.o 0 l.i

abbrev pub decreases-loop-i : goal.decreases-loop-i
decreases-loop-i l = length l.o - l.i
