-- Safe, and ends: each lookup takes at least two bytes of the list. Assumes nothing.
use Prim.Native.Nat.{◌-◌}
use Rattle.test_replay.proofs.lookups_agree.Given as goal

abbrev pub invariant-loop-at : goal.invariant-loop-at
invariant-loop-at l = Unit {0}

abbrev pub decreases-loop-at : goal.decreases-loop-at
decreases-loop-at l = l.n - l.at
