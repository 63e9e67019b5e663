-- Safe, and ends: each case takes at least two bytes of the part. Assumes nothing.
use Rattle.std.proofs.Common.{◌-◌}
use Rattle.test_replay.proofs.replay.Given as goal

abbrev pub decreases-loop-at : goal.decreases-loop-at
decreases-loop-at g l = l.n - l.at
