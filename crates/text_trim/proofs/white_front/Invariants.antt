-- The loop's invariant: the first n bytes are of the set's characters. The measure is what is left. Assumes nothing.
use Prim.Native.Nat.{◌≤◌, ◌-◌}
use lib.ListN.{length}
use Rattle.text_trim.specs.Trim.{chars_of}
use Rattle.text_trim.proofs.Trimming.{Over}
use Rattle.text_trim.proofs.white_front.Given as goal

abbrev pub invariant-loop-set : goal.invariant-loop-set
invariant-loop-set l = (l.n ≤ length l.s) × Over (chars_of l.set) l.s l.n

abbrev pub decreases-loop-set : goal.decreases-loop-set
decreases-loop-set l = length l.s - l.n
