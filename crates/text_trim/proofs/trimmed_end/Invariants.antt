-- The loop's invariant: what the first e bytes are without the set's characters at their end, the whole text is. The measure is e. Assumes nothing.
use Prim.Native.Nat.{◌≤◌}
use lib.ListN.{length}
use Rattle.text_trim.proofs.Trimming.{Cut}
use Rattle.text_trim.proofs.trimmed_end.Given as goal

abbrev pub invariant-loop-set : goal.invariant-loop-set
invariant-loop-set l = (l.e ≤ length l.s) × Cut l.set l.s l.e

abbrev pub decreases-loop-set : goal.decreases-loop-set
decreases-loop-set l = l.e
