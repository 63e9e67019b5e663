-- The entries are passed from the last one down, by the quick test or by their key. Assumes nothing.
use Rattle.lookup_scan.specs.Keys.{bytes_of}
use Rattle.lookup_scan.proofs.Scan.{Passed}
use Rattle.lookup_scan.proofs.last_hit.Given as goal

abbrev pub invariant-loop-i : goal.invariant-loop-i
invariant-loop-i l = Passed l.file l.t (bytes_of l.fn.key) l.below

abbrev pub decreases-loop-i : goal.decreases-loop-i
decreases-loop-i l = l.below
