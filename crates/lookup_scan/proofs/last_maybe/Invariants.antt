-- What was passed has no key of n bytes. Assumes nothing.
use Rattle.lookup_scan.proofs.Scan.{Down}
use Rattle.lookup_scan.proofs.last_maybe.Given as goal

abbrev pub invariant-loop-i : goal.invariant-loop-i
invariant-loop-i l = Down l.file l.t l.below l.n l.i
