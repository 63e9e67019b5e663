-- The loop's invariant: the entries from i on decide. Assumes nothing.
use Rattle.container.proofs.Rest.{Left}
use Rattle.container.proofs.parse_rest.Given as goal

abbrev pub invariant-loop-i : goal.invariant-loop-i
invariant-loop-i l = Left l.file l.t l.i
