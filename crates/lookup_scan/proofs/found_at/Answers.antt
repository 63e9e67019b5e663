-- The key is sought in the original, and then the translation. Assumes nothing.
use Rattle.lookup_scan.proofs.Found.{found_hit}
use Rattle.lookup_scan.proofs.found_at.Goals as goal

pub returns : goal.returns
returns c = found_hit _ _ _ _ c.requires.0 c.requires.1 c.has_key.ensures c.if-not-has_key.false c.string_at.ensures c.in_ok-translation.was
