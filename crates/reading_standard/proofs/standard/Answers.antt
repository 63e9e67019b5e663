-- The loosest level from the first byte on, and then the end of the text.
use Rattle.reading_tokens.proofs.Nexts.{ended}
use Rattle.reading_standard.proofs.Whole.{whole_bad, whole_rest, whole_end}
use Rattle.reading_standard.proofs.standard.Goals as goal

pub returns-in_err-k-clause-read : goal.returns-in_err-k-clause-read
returns-in_err-k-clause-read c = rw c.from_residual.ensures (whole_bad c.in_err-k.ensures.read)

pub returns-in_default-clause-read : goal.returns-in_default-clause-read
returns-in_default-clause-read c = whole_rest c.in_ok-k.ensures.read c.token_at.result c.token_at.ensures c.in_default.not-End

pub returns-in-End-clause-read : goal.returns-in-End-clause-read
returns-in-End-clause-read c = whole_end c.in_ok-k.ensures.read (ended _ _ c.in-End.ensures)
