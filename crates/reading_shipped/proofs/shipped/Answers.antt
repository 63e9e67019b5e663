-- `shipped`: `parse` at place 0.
use Rattle.reading_shipped.proofs.Filled.{from_zero}
use Rattle.reading_shipped.proofs.shipped.Goals as goal

pub returns-clause-read : goal.returns-clause-read
returns-clause-read c = from_zero _ _ c.parse.ensures.read
