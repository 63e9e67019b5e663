-- Each arm is the definition's, and the second turns the flag round. Assumes nothing.
use Rattle.text.proofs.Flags.{flags_not}
use Rattle.text.proofs.ends.Goals as goal

pub returns-in-Within : goal.returns-in-Within
returns-in-Within c = rw c.in-Within.is c.outside.ensures

pub returns-in-Without : goal.returns-in-Without
returns-in-Without c = rw c.in-Without.is (flags_not c.outside-in-Without.ensures)
