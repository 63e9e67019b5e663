-- `code_of`: the table's codes are those of the definition's rows.
use borrow.Author.Rules.{rules}
use Rattle.rules.specs.Operator.{op_code}
use Rattle.reading_levels.proofs.code_of.Goals as goal

pub returns : goal.returns
unfolding op_code
returns c = search rules
