-- What the stages give, or the empty catalog. Assumes nothing.
use Rattle.container.proofs.Stages.{as_loading, as_empty}
use Rattle.container.specs.Catalog.{load}
use Rattle.container.proofs.load_lent.Goals as goal

pub returns-in-Ok-clause-loads : goal.returns-in-Ok-clause-loads
returns-in-Ok-clause-loads c = as_loading (load c.args.options c.args.rule.now c.args.file.now) c.test_into.ensures.gives c.in-Ok.is

pub returns-in-Err-clause-loads : goal.returns-in-Err-clause-loads
returns-in-Err-clause-loads c = as_empty (load c.args.options c.args.rule.now c.args.file.now) c.test_into.ensures.gives c.in-Err.is c.empty_lent.ensures.empties
