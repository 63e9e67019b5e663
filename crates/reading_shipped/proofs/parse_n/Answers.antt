-- `parse_n`: the text is n, or it has no reading.
use native.Mathlib.Omega.{arith}
use Rattle.reading_shipped.proofs.Written.{wider, gives_none, gives_var}
use Rattle.reading_shipped.proofs.Steps.{n_long, n_other, n_is}
use Rattle.reading_shipped.proofs.parse_n.Goals.{then-s-ne1-via-then-s-ne1, then-s-ne1-via-else-s-ne1+then-s-ne110}
use Rattle.reading_shipped.proofs.parse_n.Goals as goal

pub returns-then-s-ne1-clause-read : goal.returns-then-s-ne1-clause-read
returns-then-s-ne1-clause-read c = elim c.then-s-ne1.branch [
  | then-s-ne1-via-then-s-ne1 w ↦ gives_none (n_long c.args.s.now w.if-s-ne1.true)
  | then-s-ne1-via-else-s-ne1+then-s-ne110 w ↦ gives_none (n_other c.args.s.now w.if-s-ne1.false w.if-s-ne110.true)
]

pub returns-clause-read : goal.returns-clause-read
returns-clause-read c = wider (n_is c.args.s.now c.if-s-ne1.false c.if-s-ne110.false) (omega arith) (gives_var {n = 1} (omega arith) c.put.ensures.put)
