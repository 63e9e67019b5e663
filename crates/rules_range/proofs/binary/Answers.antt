-- `rules_range::binary` meets its contract: the definition at each operand's range.
use Rattle.rules_range.proofs.Ranges.{op_some}
use Rattle.rules_range.proofs.binary.Goals as goal

pub returns : goal.returns
returns c = record { is = λ op e. op_some op _ _ _ _ c.if-h-k.false c.if-m-l.false (c.ranged.ensures.is op e) c.in-Some.is c.ends-2.ensures }
