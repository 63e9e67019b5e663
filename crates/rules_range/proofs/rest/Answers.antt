-- `rules_range::rest` meets its contract: % on n, and on the integer.
use mathlib.Core.Path.{refl, ap, ◌∙◌}
use native.Mathlib.Omega.{arith}
use Rattle.rules.specs.Tree.{rem}
use Rattle.rules.specs.Operator.{op_of, op_at}
use Rattle.rules.specs.Range.{full_range, bin_range}
use Rattle.std.specs.Prelude.{ℕ, Option}
use Rattle.rules_range.proofs.Ranges.{range_of_lem}
use Rattle.rules_range.proofs.rest.Goals as goal

pub returns : goal.returns
unfolding op_of op_at
returns c = c.binary.ensures.is rem refl ∙ ap (λ (y : Option (ℕ × ℕ)). bin_range rem full_range y) (range_of_lem c.args.m c.args.m (omega arith))
