-- The table's entries are the ranks (Ranks.antt).
use mathlib.Core.Path.{◌≡◌, ap, ◌∙◌}
use Prim.Native.Nat.{ℕ}
use native.Mathlib.Omega.{arith}
use lib.ListN.{get_or}
use Rattle.rules.specs.Operator.{op_code}
use Rattle.rules.proofs.Operators.{code_in}
use Rattle.reading_tokens.proofs.Ranks.{ranks, ranked}
use Rattle.reading_tokens.proofs.rank_of.Goals as goal

pub bounds-from : goal.bounds-from
bounds-from c = omega (arith, c.requires.is, code_in c.requires.op, c.from.ensures)

pub returns : goal.returns
returns c = record { is = λ op e. let d : c.from.result ≡ op_code op = omega (arith, c.from.ensures) in ap (λ (i : ℕ). get_or ranks i 0) d ∙ ranked op }
