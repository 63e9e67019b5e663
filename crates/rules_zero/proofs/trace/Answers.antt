-- The value decides; where it is a zero divisor the nodes are a tree, and the node is sought. Assumes nothing.
use mathlib.Core.Path.{ap, ◌∙◌}
use Rattle.std.specs.Prelude.{ℕ, Err}
use Rattle.rules_zero.specs.declared.Fault.TheVariants.{ZeroDivisor}
use Rattle.rules_zero.proofs.Steps.{traces}
use Rattle.rules_zero.proofs.trace.Goals as goal

pub returns-in-Ok : goal.returns-in-Ok
returns-in-Ok c = traces _ _ _ _ c.resolve.ensures c.in-Ok.is

pub returns-in-Err-ZeroModulus : goal.returns-in-Err-ZeroModulus
returns-in-Err-ZeroModulus c = ap (λ (q : ℕ). Err (ZeroDivisor q)) c.zero_at.ensures ∙ traces _ _ _ _ c.resolve.ensures (c.in-Err-ZeroModulus.is ∙ ap Err c.in-Err-ZeroModulus.field-0-is)

pub returns-in-Err-NoTree : goal.returns-in-Err-NoTree
returns-in-Err-NoTree c = traces _ _ _ _ c.resolve.ensures (c.in-Err-NoTree.is ∙ ap Err c.in-Err-NoTree.field-0-is)
