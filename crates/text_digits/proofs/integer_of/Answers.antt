-- `integer_of`: the digits after a plus sign, or all of them.
use mathlib.Core.Path.{◌∙◌}
use Rattle.text_digits.proofs.Digits.{integer_plus, integer_else}
use Rattle.text_digits.proofs.integer_of.Goals as goal

pub returns-then-eq : goal.returns-then-eq
returns-then-eq c = c.digits_of.ensures ∙ integer_plus c.args.s.now c.first.result _ c.first.ensures.value c.if-eq.ensures

pub returns : goal.returns
returns c = c.digits_of-2.ensures ∙ integer_else c.args.s.now c.first.result _ c.first.ensures.value c.if-eq.ensures
