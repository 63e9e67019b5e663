use mathlib.Core.Path.{sym, ◌∙◌}
use Rattle.reading_tokens.proofs.Lexed.{skip_on, skip_stop, skip_end}
use Rattle.reading_tokens.proofs.skip.Goals as goal

pub returns-then-not-is_blank : goal.returns-then-not-is_blank
returns-then-not-is_blank c = skip_stop _ _ _ c.loop-i.invariant c.loop-i-test.true (sym c.is_blank.ensures ∙ c.if-not-is_blank.true)

pub loop-i-preserved : goal.loop-i-preserved
loop-i-preserved c = skip_on _ _ _ c.loop-i.invariant c.loop-i-test.true (sym c.is_blank.ensures ∙ c.if-not-is_blank.false)

pub returns : goal.returns
returns c = c.max.ensures ∙ skip_end _ _ _ c.loop-i.invariant c.loop-i-test.false c.loop-i.auto.i-end
