use mathlib.Core.Path.{sym}
use Rattle.rules_text.proofs.Laid.{reworded, all_put}
use Rattle.rules_text.proofs.Text.put_sign.Goals as goal

pub returns : goal.returns
returns c = reworded (sym c.sign-b-items.ensures) (all_put _ _ _ c.loop-b-test.false c.loop-b.invariant)
