-- The bytes before the index were put.
use lib.ListN.{take}
use Rattle.rules_text.specs.Private.{On, Puts}
use Rattle.rules_text.proofs.Text.put_sign.Given as goal

abbrev pub invariant-loop-b : goal.invariant-loop-b
invariant-loop-b l = On (Puts (take l.b-index l.b-items)) l.fn.self l.self
