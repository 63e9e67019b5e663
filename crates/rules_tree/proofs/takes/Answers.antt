-- `rules_tree::takes` meets its contract: the operand lies below and is not marked, or it is not taken.
use Rattle.rules_tree.proofs.Marks.{took_high, took_marked, took_now}
use native.Mathlib.Omega.{arith}
use Rattle.rules_tree.proofs.takes.Goals as goal

pub returns-then-p-q : goal.returns-then-p-q
returns-then-p-q c = took_high _ c.place-q.ensures (omega arith)

pub returns-then-marks-q-ne0 : goal.returns-then-marks-q-ne0
returns-then-marks-q-ne0 c = took_marked _ c.place-q.ensures (omega arith) c.if-marks-q-ne0.true

pub returns : goal.returns
returns c = took_now _ c.place-q.ensures (omega arith) c.if-marks-q-ne0.false
