-- The public function's promise fixes its result: any two results that it allows on the same input are equal. `Post` is the promise as the
-- check reads it from the source. Assumes nothing.
use mathlib.Core.Path.{sym, ◌∙◌}
use Rattle.promise.proofs.One.{One}
use Rattle.rules_zero.proofs.trace.Reads as trace
use Rattle.rules_zero.proofs.trace.Kinds as trace-kinds

pub trace_one : One 1 trace-kinds.ps trace-kinds.r trace.Post
trace_one κs a u v x y p q = p ∙ sym q
