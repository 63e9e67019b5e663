-- Each public function's promise fixes its result: any two results that it allows on the same input are equal. `Post` is the promise
-- as the check reads it from the source. Assumes nothing.
use mathlib.Core.Path.{sym, ◌∙◌}
use Rattle.promise.proofs.One.{One}
use Rattle.lookup_why.proofs.explain.Reads as explain
use Rattle.lookup_why.proofs.explain.Kinds as explain-kinds
use Rattle.lookup_why.proofs.reason_of.Reads as reason-of
use Rattle.lookup_why.proofs.reason_of.Kinds as reason-of-kinds

pub explain_one : One 3 explain-kinds.ps explain-kinds.r explain.Post
explain_one κs a u v x y p q = p ∙ sym q

pub reason_of_one : One 0 reason-of-kinds.ps reason-of-kinds.r reason-of.Post
reason_of_one κs a u v x y p q = p ∙ sym q
