-- Each public function's promise fixes its result: any two results that it allows on the same input are equal. `Post` is the promise
-- as the check reads it from the source. Assumes nothing.
use mathlib.Core.Path.{sym, ◌∙◌}
use Rattle.promise.proofs.One.{One}
use Rattle.container_cost.proofs.cost.Reads as cost
use Rattle.container_cost.proofs.cost.Kinds as cost-kinds

pub cost_one : One 1 cost-kinds.ps cost-kinds.r cost.Post
cost_one κs a u v x y p q = p ∙ sym q
