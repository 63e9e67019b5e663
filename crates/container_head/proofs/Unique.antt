-- Each public function's promise fixes its result: any two results that it allows on the same input are equal. `Post` is the promise
-- as the check reads it from the source. Assumes nothing.
use mathlib.Core.Path.{sym, ◌∙◌}
use Rattle.promise.proofs.One.{One}
use Rattle.container_head.proofs.parse_head.Reads as parse-head
use Rattle.container_head.proofs.parse_head.Kinds as parse-head-kinds

pub parse_head_one : One 1 parse-head-kinds.ps parse-head-kinds.r parse-head.Post
parse_head_one κs a u v x y p q = p ∙ sym q
