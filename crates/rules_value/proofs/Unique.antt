-- Each public function's promise fixes its result: any two results that it allows on the same input are equal. `Post` is the promise as the
-- check reads it from the source.
use mathlib.Core.Path.{sym, ◌∙◌}
use Rattle.promise.proofs.One.{One}
use Rattle.rules_value.proofs.value_at.Reads as value-at
use Rattle.rules_value.proofs.value_at.Kinds as value-at-kinds
use Rattle.rules_value.proofs.resolve.Reads as resolve
use Rattle.rules_value.proofs.resolve.Kinds as resolve-kinds

pub value_at_one : One 1 value-at-kinds.ps value-at-kinds.r value-at.Post
value_at_one κs a u v x y p q = p ∙ sym q

pub resolve_one : One 1 resolve-kinds.ps resolve-kinds.r resolve.Post
resolve_one κs a u v x y p q = p ∙ sym q
