-- For each public function: its promise allows one result. Slices are lent to read only, so that they are unchanged is in their type.
-- Assumes nothing.
use mathlib.Core.Path.{sym, ◌∙◌}
use Rattle.promise.proofs.One.{One}
use Rattle.header_forms.proofs.forms_at.Reads as forms-at
use Rattle.header_forms.proofs.forms_at.Kinds as forms-at-kinds

pub forms_at_one : One 1 forms-at-kinds.ps forms-at-kinds.r forms-at.Post
forms_at_one κs a u v x y p q = p ∙ sym q
