-- For each public function: its promise allows one result. What is lent is lent to read only, so that it is unchanged is in its type.
-- Assumes nothing.
use mathlib.Core.Path.{sym, ◌∙◌}
use Rattle.promise.proofs.One.{One}
use Rattle.text_utf8.proofs.is_utf8.Reads as is-utf8
use Rattle.text_utf8.proofs.is_utf8.Kinds as is-utf8-kinds

pub is_utf8_one : One 1 is-utf8-kinds.ps is-utf8-kinds.r is-utf8.Post
is_utf8_one κs a u v x y p q = p ∙ sym q
