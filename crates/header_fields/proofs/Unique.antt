-- For each public function: its promise allows one result. Slices are lent to read only, so that they are unchanged is in their type.
-- Assumes nothing.
use mathlib.Core.Path.{sym, ◌∙◌}
use Rattle.promise.proofs.One.{One}
use Rattle.header_fields.proofs.moved.Reads as moved
use Rattle.header_fields.proofs.moved.Kinds as moved-kinds
use Rattle.header_fields.proofs.last_of.Reads as last_of
use Rattle.header_fields.proofs.last_of.Kinds as last-of-kinds
use Rattle.header_fields.proofs.lines_ok.Reads as lines_ok
use Rattle.header_fields.proofs.lines_ok.Kinds as lines-ok-kinds

pub moved_one : One 0 moved-kinds.ps moved-kinds.r moved.Post
moved_one κs a u v x y p q = p ∙ sym q

pub last_of_one : One 2 last-of-kinds.ps last-of-kinds.r last_of.Post
last_of_one κs a u v x y p q = p ∙ sym q

pub lines_ok_one : One 1 lines-ok-kinds.ps lines-ok-kinds.r lines_ok.Post
lines_ok_one κs a u v x y p q = p ∙ sym q
