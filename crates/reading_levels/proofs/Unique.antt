-- For each public function: its promise allows one result. Slices are lent to read only, so that they are unchanged is in their type.
-- Assumes nothing.
use mathlib.Core.Path.{sym, ◌∙◌}
use Rattle.promise.proofs.One.{One}
use Rattle.reading_levels.proofs.width_of.Reads as width_of_lem
use Rattle.reading_levels.proofs.width_of.Kinds as width-of-kinds
use Rattle.reading_levels.proofs.code_of.Reads as code_of_lem
use Rattle.reading_levels.proofs.code_of.Kinds as code-of-kinds
use Rattle.reading_levels.proofs.place_of.Reads as place_of
use Rattle.reading_levels.proofs.place_of.Kinds as place-of-kinds
use Rattle.reading_levels.proofs.row_of.Reads as row_of
use Rattle.reading_levels.proofs.row_of.Kinds as row-of-kinds

pub width_of_one : One 0 width-of-kinds.ps width-of-kinds.r width_of_lem.Post
width_of_one κs a u v x y p q = p ∙ sym q

pub code_of_one : One 0 code-of-kinds.ps code-of-kinds.r code_of_lem.Post
code_of_one κs a u v x y p q = p ∙ sym q

pub place_of_one : One 1 place-of-kinds.ps place-of-kinds.r place_of.Post
place_of_one κs a u v x y p q = p ∙ sym q

pub row_of_one : One 1 row-of-kinds.ps row-of-kinds.r row_of.Post
row_of_one κs a u v x y p q = p ∙ sym q
