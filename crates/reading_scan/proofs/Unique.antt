-- For each public function: its promise allows one result. Slices are lent to read only, so that they are unchanged is in their type.
-- Assumes nothing.
use mathlib.Core.Path.{sym, ◌∙◌}
use Rattle.promise.proofs.One.{One}
use Rattle.reading_scan.proofs.first_of.Reads as first_of
use Rattle.reading_scan.proofs.first_of.Kinds as first-of-kinds
use Rattle.reading_scan.proofs.index_of.Reads as index_of
use Rattle.reading_scan.proofs.index_of.Kinds as index-of-kinds
use Rattle.reading_scan.proofs.end_of.Reads as end_of_lem
use Rattle.reading_scan.proofs.end_of.Kinds as end-of-kinds

pub first_of_one : One 1 first-of-kinds.ps first-of-kinds.r first_of.Post
first_of_one κs a u v x y p q = p ∙ sym q

pub index_of_one : One 2 index-of-kinds.ps index-of-kinds.r index_of.Post
index_of_one κs a u v x y p q = p ∙ sym q

pub end_of_one : One 1 end-of-kinds.ps end-of-kinds.r end_of_lem.Post
end_of_one κs a u v x y p q = p ∙ sym q
