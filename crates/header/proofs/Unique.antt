-- For each public function: its promise allows one result. Slices are lent to read only, so that they are unchanged is in their type.
-- Assumes nothing.
use mathlib.Core.Path.{sym, ◌∙◌}
use Rattle.promise.proofs.One.{One}
use Rattle.header.proofs.parse_metadata.Reads as parse-metadata
use Rattle.header.proofs.parse_metadata.Kinds as parse-metadata-kinds
use Rattle.header.proofs.is_utf8_label.Reads as is-utf8-label
use Rattle.header.proofs.is_utf8_label.Kinds as is-utf8-label-kinds

pub parse_metadata_one : One 1 parse-metadata-kinds.ps parse-metadata-kinds.r parse-metadata.Post
parse_metadata_one κs a u v x y p q = p ∙ sym q

pub is_utf8_label_one : One 1 is-utf8-label-kinds.ps is-utf8-label-kinds.r is-utf8-label.Post
is_utf8_label_one κs a u v x y p q = p ∙ sym q
