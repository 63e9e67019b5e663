-- For each public function: its promise allows one result. Slices are lent to read only, so that they are unchanged is in their type.
-- Assumes nothing.
use mathlib.Core.Path.{sym, ◌∙◌}
use Rattle.promise.proofs.One.{One}
use Rattle.text.proofs.span.Reads as span
use Rattle.text.proofs.span.Kinds as span-kinds
use Rattle.text.proofs.all_within.Reads as all-within
use Rattle.text.proofs.all_within.Kinds as all-within-kinds
use Rattle.text.proofs.find_byte_from.Reads as find-byte-from
use Rattle.text.proofs.find_byte_from.Kinds as find-byte-from-kinds
use Rattle.text.proofs.find_byte.Reads as find-byte
use Rattle.text.proofs.find_byte.Kinds as find-byte-kinds
use Rattle.text.proofs.starts_with.Reads as starts_with
use Rattle.text.proofs.starts_with.Kinds as starts-with-kinds
use Rattle.text.proofs.equal.Reads as equal
use Rattle.text.proofs.equal.Kinds as equal-kinds
use Rattle.text.proofs.same_from.Reads as same_from
use Rattle.text.proofs.same_from.Kinds as same-from-kinds
use Rattle.text.proofs.equal_small.Reads as equal_small_lem
use Rattle.text.proofs.equal_small.Kinds as equal-small-kinds
use Rattle.text.proofs.find.Reads as find
use Rattle.text.proofs.find.Kinds as find-kinds

pub span_one : One 1 span-kinds.ps span-kinds.r span.Post
span_one κs a u v x y p q = p ∙ sym q

pub all_within_one : One 1 all-within-kinds.ps all-within-kinds.r all-within.Post
all_within_one κs a u v x y p q = p ∙ sym q

pub find_byte_from_one : One 1 find-byte-from-kinds.ps find-byte-from-kinds.r find-byte-from.Post
find_byte_from_one κs a u v x y p q = p ∙ sym q

pub find_byte_one : One 1 find-byte-kinds.ps find-byte-kinds.r find-byte.Post
find_byte_one κs a u v x y p q = p ∙ sym q

pub starts_with_one : One 2 starts-with-kinds.ps starts-with-kinds.r starts_with.Post
starts_with_one κs a u v x y p q = p ∙ sym q

pub equal_one : One 2 equal-kinds.ps equal-kinds.r equal.Post
equal_one κs a u v x y p q = p ∙ sym q

pub same_from_one : One 2 same-from-kinds.ps same-from-kinds.r same_from.Post
same_from_one κs a u v x y p q = p ∙ sym q

pub equal_small_one : One 2 equal-small-kinds.ps equal-small-kinds.r equal_small_lem.Post
equal_small_one κs a u v x y p q = p ∙ sym q

pub find_one_lem : One 2 find-kinds.ps find-kinds.r find.Post
find_one_lem κs a u v x y p q = p ∙ sym q
