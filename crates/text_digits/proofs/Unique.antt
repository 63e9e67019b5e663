-- For each public function: its promise allows one result. Slices are lent to read only, so that they are unchanged is in their type.
-- Assumes nothing.
use mathlib.Core.Path.{sym, ◌∙◌}
use Rattle.promise.proofs.One.{One}
use Rattle.text_digits.proofs.is_digit.Reads as is_digit
use Rattle.text_digits.proofs.is_digit.Kinds as is-digit-kinds
use Rattle.text_digits.proofs.digit_on.Reads as digit-on
use Rattle.text_digits.proofs.digit_on.Kinds as digit-on-kinds
use Rattle.text_digits.proofs.digits_of.Reads as digits_of
use Rattle.text_digits.proofs.digits_of.Kinds as digits-of-kinds
use Rattle.text_digits.proofs.integer_of.Reads as integer-of
use Rattle.text_digits.proofs.integer_of.Kinds as integer-of-kinds

pub is_digit_one : One 0 is-digit-kinds.ps is-digit-kinds.r is_digit.Post
is_digit_one κs a u v x y p q = p ∙ sym q

pub digit_on_one : One 0 digit-on-kinds.ps digit-on-kinds.r digit-on.Post
digit_on_one κs a u v x y p q = p ∙ sym q

pub digits_of_one : One 1 digits-of-kinds.ps digits-of-kinds.r digits_of.Post
digits_of_one κs a u v x y p q = p ∙ sym q

pub integer_of_one : One 1 integer-of-kinds.ps integer-of-kinds.r integer-of.Post
integer_of_one κs a u v x y p q = p ∙ sym q
