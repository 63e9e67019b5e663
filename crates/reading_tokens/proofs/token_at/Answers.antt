-- Blanks first, then the byte that begins a token: a digit, an operator of two bytes, one of one byte, or any other.
use mathlib.Core.Path.{sym, ◌∙◌}
use Rattle.text.proofs.Walk.{part_from}
use Rattle.reading_tokens.proofs.Lexed.{at_end, at_digit, at_two, at_one, at_mark}
use Rattle.reading_tokens.proofs.token_at.Goals as goal

pub returns-in_default : goal.returns-in_default
returns-in_default c = at_end _ _ c.skip-i.ensures c.in_default.ensures.lookup.3

pub returns-then-is_digit : goal.returns-then-is_digit
returns-then-is_digit c =
    let got = c.in-Some.ensures.lookup.3 in
    at_digit _ _ c.skip-i.ensures got.0 (rw (← got.1 0) (sym c.is_digit.ensures ∙ c.if-is_digit.true)) c.integer.ensures

pub returns-in-Some-pair : goal.returns-in-Some-pair
returns-in-Some-pair c =
    let got = c.in-Some.ensures.lookup.3 in
    at_two _ _ c.skip-i.ensures got.0 (got.1 0) (sym c.is_digit.ensures ∙ c.if-is_digit.false) (rw part_from at c.in-Some-pair.ensures)

pub returns-in-Some-single : goal.returns-in-Some-single
returns-in-Some-single c =
    let got = c.in-Some.ensures.lookup.3 in
    at_one _ _ c.skip-i.ensures got.0 (got.1 0) (sym c.is_digit.ensures ∙ c.if-is_digit.false) (rw part_from at c.in_default-pair.ensures) c.in-Some-single.ensures

pub returns-in-None : goal.returns-in-None
returns-in-None c =
    let got = c.in-Some.ensures.lookup.3 in
    at_mark _ _ c.skip-i.ensures got.0 (got.1 0) (sym c.is_digit.ensures ∙ c.if-is_digit.false) (rw part_from at c.in_default-pair.ensures) c.in-None.ensures
