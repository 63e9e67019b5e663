-- `parse_int`: a number is a node of its own, and else the trimmed text goes to `parse_n`. A number has a byte, so there is a place for it.
use mathlib.Core.Path.{sym, ◌∙◌}
use native.Mathlib.Omega.{arith}
use Rattle.reading_shipped.proofs.Written.{wider, gives_int}
use Rattle.reading_shipped.proofs.Steps.{through, trimmed_le, int_is}
use Rattle.text_digits.proofs.Digits.{integer_some}
use Rattle.reading_shipped.specs.Shipped.{read_n}
use Rattle.reading_shipped.proofs.parse_int.Goals as goal

pub parse_n-requires : goal.parse_n-requires
parse_n-requires c = let at-trim = c.trim in
    omega (arith, c.requires, trimmed_le c.args.s.now _ at-trim.ensures.result_value)

pub returns-in_default-clause-read : goal.returns-in_default-clause-read
returns-in_default-clause-read c = let at-trim = c.trim in
    let at-integer-of = c.integer_of in
    through read_n c.args.s.now _ at-trim.ensures.result_value (int_is c.args.s.now _ (sym c.in_default.is ∙ at-integer-of.ensures)) c.parse_n.ensures.read

pub put-requires : goal.put-requires
put-requires c = let at-integer-of = c.integer_of in
    omega (arith, c.requires, integer_some c.args.s.now _ (sym at-integer-of.ensures ∙ c.in-Some.is))

pub returns-clause-read : goal.returns-clause-read
returns-clause-read c = let at-integer-of = c.integer_of in
    wider (int_is c.args.s.now _ (sym c.in-Some.is ∙ at-integer-of.ensures)) (omega arith)
    (gives_int _ (integer_some c.args.s.now _ (sym at-integer-of.ensures ∙ c.in-Some.is)) c.put.ensures.put)
