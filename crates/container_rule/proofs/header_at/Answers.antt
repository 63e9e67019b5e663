-- Segment 0 ends at the first NUL; the rule's place in it is moved. Assumes nothing.
use mathlib.Core.Path.{ap, ◌∙◌}
use native.Mathlib.Omega.{arith}
use Rattle.std.specs.Prelude.{Option, Ok, Err}
use Rattle.std.proofs.lemmas.Result.{err_from_is_err_and}
use Rattle.text.specs.declared.Stretch.{Stretch}
use Rattle.container_rule.proofs.Headers.{header_in, start_fits, header_told}
use Rattle.container_rule.proofs.header_at.Goals as goal

pub overflow_add-stop : goal.overflow_add-stop
overflow_add-stop c = omega (arith, header_in c.args.file.now c.args.p.start c.args.p.len c.requires c.find_byte.ensures)

pub slice_bounds-parse_header-end : goal.slice_bounds-parse_header-end
slice_bounds-parse_header-end c = header_in c.args.file.now c.args.p.start c.args.p.len c.requires c.find_byte.ensures

pub returns-in_err-first : goal.returns-in_err-first
returns-in_err-first c =
    let k = err_from_is_err_and c.from_residual.result c.from_residual.ensures.1 in
    header_told c.args.file.now c.args.p.start c.args.p.len c.requires c.find_byte.ensures c.args.forced c.args.utf8 c.in_err-first.ensures (k.1 ∙ ap Err k.2)

pub moved-requires : goal.moved-requires
moved-requires c = omega (arith, start_fits c.args.file.now c.args.p.start c.args.p.len c.requires c.find_byte.ensures c.args.forced c.args.utf8 c.in_ok-first.ensures)

pub returns : goal.returns
returns c =
    header_told c.args.file.now c.args.p.start c.args.p.len c.requires c.find_byte.ensures c.args.forced c.args.utf8 c.in_ok-first.ensures
    (ap (λ (q : Option Stretch). Ok (record { rule = q; forms = c.in_ok-first.first.forms })) c.moved.ensures)
