-- The cycle of the reading meets its contracts: what each function leaves to show. Assumes nothing.
use Prim.Native.Nat.{ℕ, ◌+◌}
use Rattle.reading_levels.proofs.Table.{has_sign, row_is, no_row}
use Rattle.reading_levels.specs.Levels.{row_at, rows}
use Rattle.reading_scan.proofs.Scanned.{index_fits, found_is, not_found}
use Rattle.reading_shipped.proofs.Fuel.{inside_length, parse_is}
use Rattle.reading_shipped.proofs.Levels.{match_in, level_row, level_rest}
use Rattle.reading_shipped.proofs.Steps.{Binary, cut_ternary, cut_binary, head_gives, tail_gives, no_colon, colon_ahead, choose_is, middle_gives, trimmed_le, through, first_some, parens_plain, parens_lone, parens_more, parens_whole, not_int, not_is, placed, in_text}
use Rattle.reading_shipped.proofs.Written.{as_read, gave, one_none, one_some, two_left, two_right, two_both, gives_none, three_first, three_second, three_third, three_all, wider}
use Rattle.reading_shipped.specs.Shipped.{level, inside, shipped, parens, read_int, read_not, bang, colon}
use lib.ListN.{length-take, length-drop}
use lib.Seq.{length-take-le}
use mathlib.Core.Path.{◌≡◌, refl, sym, ap}
use Rattle.std.specs.Prelude.{Some}
use native.Mathlib.Omega.{arith}
use borrow.Author.Rules.{rules}
use Rattle.reading_shipped.proofs.+parse_parse_level_parse_not_parse_parens_parse_row_parse_ternary.Goals.{parse_not-in_default-via-in-Some+in_default, parse_not-in_default-via-in_default}
use Rattle.reading_shipped.proofs.+parse_parse_level_parse_not_parse_parens_parse_row_parse_ternary.Goals as goal

-- `parse_level`: the first row with a match says how the text is cut, and without one it goes to `parse_not` (Levels).
pub parse_level-parse_row-requires : goal.parse_level-parse_row-requires
parse_level-parse_row-requires t c = let r = row_is c.args.s.now c.in-Some.ensures in
    (omega (arith, c.requires), record { known = r.1; match = match_in c.args.s.now _ r.0 r.1; few = c.requires })

pub parse_level-returns-in-Some-clause-read : goal.parse_level-returns-in-Some-clause-read
parse_level-returns-in-Some-clause-read t c = let r = row_is c.args.s.now c.in-Some.ensures in as_read (level_row c.args.s.now _ r.0 r.1) c.parse_row.ensures.read

pub parse_level-parse_not-requires : goal.parse_level-parse_not-requires
parse_level-parse_not-requires t c = omega (arith, c.requires, trimmed_le c.args.s.now _ c.trim.ensures.result_value)

pub parse_level-returns-in-None-clause-read : goal.parse_level-returns-in-None-clause-read
parse_level-returns-in-None-clause-read t c = through (read_not shipped) c.args.s.now _ c.trim.ensures.result_value (level_rest c.args.s.now _ refl (no_row c.args.s.now c.in-None.ensures)) c.parse_not.ensures.read

-- `parse_not`: a ! in front has the rest for its operand and a node after those of the operand; else the text goes to `parse_int` (Steps).
pub parse_not-parse-requires : goal.parse_not-parse-requires
parse_not-parse-requires t c = let f = found_is bang c.args.s.now c.in-Some-eq0.ensures in
    simp (length-take, length-drop) (omega (arith, c.requires, f.1))

pub parse_not-returns-in_err-m-in-Some-eq0-clause-read : goal.parse_not-returns-in_err-m-in-Some-eq0-clause-read
parse_not-returns-in_err-m-in-Some-eq0-clause-read t c = rw c.from_residual.ensures (as_read (not_is c.args.s.now c.in-Some-eq0.ensures c.in-Some-eq0.field-0-test) (one_none (tail_gives c.args.s.now 1 c.parse.ensures.read) c.in_err-m-in-Some-eq0.was))

pub parse_not-put_node-requires : goal.parse_not-put_node-requires
parse_not-put_node-requires t c = let f = found_is bang c.args.s.now c.in-Some-eq0.ensures in
    omega (arith, c.requires, gave (tail_gives c.args.s.now 1 c.parse.ensures.read) c.in_ok-m-in-Some-eq0.was, f.1)

pub parse_not-returns-in_ok-m-in-Some-eq0-clause-read : goal.parse_not-returns-in_ok-m-in-Some-eq0-clause-read
parse_not-returns-in_ok-m-in-Some-eq0-clause-read t c = let f = found_is bang c.args.s.now c.in-Some-eq0.ensures in
    as_read (not_is c.args.s.now c.in-Some-eq0.ensures c.in-Some-eq0.field-0-test)
    (one_some (tail_gives c.args.s.now 1 c.parse.ensures.read) c.in_ok-m-in-Some-eq0.was (omega (arith, f.1)) (ap Some c.put_node.ensures.end) c.put_node.ensures.put)

pub parse_not-parse_int-requires : goal.parse_not-parse_int-requires
parse_not-parse_int-requires t c = omega (arith, c.requires, trimmed_le c.args.s.now _ c.trim.ensures.result_value)

pub parse_not-returns-in_default-clause-read : goal.parse_not-returns-in_default-clause-read
parse_not-returns-in_default-clause-read t c = through read_int c.args.s.now _ c.trim.ensures.result_value (not_int c.args.s.now c.index_of.result c.index_of.ensures
    (λ z. elim c.in_default.branch [
      | parse_not-in_default-via-in-Some+in_default w ↦ let b = w.in_default.is in let y : w.in_default.field-0 ≡ 0 = cc in search (rules, w.in_default.field-0-test.1, y)
      | parse_not-in_default-via-in_default w ↦ let b = w.in_default.is in let y : ◌≡◌ {A = ℕ} 0 1 = cc in omega arith
    ])) c.parse_int.ensures.read

-- `parse_parens`: the inside of a bracket goes to `parse`, any other text to the levels (Steps). A text that starts with a bracket has a
-- byte, so the inside is shorter.
pub parse_parens-parse_level-requires : goal.parse_parens-parse_level-requires
parse_parens-parse_level-requires t c = omega (arith, c.requires, trimmed_le c.args.s.now _ c.trim.ensures.result_value)

pub parse_parens-returns-then-first_of-ne40-clause-read : goal.parse_parens-returns-then-first_of-ne40-clause-read
parse_parens-returns-then-first_of-ne40-clause-read t c = through (level shipped rows) c.args.s.now _ c.trim.ensures.result_value (parens_plain c.args.s.now _ c.first_of.ensures c.if-first_of-ne40.true) c.parse_level.ensures.read

pub parse_parens-returns-then-n-eq1-clause-read : goal.parse_parens-returns-then-n-eq1-clause-read
parse_parens-returns-then-n-eq1-clause-read t c = gives_none (parens_lone c.args.s.now _ c.first_of.ensures c.if-first_of-ne40.false c.if-n-eq1.true)

pub parse_parens-overflow_sub-inside : goal.parse_parens-overflow_sub-inside
parse_parens-overflow_sub-inside t c = omega (arith, first_some c.args.s.now _ c.first_of.ensures c.if-first_of-ne40.false)

pub parse_parens-slice_bounds-inside-count : goal.parse_parens-slice_bounds-inside-count
parse_parens-slice_bounds-inside-count t c = omega (arith, first_some c.args.s.now _ c.first_of.ensures c.if-first_of-ne40.false)

pub parse_parens-end_of-requires : goal.parse_parens-end_of-requires
parse_parens-end_of-requires t c = simp (length-take, length-drop) (omega (arith, c.requires))

pub parse_parens-parse_level-requires-then-end_of-n : goal.parse_parens-parse_level-requires-then-end_of-n
parse_parens-parse_level-requires-then-end_of-n t c = omega (arith, c.requires, trimmed_le c.args.s.now _ c.trim-then-end_of-n.ensures.result_value)

pub parse_parens-returns-then-end_of-n-clause-read : goal.parse_parens-returns-then-end_of-n-clause-read
parse_parens-returns-then-end_of-n-clause-read t c = through (level shipped rows) c.args.s.now _ c.trim-then-end_of-n.ensures.result_value
    (parens_more c.args.s.now _ c.first_of.ensures c.if-first_of-ne40.false c.if-n-eq1.false _ c.end_of.ensures c.if-end_of-n.true) c.parse_level-then-end_of-n.ensures.read

pub parse_parens-parse-requires : goal.parse_parens-parse-requires
parse_parens-parse-requires t c = omega (arith, c.requires, trimmed_le (inside c.args.s.now) _ c.trim-2.ensures.result_value, inside_length c.args.s.now, first_some c.args.s.now _ c.first_of.ensures c.if-first_of-ne40.false)

pub parse_parens-returns-clause-read : goal.parse_parens-returns-clause-read
parse_parens-returns-clause-read t c = wider refl (omega (arith, inside_length c.args.s.now))
    (through shipped (inside c.args.s.now) _ c.trim-2.ensures.result_value
    (parens_whole c.args.s.now _ c.first_of.ensures c.if-first_of-ne40.false c.if-n-eq1.false _ c.end_of.ensures c.if-end_of-n.false) c.parse.ensures.read)

-- `parse`: the trimmed text, which is no longer, goes to `parse_parens`; that is the equation of the reading (Fuel).
pub parse-parse_parens-requires : goal.parse-parse_parens-requires
parse-parse_parens-requires t c = omega (arith, c.requires, trimmed_le c.args.s.now _ c.trim.ensures.result_value)

pub parse-returns-clause-read : goal.parse-returns-clause-read
parse-returns-clause-read t c = through (parens shipped) c.args.s.now _ c.trim.ensures.result_value (parse_is c.args.s.now) c.parse_parens.ensures.read

-- `parse_row`: the operands left and right of the pattern are written one after the other, and the node over them last (Written). The
-- pattern lies within the text and has a sign, so the operands leave a place for the node.
pub parse_row-place_of-requires : goal.parse_row-place_of-requires
parse_row-place_of-requires t c = c.requires.known

pub parse_row-unwrap-i-requires : goal.parse_row-unwrap-i-requires
parse_row-unwrap-i-requires t c = in_text (row_at c.args.row).pattern c.args.s.now c.place_of.ensures c.requires.match

pub parse_row-code_of-code-requires : goal.parse_row-code_of-code-requires
parse_row-code_of-code-requires t c = c.requires.known

pub parse_row-parse_ternary-requires : goal.parse_row-parse_ternary-requires
parse_row-parse_ternary-requires t c = omega (arith, c.requires.match, c.requires.few, (placed (row_at c.args.row).pattern c.args.s.now c.unwrap-i.ensures c.place_of.ensures))

pub parse_row-returns-then-code-eq-TERNARY-clause-read : goal.parse_row-returns-then-code-eq-TERNARY-clause-read
parse_row-returns-then-code-eq-TERNARY-clause-read t c = as_read (cut_ternary (row_at c.args.row) c.args.s.now _ _ (placed (row_at c.args.row).pattern c.args.s.now c.unwrap-i.ensures c.place_of.ensures) c.code_of-code.ensures c.if-code-eq-TERNARY.true) c.parse_ternary.ensures.read

pub parse_row-slice_bounds-parse-end : goal.parse_row-slice_bounds-parse-end
parse_row-slice_bounds-parse-end t c = sym (length-take-le _ c.args.s.now (omega (arith, c.requires.match, (placed (row_at c.args.row).pattern c.args.s.now c.unwrap-i.ensures c.place_of.ensures))))

pub parse_row-parse-requires : goal.parse_row-parse-requires
parse_row-parse-requires t c = simp length-take (omega (arith, c.requires.match, c.requires.few, (placed (row_at c.args.row).pattern c.args.s.now c.unwrap-i.ensures c.place_of.ensures)))

pub parse_row-returns-in_err-m-clause-read : goal.parse_row-returns-in_err-m-clause-read
parse_row-returns-in_err-m-clause-read t c = let b : Binary (row_at c.args.row) c.args.s.now _ _ (placed (row_at c.args.row).pattern c.args.s.now c.unwrap-i.ensures c.place_of.ensures) c.code_of-code.ensures = cut_binary _ c.args.s.now _ _ (placed (row_at c.args.row).pattern c.args.s.now c.unwrap-i.ensures c.place_of.ensures) c.code_of-code.ensures c.if-code-eq-TERNARY.false in
    rw c.from_residual.ensures (
    as_read (b.is _ refl) (two_left (head_gives c.args.s.now c.unwrap-i.result c.parse.ensures.read) b.op _ c.in_err-m.was))

pub parse_row-width_of-requires : goal.parse_row-width_of-requires
parse_row-width_of-requires t c = omega (arith, c.requires.known)

pub parse_row-overflow_add-start : goal.parse_row-overflow_add-start
parse_row-overflow_add-start t c = omega (arith, index_fits (row_at c.args.row).pattern c.args.s.now c.requires.match, (placed (row_at c.args.row).pattern c.args.s.now c.unwrap-i.ensures c.place_of.ensures), c.width_of.ensures)

pub parse_row-slice_bounds-parse-count : goal.parse_row-slice_bounds-parse-count
parse_row-slice_bounds-parse-count t c = omega (arith, index_fits (row_at c.args.row).pattern c.args.s.now c.requires.match, (placed (row_at c.args.row).pattern c.args.s.now c.unwrap-i.ensures c.place_of.ensures), c.width_of.ensures)

pub parse_row-slice_bounds-parse-start : goal.parse_row-slice_bounds-parse-start
parse_row-slice_bounds-parse-start t c = omega (arith, index_fits (row_at c.args.row).pattern c.args.s.now c.requires.match, (placed (row_at c.args.row).pattern c.args.s.now c.unwrap-i.ensures c.place_of.ensures), c.width_of.ensures)

pub parse_row-parse-requires-2 : goal.parse_row-parse-requires-2
parse_row-parse-requires-2 t c = let g = gave (head_gives c.args.s.now c.unwrap-i.result c.parse.ensures.read) c.in_ok-m.was in
    let p = has_sign c.args.row c.requires.known in
    simp (length-take, length-drop) (omega (arith, c.requires.match, c.requires.few, (placed (row_at c.args.row).pattern c.args.s.now c.unwrap-i.ensures c.place_of.ensures), c.width_of.ensures))

pub parse_row-returns-in_err-e-clause-read : goal.parse_row-returns-in_err-e-clause-read
parse_row-returns-in_err-e-clause-read t c = let b : Binary (row_at c.args.row) c.args.s.now _ _ (placed (row_at c.args.row).pattern c.args.s.now c.unwrap-i.ensures c.place_of.ensures) c.code_of-code.ensures = cut_binary _ c.args.s.now _ _ (placed (row_at c.args.row).pattern c.args.s.now c.unwrap-i.ensures c.place_of.ensures) c.code_of-code.ensures c.if-code-eq-TERNARY.false in
    rw c.from_residual-in_err-e.ensures (
    as_read (b.is _ c.width_of.ensures)
    (two_right (head_gives c.args.s.now c.unwrap-i.result c.parse.ensures.read) c.in_ok-m.was (tail_gives c.args.s.now (c.unwrap-i.result + c.width_of.result) c.parse-2.ensures.read) b.op c.in_err-e.was))

pub parse_row-put_node-requires : goal.parse_row-put_node-requires
parse_row-put_node-requires t c = let g = gave (head_gives c.args.s.now c.unwrap-i.result c.parse.ensures.read) c.in_ok-m.was in
    let h = gave (tail_gives c.args.s.now (c.unwrap-i.result + c.width_of.result) c.parse-2.ensures.read) c.in_ok-e.was in
    let p = has_sign c.args.row c.requires.known in
    omega (arith, c.requires.match, c.requires.few, (placed (row_at c.args.row).pattern c.args.s.now c.unwrap-i.ensures c.place_of.ensures), c.width_of.ensures)

pub parse_row-returns-clause-read : goal.parse_row-returns-clause-read
parse_row-returns-clause-read t c = let b : Binary (row_at c.args.row) c.args.s.now _ _ (placed (row_at c.args.row).pattern c.args.s.now c.unwrap-i.ensures c.place_of.ensures) c.code_of-code.ensures = cut_binary _ c.args.s.now _ _ (placed (row_at c.args.row).pattern c.args.s.now c.unwrap-i.ensures c.place_of.ensures) c.code_of-code.ensures c.if-code-eq-TERNARY.false in
    let p = has_sign c.args.row c.requires.known in
    as_read (b.is _ c.width_of.ensures)
    (two_both (head_gives c.args.s.now c.unwrap-i.result c.parse.ensures.read) c.in_ok-m.was (tail_gives c.args.s.now (c.unwrap-i.result + c.width_of.result) c.parse-2.ensures.read) b.op c.in_ok-e.was
    (omega (arith, c.requires.match, (placed (row_at c.args.row).pattern c.args.s.now c.unwrap-i.ensures c.place_of.ensures), c.width_of.ensures)) (ap Some c.put_node.ensures.end) (rw b.code_is at c.put_node.ensures.put))

-- `parse_ternary`: three operands are written one after the other, and the node over them last (Written). The two signs between the
-- operands leave a place for the node.
pub parse_ternary-returns-in_err-l-clause-read : goal.parse_ternary-returns-in_err-l-clause-read
parse_ternary-returns-in_err-l-clause-read t c = rw c.from_residual.ensures (gives_none (no_colon c.args.s.now _ _ refl (not_found colon c.args.s.now c.in_err-l.ensures)))

pub parse_ternary-returns-then-l-i-clause-read : goal.parse_ternary-returns-then-l-i-clause-read
parse_ternary-returns-then-l-i-clause-read t c = let f = found_is colon c.args.s.now c.in_ok-l.ensures in gives_none (colon_ahead c.args.s.now _ _ f.0 f.1 c.if-l-i.true)

pub parse_ternary-slice_bounds-parse-end : goal.parse_ternary-slice_bounds-parse-end
parse_ternary-slice_bounds-parse-end t c = sym (length-take-le _ c.args.s.now (omega (arith, c.requires)))

pub parse_ternary-parse-requires : goal.parse_ternary-parse-requires
parse_ternary-parse-requires t c = simp length-take (omega (arith, c.requires))

pub parse_ternary-returns-in_err-m-clause-read : goal.parse_ternary-returns-in_err-m-clause-read
parse_ternary-returns-in_err-m-clause-read t c = rw c.from_residual-in_err-m.ensures (as_read (choose_is c.args.s.now _ _ (found_is colon c.args.s.now c.in_ok-l.ensures).0 (found_is colon c.args.s.now c.in_ok-l.ensures).1 c.if-l-i.false) (three_first (head_gives c.args.s.now c.args.i c.parse.ensures.read) _ _ c.in_err-m.was))

pub parse_ternary-parse-requires-2 : goal.parse_ternary-parse-requires-2
parse_ternary-parse-requires-2 t c = let g = gave (head_gives c.args.s.now c.args.i c.parse.ensures.read) c.in_ok-m.was in
    simp (length-take, length-drop) (omega (arith, c.requires, (found_is colon c.args.s.now c.in_ok-l.ensures).1, c.if-l-i.false))

pub parse_ternary-returns-in_err-e-clause-read : goal.parse_ternary-returns-in_err-e-clause-read
parse_ternary-returns-in_err-e-clause-read t c = rw c.from_residual-in_err-e.ensures (as_read (choose_is c.args.s.now _ _ (found_is colon c.args.s.now c.in_ok-l.ensures).0 (found_is colon c.args.s.now c.in_ok-l.ensures).1 c.if-l-i.false)
    (three_second (head_gives c.args.s.now c.args.i c.parse.ensures.read) c.in_ok-m.was (middle_gives c.args.s.now (c.args.i + 1) c.in_ok-l.l c.parse-2.ensures.read) _ c.in_err-e.was))

pub parse_ternary-parse-requires-3 : goal.parse_ternary-parse-requires-3
parse_ternary-parse-requires-3 t c = let g = gave (head_gives c.args.s.now c.args.i c.parse.ensures.read) c.in_ok-m.was in
    let h = gave (middle_gives c.args.s.now (c.args.i + 1) c.in_ok-l.l c.parse-2.ensures.read) c.in_ok-e.was in
    simp (length-take, length-drop) (omega (arith, c.requires, (found_is colon c.args.s.now c.in_ok-l.ensures).1, c.if-l-i.false))

pub parse_ternary-returns-in_err-p-clause-read : goal.parse_ternary-returns-in_err-p-clause-read
parse_ternary-returns-in_err-p-clause-read t c = rw c.from_residual-in_err-p.ensures (as_read (choose_is c.args.s.now _ _ (found_is colon c.args.s.now c.in_ok-l.ensures).0 (found_is colon c.args.s.now c.in_ok-l.ensures).1 c.if-l-i.false)
    (three_third (head_gives c.args.s.now c.args.i c.parse.ensures.read) c.in_ok-m.was (middle_gives c.args.s.now (c.args.i + 1) c.in_ok-l.l c.parse-2.ensures.read) c.in_ok-e.was
    (tail_gives c.args.s.now (c.in_ok-l.l + 1) c.parse-3.ensures.read) c.in_err-p.was))

pub parse_ternary-put_node-requires : goal.parse_ternary-put_node-requires
parse_ternary-put_node-requires t c = let g = gave (head_gives c.args.s.now c.args.i c.parse.ensures.read) c.in_ok-m.was in
    let h = gave (middle_gives c.args.s.now (c.args.i + 1) c.in_ok-l.l c.parse-2.ensures.read) c.in_ok-e.was in
    let k = gave (tail_gives c.args.s.now (c.in_ok-l.l + 1) c.parse-3.ensures.read) c.in_ok-p.was in
    omega (arith, c.requires, (found_is colon c.args.s.now c.in_ok-l.ensures).1, c.if-l-i.false)

pub parse_ternary-returns-clause-read : goal.parse_ternary-returns-clause-read
parse_ternary-returns-clause-read t c = as_read (choose_is c.args.s.now _ _ (found_is colon c.args.s.now c.in_ok-l.ensures).0 (found_is colon c.args.s.now c.in_ok-l.ensures).1 c.if-l-i.false)
    (three_all (head_gives c.args.s.now c.args.i c.parse.ensures.read) c.in_ok-m.was (middle_gives c.args.s.now (c.args.i + 1) c.in_ok-l.l c.parse-2.ensures.read) c.in_ok-e.was
    (tail_gives c.args.s.now (c.in_ok-l.l + 1) c.parse-3.ensures.read) c.in_ok-p.was (omega (arith, (found_is colon c.args.s.now c.in_ok-l.ensures).1, c.if-l-i.false)) (ap Some c.put_node.ensures.end) c.put_node.ensures.put)
