-- The front ends where the part starts, and the part without the set's characters at its end is the trimmed text. Assumes nothing.
use Rattle.text_trim.specs.Trim.{chars_of}
use Rattle.text_trim.proofs.Edges.{edge_le}
use Rattle.text_trim.proofs.Trimming.{trim_length}
use native.Mathlib.Omega.{arith}
use Rattle.text_trim.proofs.trimmed.Goals as goal

pub slice_bounds-trimmed_end-count : goal.slice_bounds-trimmed_end-count
slice_bounds-trimmed_end-count c = omega (arith, edge_le (chars_of c.args.set) c.args.s.now, c.white_front-start.ensures)

pub slice_bounds-trimmed_end-start : goal.slice_bounds-trimmed_end-start
slice_bounds-trimmed_end-start c = omega (arith, edge_le (chars_of c.args.set) c.args.s.now, c.white_front-start.ensures)

pub returns : goal.returns
returns c = record { start = c.white_front-start.ensures; len = trim_length _ _ _ _ c.white_front-start.ensures c.trimmed_end-len.ensures }
