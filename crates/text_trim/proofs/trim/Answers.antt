-- The part that `trimmed` names is the trimmed text, and it lies within the slice. Assumes nothing.
use mathlib.Core.Path.{refl}
use Rattle.text_trim.specs.Trim.{chars_of}
use Rattle.text_trim.proofs.Trimming.{trim_bound, trim_part}
use native.Mathlib.Omega.{arith}
use Rattle.text_trim.proofs.trim.Goals as goal

pub overflow_add-end : goal.overflow_add-end
overflow_add-end c = omega (arith, trim_bound (chars_of c.args.set) c.args.s.now, c.trimmed-start.ensures.start, c.trimmed-start.ensures.len)

pub slice_bounds-result-end : goal.slice_bounds-result-end
slice_bounds-result-end c = omega (arith, trim_bound (chars_of c.args.set) c.args.s.now, c.trimmed-start.ensures.start, c.trimmed-start.ensures.len)

pub returns : goal.returns
returns c = record { result_value = trim_part _ _ _ _ c.trimmed-start.ensures.start c.trimmed-start.ensures.len; ref_ptr_value = (refl, omega (arith, c.trimmed-start.ensures.start)) }
