use Rattle.container_messages.proofs.Originals.{string_fits}
use native.Mathlib.Omega.{arith}
use Rattle.container_messages.proofs.original_at.Goals as goal

pub overflow_add-end : goal.overflow_add-end
overflow_add-end c = omega (arith, string_fits _ _ _ _ c.string_at.ensures c.in_ok-string.ensures.ok_part)

pub overflow_add-end-2 : goal.overflow_add-end-2
overflow_add-end-2 c = omega (arith, string_fits _ _ _ _ c.string_at.ensures c.in_ok-string.ensures.ok_part)

pub slice_bounds-parse_original-end : goal.slice_bounds-parse_original-end
slice_bounds-parse_original-end c = string_fits _ _ _ _ c.string_at.ensures c.in_ok-string.ensures.ok_part
