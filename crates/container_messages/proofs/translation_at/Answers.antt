use Rattle.container_messages.proofs.Originals.{string_fits, translation_right, translation_wrong}
use native.Mathlib.Omega.{arith}
use Rattle.container_messages.proofs.translation_at.Goals as goal

pub overflow_add-string : goal.overflow_add-string
overflow_add-string c = omega (arith, string_fits _ _ _ _ c.string_at.ensures c.in_ok-string.ensures.ok_part)

pub is_text-requires : goal.is_text-requires
is_text-requires c = (omega arith, omega (arith, string_fits _ _ _ _ c.string_at.ensures c.in_ok-string.ensures.ok_part))

pub returns-then-not-is_text : goal.returns-then-not-is_text
returns-then-not-is_text c = translation_wrong _ _ _ _ c.string_at.ensures c.in_ok-string.ensures.ok_part c.is_text.ensures c.if-not-is_text.true

pub returns : goal.returns
returns c = translation_right _ _ _ _ c.string_at.ensures c.in_ok-string.ensures.ok_part c.is_text.ensures c.if-not-is_text.false
