-- The digits passed have come to v.
use Prim.Native.Nat.{◌<◌, ◌^◌}
use mathlib.Core.Path.{◌≡◌}
use Rattle.reading_tokens.specs.Private.{ran}
use Rattle.reading_tokens.proofs.integer.Given as goal

abbrev pub invariant-loop-i : goal.invariant-loop-i
invariant-loop-i l = (l.v < 2 ^ 64) × (ran 0 l.s l.at ≡ ran l.v l.s l.i)
