-- `digits_of`: the digits of the whole are those of the rest after the number so far (Digits).
use Prim.Native.Nat.{◌<◌, ◌^◌}
use mathlib.Core.Path.{◌≡◌}
use lib.ListN.{drop}
use Rattle.text_digits.specs.Digits.{digits_from}
use Rattle.text_digits.proofs.digits_of.Given as goal

abbrev pub invariant-loop-ch : goal.invariant-loop-ch
invariant-loop-ch l = (l.v < 2 ^ 64) × (digits_from l.s 0 ≡ digits_from (drop l.ch-index l.s) l.v)
