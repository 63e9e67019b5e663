-- The value of decimal digits: SPEC 5.3 for a count of forms, SPEC 6 for the integers of a rule. Leading zeros are digits like others, and
-- above 2^64-1 is no number.
use Rattle.std.specs.Prelude.{ℕ, ◌+◌, ◌-◌, ◌*◌, ◌^◌, Bool, true, false, ◌&&◌, List, [], ◌∷◌, length, get_or, drop, leb, ltb, eqb, Option, Some, None}

abbrev pub digit : ℕ → Bool
digit ch = leb 48 ch && leb ch 57

-- a number with one digit more
abbrev pub digit_on : ℕ → ℕ → Option ℕ
digit_on v ch =
    elim (digit ch) [
      | true ↦ elim (ltb (10 * v + (ch - 48)) (2 ^ 64)) [ true ↦ Some (10 * v + (ch - 48)) | false ↦ None ]
      | false ↦ None
    ]

-- the digits s after those that came to v
unfoldable pub digits_from : List ℕ → ℕ → Option ℕ
digits_from [] v = elim (ltb v (2 ^ 64)) [ true ↦ Some v | false ↦ None ]
digits_from (ch ∷ s) v = elim (digit ch) [ true ↦ digits_from s (10 * v + (ch - 48)) | false ↦ None ]

-- digits alone, at least one
abbrev pub digits : List ℕ → Option ℕ
digits s = elim (eqb (length s) 0) [ true ↦ None | false ↦ digits_from s 0 ]

-- an integer of the Shipped reading, `u64::from_str_radix(s, 10)`: digits after an optional plus sign
unfoldable pub integer : List ℕ → Option ℕ
integer s = elim (eqb (get_or s 0 0) 43) [ true ↦ digits (drop 1 s) | false ↦ digits s ]
