-- The bounds of a place, by which the functions that take one are asked.
use Rattle.std.specs.Prelude.{ℕ, ◌+◌, Option, Some, None}
use Rattle.text.specs.declared.Stretch.{Stretch}

-- where a place starts, and where it ends
abbrev pub start_of : Option Stretch → ℕ
start_of (Some p) = p.start
start_of None = 0

abbrev pub end_of : Option Stretch → ℕ
end_of (Some p) = p.start + p.len
end_of None = 0
