-- What the functions behind the public ones promise.
use Rattle.std.specs.Prelude.{ℕ, Bool, not, ◌||◌, eqb}

-- neither NUL nor byte 4
abbrev pub plain : ℕ → Bool
plain b = not (eqb b 0 || eqb b 4)
