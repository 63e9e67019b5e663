-- The arrays that a caller lends for the nodes of a rule: what they hold, and that they stay lent.
use Rattle.std.specs.Prelude.{◌≡◌}
use Rattle.rules.specs.Pool.{Pool, pool}
use Rattle.rules.specs.declared.Lent.{Lent}

-- the pool that the arrays hold
abbrev pub pool_left : Lent → Pool
pool_left l = pool l.codes.now l.places.now l.values.now

-- a call leaves the very arrays lent that it was handed
pub record Keeps (before after : Lent) : Type 0 where
  pub codes : after.codes.ghost_name ≡ before.codes.ghost_name
  pub places : after.places.ghost_name ≡ before.places.ghost_name
  pub values : after.values.ghost_name ≡ before.values.ghost_name
