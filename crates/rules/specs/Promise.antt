-- What a walk over the nodes of a pool asks of the place that it begins at.
use Rattle.std.specs.Prelude.{ℕ, ◌<◌, ◌≤◌, ◌≡◌, Bool, true, ◌&&◌, ◌||◌, leb, ltb, eqb}
use Rattle.rules.specs.Pool.{Pool, code, shaped, nay_node, pair_op, choice_node, ternary_node}

-- a place below the node count of a pool whose places all have known codes and operands below them
pub record Sound (P : Pool) (p : ℕ) : Type 0 where
  pub count : ℕ
  pub inside : p < count
  pub few : count ≤ 512
  pub shape : shaped P count ≡ true

-- a code that a reader writes
abbrev pub plain : ℕ → Bool
plain c = leb c 1 || (eqb c nay_node || (eqb c ternary_node || (leb pair_op c && ltb c choice_node)))

-- a sound place up to which a reader wrote
pub record Plain (P : Pool) (p : ℕ) : Type 0 where
  pub sound : Sound P p
  pub codes : (q : ℕ) → q ≤ p → plain (code P q) ≡ true
