-- What the functions of an evaluation promise one another.
use Rattle.std.specs.Prelude.{ℕ, Bool}
use Rattle.rules.specs.Value.{eval_tree}
use Rattle.rules.specs.Pool.{Pool, tree_of}
use Rattle.rules_operators.specs.Operator.{Gives}

-- where the number x and the flag c are the value of the tree at p, the number r and the flag d are that of the tree at q
pub record Lifts (P : Pool) (p q x : ℕ) (c d : Bool) (r : ℕ) : Type 0 where
  pub gives : (n : ℕ) (b : Bool) → Gives (eval_tree (tree_of P p) n) b c x → Gives (eval_tree (tree_of P q) n) b d r
