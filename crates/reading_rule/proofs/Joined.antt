-- What `parse` leaves in the arrays, read as a pool: it is a tree, the tree that the definition gives, and each answer of the pool is that
-- tree's. Assumes nothing.
use Prim.Native.Nat.{ℕ, ◌-◌, ◌≤◌}
use mathlib.Core.Path.{◌≡◌}
use mathlib.Core.Bool.{true}
use Rattle.rules.specs.Tree.{Tree}
use Rattle.rules.specs.Value.{eval_tree}
use Rattle.rules.specs.Range.{rate_tree, fits_range}
use Rattle.rules.specs.Pool.{Pool, tree_of, is_tree}
use Rattle.rules.specs.Store.{size}
use Rattle.rules.specs.Pack.{packed_size, packed}
use Rattle.rules.specs.Answer.{form_of, range_of, fitting, resolved_of, rated_of, fit_of}
use Rattle.rules.proofs.StoredTree.{packed_is_tree, packed_tree, packed_resolves, packed_rates, packed_fits}

-- a tree packed and alone in a pool, as a rule of k nodes whose last is the root
module _ (t : Tree) (few : size t ≤ 512) {Q : Pool} {k : ℕ} (stored : Q ≡ packed t) (nodes : k ≡ packed_size t) where
  pub held_is_tree : is_tree Q k (k - 1) ≡ true
  held_is_tree = rw (stored, nodes) (packed_is_tree t few)

  pub held_tree : tree_of Q (k - 1) ≡ t
  held_tree = rw (stored, nodes) (packed_tree t few)

  pub held_resolves : (n : ℕ) → resolved_of Q k (k - 1) n ≡ form_of (eval_tree t n)
  held_resolves n = rw (stored, nodes) (packed_resolves t few n)

  pub held_rates : rated_of Q k (k - 1) ≡ range_of (rate_tree t)
  held_rates = rw (stored, nodes) (packed_rates t few)

  pub held_fits : (m : ℕ) → fit_of Q k (k - 1) m ≡ fitting (fits_range (rate_tree t) m)
  held_fits m = rw (stored, nodes) (packed_fits t few m)
