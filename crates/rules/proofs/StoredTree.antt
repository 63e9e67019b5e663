-- A packed tree passes the tree test and is the tree that the pool holds, so every answer of the pool is the tree's own.
use Prim.Native.Nat.{ℕ, ◌-◌, ◌≤◌}
use mathlib.Core.Path.{◌≡◌, ap, ◌∙◌}
use mathlib.Core.Bool.{true}
use native.Mathlib.Omega.{arith}
use Rattle.rules.specs.Tree.{Tree}
use Rattle.rules.specs.Value.{eval_tree}
use Rattle.rules.specs.Range.{rate_tree, fits_range}
use Rattle.rules.specs.Answer.{form_of, range_of, fitting, resolved_of, rated_of, fit_of}
use Rattle.rules.specs.Pool.{tree_of, is_tree}
use Rattle.rules.specs.Store.{size}
use Rattle.rules.specs.Pack.{pack, packed_size, packed}
use Rattle.rules.proofs.Answers.{resolved_tree, rated_tree, fit_tree}
use Rattle.rules.proofs.Packs.{right}
use Rattle.rules.proofs.Stored.{any, kept_tree, kept_is_tree}

-- a tree that is packed, of at most 512 nodes before
module _ (t : Tree) (few : size t ≤ 512) where
  pub packed_is_tree : is_tree (packed t) (packed_size t) (packed_size t - 1) ≡ true
  unfolding packed_size packed
  packed_is_tree = kept_is_tree _ (pack t) (right t).fits (any (pack t)) (omega (arith, (right t).few))

  pub packed_tree : tree_of (packed t) (packed_size t - 1) ≡ t
  unfolding packed_size packed
  packed_tree = kept_tree _ (pack t) (right t).fits (any (pack t)) (omega (arith, (right t).few)) ∙ (right t).same

  -- so each answer of the pool is the tree's
  pub packed_resolves : (n : ℕ) → resolved_of (packed t) (packed_size t) (packed_size t - 1) n ≡ form_of (eval_tree t n)
  packed_resolves n =
      resolved_tree (packed t) (packed_size t) (packed_size t - 1) n packed_is_tree ∙ ap (λ (u : Tree). form_of (eval_tree u n)) packed_tree

  pub packed_rates : rated_of (packed t) (packed_size t) (packed_size t - 1) ≡ range_of (rate_tree t)
  packed_rates = rated_tree (packed t) (packed_size t) (packed_size t - 1) packed_is_tree ∙ ap (λ (u : Tree). range_of (rate_tree u)) packed_tree

  pub packed_fits : (k : ℕ) → fit_of (packed t) (packed_size t) (packed_size t - 1) k ≡ fitting (fits_range (rate_tree t) k)
  packed_fits k =
      fit_tree (packed t) (packed_size t) (packed_size t - 1) k packed_is_tree ∙ ap (λ (u : Tree). fitting (fits_range (rate_tree u) k)) packed_tree
