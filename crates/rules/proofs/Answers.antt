-- The answers of a pool by the tree test and the tree at its root.
use mathlib.Core.Path.{◌≡◌, refl, sym, ap, ◌∙◌}
use mathlib.Core.Bool.{Bool, true, false}
use Prim.Native.Nat.{ℕ}
use lib.Dec.{ltb}
use Rattle.rules.specs.Answer.{no_tree}
use Rattle.rules.specs.declared.NoTree.{NoTree}
use Rattle.rules.specs.declared.NoForm.TheVariants as no_form
use Rattle.std.specs.Prelude.{Option, Some, None, Result, Ok, Err}
use Rattle.rules.specs.Value.{eval_tree}
use Rattle.rules.specs.Range.{rate_tree, fits_range}
use Rattle.rules.specs.Pool.{Pool, tree_of, is_tree}
use Rattle.rules.specs.Answer.{form_of, range_of, fitting, resolved_of, rated_of, fit_of}

module _ (P : Pool) (count root : ℕ) where
  pub resolved_tree : (n : ℕ) → is_tree P count root ≡ true → resolved_of P count root n ≡ form_of (eval_tree (tree_of P root) n)
  unfolding resolved_of
  resolved_tree n e = rw (resolved_of, e)

  pub resolved_none : (n : ℕ) → is_tree P count root ≡ false → resolved_of P count root n ≡ Err no_form.NoTree
  unfolding resolved_of
  resolved_none n e = rw (resolved_of, e)

  pub rated_tree : is_tree P count root ≡ true → rated_of P count root ≡ range_of (rate_tree (tree_of P root))
  unfolding rated_of
  rated_tree e = rw (rated_of, e)

  pub rated_none : is_tree P count root ≡ false → rated_of P count root ≡ Err no_tree
  unfolding rated_of
  rated_none e = rw (rated_of, e)

  pub fit_tree : (k : ℕ) → is_tree P count root ≡ true → fit_of P count root k ≡ fitting (fits_range (rate_tree (tree_of P root)) k)
  unfolding fit_of
  fit_tree k e = rw (fit_of, e)

  -- as the code has it
  pub rates : {u v : Option (ℕ × ℕ)} → is_tree P count root ≡ true → u ≡ rate_tree (tree_of P root) → u ≡ v → range_of v ≡ rated_of P count root
  rates e d f = sym (rated_tree e ∙ ap range_of (sym d ∙ f))

-- whether a rule fits, by its range
abbrev pub fit_from : Result (Option (ℕ × ℕ)) NoTree → ℕ → Result Bool NoTree
fit_from (Ok (Some (l, h))) k = fitting (ltb h k)
fit_from (Ok None) k = Ok false
fit_from (Err e) k = Err e

module _ (P : Pool) (count root k : ℕ) where
  pub fit_from_lem : fit_of P count root k ≡ fit_from (rated_of P count root) k
  unfolding fit_of rated_of fits_range
  fit_from_lem = go (is_tree P count root) (rate_tree (tree_of P root))
    where
      go : (b : Bool) (r : Option (ℕ × ℕ))
          → ◌≡◌ {A = Result Bool NoTree}
          (elim b [ true ↦ fitting (fits_range r k) | false ↦ Err no_tree ])
          (fit_from (elim b [ true ↦ range_of r | false ↦ Err no_tree ]) k)
      go true (Some (l, h)) = refl
      go true None = refl
      go false r = refl

  pub fits_as : {u v : Result (Option (ℕ × ℕ)) NoTree} {b : Result Bool NoTree} → u ≡ rated_of P count root → u ≡ v → fit_from v k ≡ b → b ≡ fit_of P count root k
  fits_as e d f = sym (fit_from_lem ∙ ap (λ (r : Result (Option (ℕ × ℕ)) NoTree). fit_from r k) (sym e ∙ d) ∙ f)
