-- What the answers of a pool say of one another: where the rating gives a range, every count has a form within it, and where a rule
-- fits k, every count has a form below k. This is `InRange` said of the public functions' answers.
use Prim.Native.Nat.{ℕ, ◌^◌, ◌<◌, ◌≤◌}
use mathlib.Core.Path.{◌≡◌, sym, ap, ◌∙◌}
use mathlib.Core.Bool.{true, not}
use native.Mathlib.Omega.{arith}
use lib.Dec.{eqb}
use Rattle.rules.specs.declared.NoForm.{NoForm}
use Rattle.std.specs.Prelude.{Option, Some, None, Result, Ok}
use Rattle.rules.specs.Value.{truth, binary, eval_tree}
use Rattle.rules.specs.Range.{op_range, bin_range, rate_tree}
use Rattle.rules.specs.Pool.{Pool, tree_of, is_tree}
use Rattle.rules.specs.Tree.{default_tree}
use Rattle.rules.specs.Store.{size}
use Rattle.rules.specs.Pack.{pack, nodes, packed_size, packed}
use Rattle.rules.specs.Answer.{form_of, range_of, resolved_of, rated_of, fit_of}
use Rattle.rules.proofs.Operators.{split}
use Rattle.rules.proofs.InRange.{FromTo, rated as tree-rated}
use Rattle.rules.proofs.StoredTree.{packed_resolves, packed_rates}
use Rattle.rules.proofs.Answers.{resolved_tree, rated_tree, rated_none}
use Rattle.rules.proofs.Fits.{Ranged, fits_ranged}

pub record FormFromTo (lo hi : ℕ) (r : Result ℕ NoForm) : Type 0 where
  pub form : ℕ
  pub is : r ≡ Ok form
  pub low : lo ≤ form
  pub high : form ≤ hi

pub record FormBelow (k : ℕ) (r : Result ℕ NoForm) : Type 0 where
  pub form : ℕ
  pub is : r ≡ Ok form
  pub low : form < k

-- only a range is read as a range
range_of_lem : (r : Option (ℕ × ℕ)) (lo hi : ℕ) → range_of r ≡ Ok (Some (lo, hi)) → r ≡ Some (lo, hi)
range_of_lem (Some (l, h)) lo hi e = cc
range_of_lem None lo hi e = let z : ◌≡◌ {A = ℕ} 0 1 = cc in absurd (omega arith)

module _ (P : Pool) (count root : ℕ) where
  is_tree_rated : (lo hi : ℕ) → rated_of P count root ≡ Ok (Some (lo, hi)) → is_tree P count root ≡ true
  is_tree_rated lo hi e =
      split (is_tree P count root) (λ f. f) (λ f. let z : ◌≡◌ {A = ℕ} 0 1 = cc (rated_none P count root f) in absurd (omega arith))

  -- a rule rated lo to hi yields at every count a form from lo to hi
  pub rated_forms : (lo hi : ℕ) → rated_of P count root ≡ Ok (Some (lo, hi)) → (n : ℕ) → n < 2 ^ 64 → FormFromTo lo hi (resolved_of P count root n)
  rated_forms lo hi e n b =
      let t : is_tree P count root ≡ true = is_tree_rated lo hi e in
      let r : rate_tree (tree_of P root) ≡ Some (lo, hi) = range_of_lem _ lo hi (sym (rated_tree P count root t) ∙ e) in
      let w : FromTo lo hi (eval_tree (tree_of P root) n) = tree-rated (tree_of P root) lo hi r n b in
      record { form = w.form; is = resolved_tree P count root n t ∙ ap form_of w.is; low = w.low; high = w.high }

  -- a rule that fits k yields at every count a form below k
  pub fitting_forms : (k : ℕ) → fit_of P count root k ≡ Ok true → (n : ℕ) → n < 2 ^ 64 → FormBelow k (resolved_of P count root n)
  fitting_forms k e n b =
      let f : Ranged P count root k = fits_ranged P count root k e in
      let w : FormFromTo f.lowest f.highest (resolved_of P count root n) = rated_forms f.lowest f.highest f.is n b in
      record { form = w.form; is = w.is; low = omega (arith, w.high, f.below) }

-- the default rule's pool: its range is 0 to 1, and its form 0 for 1, else 1
pub default_rates : rated_of (packed default_tree) 1 0 ≡ Ok (Some (0, 1))
unfolding size packed_size pack nodes rate_tree bin_range op_range
default_rates = packed_rates default_tree (omega arith)

pub default_resolves : (n : ℕ) → resolved_of (packed default_tree) 1 0 n ≡ Ok (truth (not (eqb n 1)))
unfolding size packed_size pack nodes eval_tree binary
default_resolves n = packed_resolves default_tree (omega arith) n
