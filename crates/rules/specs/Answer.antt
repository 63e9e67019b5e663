-- What a pool answers: the value of its rule at a count, its range, and whether it fits a number. SPEC 7 and
-- "The record": a pool that is no tree has none of these.
use Rattle.std.specs.Prelude.{ℕ, Bool, true, false, Option, Some, None, Result, Ok, Err}
use Rattle.rules.specs.declared.NoForm.{NoForm}
use Rattle.rules.specs.declared.NoForm.TheVariants as no_form
use Rattle.rules.specs.declared.NoTree.{NoTree}
use Rattle.rules.specs.Value.{eval_tree}
use Rattle.rules.specs.Range.{rate_tree, fits_range}
use Rattle.rules.specs.Pool.{Pool, tree_of, is_tree}

abbrev pub no_tree : NoTree
no_tree = record {}

abbrev pub form_of : Option ℕ → Result ℕ NoForm
form_of (Some x) = Ok x
form_of None = Err no_form.ZeroModulus

abbrev pub range_of : Option (ℕ × ℕ) → Result (Option (ℕ × ℕ)) NoTree
range_of (Some (l, h)) = Ok (Some (l, h))
range_of None = Ok None

abbrev pub fitting : Bool → Result Bool NoTree
fitting true = Ok true
fitting false = Ok false

-- the value of the rule at a count
unfoldable pub resolved_of : Pool → ℕ → ℕ → ℕ → Result ℕ NoForm
resolved_of P count root n = elim (is_tree P count root) [ true ↦ form_of (eval_tree (tree_of P root) n) | false ↦ Err no_form.NoTree ]

-- its range
unfoldable pub rated_of : Pool → ℕ → ℕ → Result (Option (ℕ × ℕ)) NoTree
rated_of P count root = elim (is_tree P count root) [ true ↦ range_of (rate_tree (tree_of P root)) | false ↦ Err no_tree ]

-- whether it fits k
unfoldable pub fit_of : Pool → ℕ → ℕ → ℕ → Result Bool NoTree
fit_of P count root k = elim (is_tree P count root) [ true ↦ fitting (fits_range (rate_tree (tree_of P root)) k) | false ↦ Err no_tree ]
