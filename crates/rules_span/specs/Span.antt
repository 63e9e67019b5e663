-- How often each form occurs over a span of counts. SPEC 13: "report how many fall on each form 0 to 15, how many above, and how many
-- meet a zero remainder". 18 figures, in this order.
use Rattle.std.specs.Prelude.{ℕ, zero, suc, ◌+◌, ◌-◌, Bool, true, false, ◌&&◌, List, [], ◌∷◌, get_or, set, replicate, leb, ltb, eqb, Option, Some, None, Result, Ok, Err}
use Rattle.refusal.specs.Numbers.{number_of}
use Rattle.refusal.specs.declared.Error.TheVariants as error
use Rattle.rules.specs.Tree.{Tree}
use Rattle.rules.specs.Value.{eval_tree, truth}
use Rattle.rules.specs.Pool.{Pool, tree_of, is_tree}
use Rattle.rules_span.specs.declared.Uncounted.{Uncounted}
use Rattle.rules_span.specs.declared.Uncounted.TheVariants.{BadSpan, NoTree}

-- the line that a value counts on
unfoldable pub line_of : Option ℕ → ℕ
line_of (Some form) = elim (ltb form 16) [ true ↦ form | false ↦ 16 ]
line_of None = 17

abbrev pub no_figures : List ℕ
no_figures = replicate 18 0

-- one more on a line
unfoldable pub bump : List ℕ → ℕ → List ℕ
bump figures line = set figures line (get_or figures line 0 + 1)

-- of the k counts from a on
unfoldable pub tallied : Tree → ℕ → ℕ → List ℕ
unfolding bump line_of
tallied t a zero = no_figures
tallied t a (suc k) = bump (tallied t a k) (line_of (eval_tree t (a + k)))

-- the same of one line, by itself
unfoldable pub falls : Tree → ℕ → ℕ → ℕ → ℕ
unfolding line_of
falls t a zero line = 0
falls t a (suc k) line = falls t a k line + truth (eqb (line_of (eval_tree t (a + k))) line)

abbrev pub total : List ℕ → ℕ
total [] = 0
total (x ∷ l) = x + total l

-- a span of at most 1,000,000 counts, b counted in
unfoldable pub is_span : ℕ → ℕ → Bool
is_span a b = leb a b && leb (b - a) 999999

-- the tree is tested first, then the span
abbrev pub answer : Bool → Bool → Result Unit Uncounted
answer true true = Ok tt
answer true false = Err BadSpan
answer false s = Err NoTree

unfoldable pub tally_of : Pool → ℕ → ℕ → ℕ → ℕ → Result Unit Uncounted
unfolding is_span
tally_of P nodes root a b = answer (is_tree P nodes root) (is_span a b)

abbrev pub number : Result Unit Uncounted → ℕ
number (Ok tt) = 0
number (Err BadSpan) = number_of error.BadSpan
number (Err NoTree) = number_of error.BadRecord

-- a refusal leaves no figures
abbrev pub figures_in : Result Unit Uncounted → Tree → ℕ → ℕ → List ℕ
figures_in (Ok tt) t a b = tallied t a (b - a + 1)
figures_in (Err e) t a b = no_figures

unfoldable pub figures_of : Pool → ℕ → ℕ → ℕ → ℕ → List ℕ
unfolding tally_of tallied
figures_of P nodes root a b = figures_in (tally_of P nodes root a b) (tree_of P root) a b
