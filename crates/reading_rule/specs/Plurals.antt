-- SPEC 6 and 2; SPEC 1 and 5: what a text, trimmed of White_Space, is as a plural rule in a
-- reading, a tree or a refusal, and what the caller's arrays then hold.
use Rattle.std.specs.Prelude.{ℕ, ◌≡◌, Bool, true, false, List, length, ltb, Result, Ok, Err}
use Rattle.text.specs.Bytes.{all}
use Rattle.text_trim.specs.Trim.{trim, white_space}
use Rattle.refusal.specs.Places.{at}
use Rattle.refusal.specs.declared.Where.{Where}
use Rattle.refusal.specs.declared.Refusal.{Refusal}
use Rattle.refusal.specs.declared.Error.TheVariants.{PluralParsing, RuleTooLong}
use Rattle.rules.specs.Tree as tree
use Rattle.rules.specs.Tree.{Tree, default_tree}
use Rattle.rules.specs.Pool.{Pool}
use Rattle.rules.specs.Pack.{packed_size, packed}
use Rattle.reading_grammar.specs.Reading.{standard}
use Rattle.reading_shipped.specs.Shipped.{shipped}
use Rattle.reading_rule.specs.declared.Reading.{Reading}
use Rattle.reading_rule.specs.declared.Reading.TheVariants.{Shipped, Standard}

-- a rule, or why and where there is none
pub data Parse : Type 0 where
  rule : Tree → Parse
  norule : Refusal → Parse

-- what the chosen reading makes of a text
abbrev pub read_as : Reading → List ℕ → tree.Reading
read_as Shipped s = shipped s
read_as Standard s = standard s

unfoldable pub made : Where → tree.Reading → Parse
made place (tree.tree t) = rule t
made place tree.none = norule (at place PluralParsing)

abbrev pub is_ascii : ℕ → Bool
is_ascii b = ltb b 128

-- a trimmed text: its length comes first, then its bytes, then its reading
unfoldable pub tested : Where → Reading → List ℕ → Parse
tested place reading s =
    elim (ltb 512 (length s)) [
      | true ↦ norule (at place RuleTooLong)
      | false ↦ elim (all is_ascii s) [ true ↦ made place (read_as reading s) | false ↦ norule (at place PluralParsing) ]
    ]

-- of a text at a place
unfoldable pub parsed : Where → Reading → List ℕ → Parse
parsed place reading s = tested place reading (trim white_space s)

-- the default rule stands for a refused one
abbrev pub tree_in : Parse → Tree
tree_in (rule t) = t
tree_in (norule e) = default_tree

-- how many nodes the rule has, or the refusal
abbrev pub outcome_of : Parse → Result ℕ Refusal
outcome_of (rule t) = Ok (packed_size t)
outcome_of (norule e) = Err e

-- the outcome, and the tree packed and alone in the arrays, which at exit are Q
pub record Parses (p : Parse) (Q : Pool) (r : Result ℕ Refusal) : Type 0 where
  pub outcome : r ≡ outcome_of p
  pub stored : Q ≡ packed (tree_in p)
