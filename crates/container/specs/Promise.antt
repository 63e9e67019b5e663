-- What the functions of this crate promise of an answer: in arrays that are lent, and as a record.
use Rattle.std.specs.Prelude.{ℕ, ◌-◌, ◌≡◌, Option, None, Result, Ok, Err}
use Rattle.refusal.specs.declared.Refusal.{Refusal}
use Rattle.rules.specs.Tree.{Tree, default_tree}
use Rattle.rules.specs.Pool.{Pool, pool}
use Rattle.rules.specs.Pack.{packed, packed_size}
use Rattle.container_layout.specs.declared.Tables.{Tables}
use Rattle.container.specs.Catalog.{Answer, accepted, refused, no_tables, tables_in, tree_in, forms_in}
use Rattle.container.specs.declared.Record.{Record}
use Rattle.container.specs.declared.Loading.{Loading}
use Rattle.container.specs.declared.Loaded as loaded

abbrev pub outcome_of : Answer → Result Unit Refusal
outcome_of (accepted t r n) = Ok tt
outcome_of (refused e) = Err e

-- the empty catalog, with that outcome; Q are the arrays at exit
pub record Empties (b : Result Unit Refusal) (Q : Pool) (r : Loading) : Type 0 where
  pub outcome_is : r.outcome ≡ b
  pub tables_are : r.tables ≡ no_tables
  pub nodes_are : r.nodes ≡ packed_size default_tree
  pub rule_is : Q ≡ packed default_tree
  pub forms_are : r.forms ≡ None

-- what a load answers
pub record Loads (a : Answer) (Q : Pool) (r : Loading) : Type 0 where
  pub outcome_is : r.outcome ≡ outcome_of a
  pub tables_are : r.tables ≡ tables_in a
  pub nodes_are : r.nodes ≡ packed_size (tree_in a)
  pub rule_is : Q ≡ packed (tree_in a)
  pub forms_are : r.forms ≡ forms_in a

-- a record of those tables, that rule, whose root is its last node, and that count
pub record Holds (t : Tables) (tree : Tree) (n : Option ℕ) (r : Record) : Type 0 where
  pub tables_are : r.tables ≡ t
  pub rule_is : pool r.codes r.places r.values ≡ packed tree
  pub nodes_are : r.nodes ≡ packed_size tree
  pub root_is : r.root ≡ packed_size tree - 1
  pub forms_are : r.forms ≡ n

abbrev pub Empty : Record → Type 0
Empty r = Holds no_tables default_tree None r

pub record Opens (a : Answer) (r : loaded.Loaded) : Type 0 where
  pub outcome_is : r.outcome ≡ outcome_of a
  pub holds : Holds (tables_in a) (tree_in a) (forms_in a) r.record
