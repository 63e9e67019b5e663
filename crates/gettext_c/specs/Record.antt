-- The record as a host holds it: its head, seven numbers, and the arrays of its rule, as a pool. What a load leaves in it, and what lookups
-- answer by it.
use Rattle.std.specs.Prelude.{ℕ, ◌≡◌, List, length}
use Rattle.refusal.specs.Numbers.{outcome_number}
use Rattle.rules.specs.Tree.{default_tree}
use Rattle.rules.specs.Pool.{Pool, tree_of}
use Rattle.rules_text.specs.Bracketed.{bracketed}
use Rattle.rules_text.specs.Writing.{writing_of, left_by, BoundedBy}
use Rattle.host.specs.declared.Written.{Written}
use Rattle.rules.specs.Pack.{packed, packed_size}
use Rattle.rules.specs.Answer.{resolved_of}
use Rattle.lookup_scan.specs.Keys.{last_with}
use Rattle.lookup_index.specs.Index.{sought_in, building, leaves, number}
use Rattle.lookup.specs.Lookup.{singular, plural, singular_in, plural_in}
use Rattle.lookup.specs.declared.Reason.{Reason}
use Rattle.container.specs.Catalog.{Answer, no_tables, tables_in, tree_in, forms_in}
use Rattle.container.specs.Promise.{outcome_of}
use Rattle.host.specs.Host as host
use Rattle.host.specs.Host.{head_of, side_of_load, entered_by, entry_of_load, counted_by, count_by, nodes_in, root_in}
use Rattle.host.specs.declared.Loaded.{Loaded}

-- a load answers the number, where a refused one failed, the count of forms, the head, which says the tables, and the arrays of its answer; Q are the
-- arrays at exit
pub record Loads (a : Answer) (Q : Pool) (r : Loaded) : Type 0 where
  pub number_is : r.number ≡ outcome_number (outcome_of a)
  pub side_is : r.side ≡ side_of_load (outcome_of a)
  pub entered_is : r.entered ≡ entered_by (outcome_of a)
  pub entry_is : r.entry ≡ entry_of_load (outcome_of a)
  pub counted_is : r.counted ≡ counted_by (forms_in a)
  pub forms_are : r.forms ≡ count_by (forms_in a)
  pub head_is : r.head ≡ head_of (tables_in a) (packed_size (tree_in a))
  pub tables_are : host.tables_in r.head ≡ tables_in a
  pub rule_is : Q ≡ packed (tree_in a)

pub record IsEmpty (Q : Pool) (r : Loaded) : Type 0 where
  pub number_is : r.number ≡ 0
  pub side_is : r.side ≡ 0
  pub entered_is : r.entered ≡ 0
  pub entry_is : r.entry ≡ 0
  pub counted_is : r.counted ≡ 0
  pub forms_are : r.forms ≡ 0
  pub head_is : r.head ≡ head_of no_tables (packed_size default_tree)
  pub tables_are : host.tables_in r.head ≡ no_tables
  pub rule_is : Q ≡ packed default_tree

-- a lookup of a key in the file s by a head h, and one with a count and the rule P
abbrev pub found : List ℕ → List ℕ → List ℕ → Reason
found s h key = singular s (host.tables_in h) (last_with s (host.tables_in h) key)

abbrev pub counted : List ℕ → List ℕ → Pool → List ℕ → ℕ → Reason
counted s h P key n = plural s (host.tables_in h) (resolved_of P (nodes_in h) (root_in h) n) (last_with s (host.tables_in h) key)

-- building an index by a head answers the number, and leaves these slots of those lent
pub record Indexes (s h lent slots : List ℕ) (n : ℕ) : Type 0 where
  pub number_is : n ≡ number (building s (host.tables_in h) (length lent))
  pub slots_are : slots ≡ leaves s (host.tables_in h) lent (building s (host.tables_in h) (length lent))

-- the lookups in lent slots
abbrev pub found_in : List ℕ → List ℕ → List ℕ → List ℕ → Reason
found_in s h slots key = singular_in s (host.tables_in h) (sought_in s (host.tables_in h) slots key)

abbrev pub counted_in : List ℕ → List ℕ → List ℕ → Pool → List ℕ → ℕ → Reason
counted_in s h slots P key n = plural_in s (host.tables_in h) (resolved_of P (nodes_in h) (root_in h) n) (sought_in s (host.tables_in h) slots key)

-- writing the rule's text answers the number and the length, and leaves the text and the rest in the buffer, which was old and is new; the
-- integers of a rule that was written are below 2^64
pub record Writes (P : Pool) (h : List ℕ) (old new : List ℕ) (r : Written) : Type 0 where
  pub answer : r ≡ host.written_of (writing_of P (nodes_in h) (root_in h) (length old))
  pub left : new ≡ left_by (writing_of P (nodes_in h) (root_in h) (length old)) (bracketed (tree_of P (root_in h))) old
  pub bounded : BoundedBy (writing_of P (nodes_in h) (root_in h) (length old)) (tree_of P (root_in h))
