-- Loading a catalog. SPEC 3.1, 3.4 to 3.6 and 3.8. A stage hands on its value or the load ends with its refusal;
-- what is handed on from stage to stage is the rule so far.
use Rattle.std.specs.Prelude.{ℕ, zero, suc, Bool, true, false, List, Option, Some, None, Result, Ok, Err}
use Rattle.refusal.specs.Places.{at}
use Rattle.refusal.specs.declared.Error.{Error}
use Rattle.refusal.specs.declared.Error.TheVariants.{NotFit}
use Rattle.refusal.specs.declared.Refusal.{Refusal}
use Rattle.refusal.specs.declared.Where.TheVariants.{File}
use Rattle.rules.specs.Tree.{Tree, default_tree}
use Rattle.rules.specs.Range.{rate_tree, fits_range}
use Rattle.reading_rule.specs.Plurals.{Parse, rule, norule}
use Rattle.container_layout.specs.Mo.{segments}
use Rattle.container_layout.specs.declared.Tables.{Tables}
use Rattle.container_messages.specs.Messages.{read_at}
use Rattle.container_messages.specs.declared.Read.{Read}
use Rattle.container_messages.specs.declared.Read.TheVariants as read
use Rattle.container_head.specs.Head.{head_of}
use Rattle.container_rule.specs.Rule.{forced_rule, rule_at, segment0, rule_in, file_forms}
use Rattle.container.specs.declared.Options.{Options}

abbrev pub and_then : Parse → (Tree → Parse) → Parse
and_then (rule t) f = f t
and_then (norule e) f = norule e

-- 6. the header, and its rule
unfoldable pub header : Options → List ℕ → Tree → Parse
unfolding rule_at
header o h r = rule_in o.reading h r (rule_at o.forced o.utf8 h)

-- an entry; the header is segment 0 of its translation
unfoldable pub entry_step : Options → List ℕ → Tree → Result Read Refusal → Parse
unfolding header
entry_step o s r (Err e) = norule e
entry_step o s r (Ok read.Message) = rule r
entry_step o s r (Ok (read.Header p)) = header o (segment0 (segments s p.start p.len)) r

-- k entries from index i on
unfoldable pub entries_from : Options → List ℕ → Tables → ℕ → ℕ → Tree → Parse
unfolding entry_step
entries_from o s t zero i r = rule r
entries_from o s t (suc k) i r = and_then (entry_step o s r (read_at s t i)) (entries_from o s t k (suc i))

-- what a load answers: the tables, the rule and the count of forms
pub data Answer : Type 0 where
  accepted : Tables → Tree → Option ℕ → Answer
  refused : Refusal → Answer

abbrev pub answered : Tables → Option ℕ → Parse → Answer
answered t n (rule r) = accepted t r n
answered t n (norule e) = refused e

abbrev pub catalog : Options → List ℕ → Tree → Result Tables Error → Answer
catalog o s r (Ok t) = answered t (file_forms s t) (entries_from o s t t.count 0 r)
catalog o s r (Err e) = refused (at File e)

abbrev pub load_with : Options → List ℕ → Parse → Answer
load_with o s (rule r) = catalog o s r (head_of s)
load_with o s (norule e) = refused e

-- the load of a file s with options but for the last test, f being the text of the forced rule
unfoldable pub opened : Options → List ℕ → List ℕ → Answer
unfolding entries_from file_forms
opened o f s = load_with o s (forced_rule o.forced o.reading f)

-- 7. last, where the options ask for it: the rule has to fit the count, which has to be given. It is the file's refusal.
abbrev pub fits : Tree → Option ℕ → Bool
fits r (Some k) = fits_range (rate_tree r) k
fits r None = false

abbrev pub fitted : Bool → Answer → Answer
fitted true (accepted t r n) = elim (fits r n) [ true ↦ accepted t r n | false ↦ refused (at File NotFit) ]
fitted true (refused e) = refused e
fitted false a = a

unfoldable pub load : Options → List ℕ → List ℕ → Answer
unfolding opened
load o f s = fitted o.fit (opened o f s)

-- a refused load returns the empty catalog, whatever was forced: no entries, length 0, little endian, table offsets 0, default rule, no count
abbrev pub no_tables : Tables
no_tables = record { length = 0; big = false; count = 0; originals = 0; translations = 0 }

abbrev pub tables_in : Answer → Tables
tables_in (accepted t r n) = t
tables_in (refused e) = no_tables

abbrev pub tree_in : Answer → Tree
tree_in (accepted t r n) = r
tree_in (refused e) = default_tree

abbrev pub forms_in : Answer → Option ℕ
forms_in (accepted t r n) = n
forms_in (refused e) = None
