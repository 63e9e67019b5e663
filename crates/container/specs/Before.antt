-- Loading without places: the numbers of SPEC 3 alone, in the order of its stages, as they were before a refusal said where (SPEC 2.1) and
-- a count was kept (SPEC 3.8). proofs/Before.antt shows that `load` without a demand for a fit, its places and counts forgotten, is this
-- (`forgotten`).
use Rattle.std.specs.Prelude.{ℕ, zero, suc, true, false, ◌||◌, List, length, take, drop, ltb, Option, Some, None, Result, Ok, Err}
use Rattle.text.specs.Bytes.{all}
use Rattle.text_trim.specs.Trim.{trim, white_space}
use Rattle.refusal.specs.declared.Error.{Error}
use Rattle.refusal.specs.declared.Error.TheVariants.{MalformedMetadata, PluralParsing, UnknownEncoding, RuleTooLong}
use Rattle.rules.specs.Tree as tree
use Rattle.rules.specs.Tree.{Tree, default_tree}
use Rattle.reading_rule.specs.Plurals.{read_as, is_ascii}
use Rattle.reading_rule.specs.declared.Reading.{Reading}
use Rattle.text.specs.declared.Stretch.{Stretch}
use Rattle.header.specs.Header.{metadata}
use Rattle.header.specs.declared.Metadata.{Metadata}
use Rattle.container_layout.specs.Mo.{segments}
use Rattle.container_layout.specs.declared.Tables.{Tables}
use Rattle.container_messages.specs.Before as read
use Rattle.container_head.specs.Head.{head_of}
use Rattle.container_rule.specs.Rule.{label_ok, segment0}
use Rattle.container.specs.declared.Options.{Options}

-- a stage's rule, or why there is none
pub data Stage : Type 0 where
  hands : Tree → Stage
  stops : Error → Stage

abbrev pub and_then : Stage → (Tree → Stage) → Stage
and_then (hands t) f = f t
and_then (stops e) f = stops e

-- a rule's text
abbrev pub made : tree.Reading → Stage
made (tree.tree t) = hands t
made tree.none = stops PluralParsing

abbrev pub tested : Reading → List ℕ → Stage
tested reading s =
    elim (ltb 512 (length s)) [
      | true ↦ stops RuleTooLong
      | false ↦ elim (all is_ascii s) [ true ↦ made (read_as reading s) | false ↦ stops PluralParsing ]
    ]

abbrev pub parsed : Reading → List ℕ → Stage
parsed reading s = tested reading (trim white_space s)

-- the header h; r is the rule so far
abbrev pub ruled : Options → List ℕ → Tree → Option Stretch → Stage
ruled o h r (Some p) = parsed o.reading (take p.len (drop p.start h))
ruled o h r None = hands r

abbrev pub headed : Options → List ℕ → Tree → Option Metadata → Stage
headed o h r None = stops MalformedMetadata
headed o h r (Some m) =
    elim (o.utf8 || label_ok h m.charset) [ true ↦ ruled o h r (elim o.forced [ true ↦ None | false ↦ m.rule ]) | false ↦ stops UnknownEncoding ]

-- an entry
abbrev pub entry_of : Options → List ℕ → Tree → read.Read → Stage
entry_of o s r (read.refused e) = stops e
entry_of o s r read.message = hands r
entry_of o s r (read.header start len) = let h = segment0 (segments s start len) in headed o h r (metadata h)

-- k entries from index i on
unfoldable pub entries_from : Options → List ℕ → Tables → ℕ → ℕ → Tree → Stage
entries_from o s t zero i r = hands r
entries_from o s t (suc k) i r = and_then (entry_of o s r (read.read_at s t i)) (entries_from o s t k (suc i))

-- a load: the tables and the rule, or the error
pub data Answer : Type 0 where
  accepted : Tables → Tree → Answer
  refused : Error → Answer

abbrev pub answered : Tables → Stage → Answer
answered t (hands r) = accepted t r
answered t (stops e) = refused e

abbrev pub catalog : Options → List ℕ → Tree → Result Tables Error → Answer
catalog o s r (Ok t) = answered t (entries_from o s t t.count 0 r)
catalog o s r (Err e) = refused e

abbrev pub load_with : Options → List ℕ → Stage → Answer
load_with o s (hands r) = catalog o s r (head_of s)
load_with o s (stops e) = refused e

unfoldable pub load : Options → List ℕ → List ℕ → Answer
load o f s = load_with o s (elim o.forced [ true ↦ parsed o.reading f | false ↦ hands default_tree ])
