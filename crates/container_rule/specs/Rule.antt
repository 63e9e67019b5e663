-- Which rule a load goes on with. SPEC 3.1 and 3.6: the forced rule, the header's, or the default. Of the options
-- those of a header count: whether a rule is forced, and whether UTF-8 is. And which count of forms a file has.
use Rattle.std.specs.Prelude.{ℕ, zero, suc, Bool, true, false, ◌||◌, List, [], ◌∷◌, take, drop, Option, Some, None, Result, Ok, Err}
use Rattle.refusal.specs.Places.{at, in_header, in_rule}
use Rattle.refusal.specs.declared.Refusal.{Refusal}
use Rattle.refusal.specs.declared.Error.TheVariants.{MalformedMetadata, UnknownEncoding}
use Rattle.refusal.specs.declared.Where.TheVariants.{Forced}
use Rattle.rules.specs.Tree.{Tree, default_tree}
use Rattle.reading_rule.specs.Plurals.{Parse, rule, norule, parsed}
use Rattle.reading_rule.specs.declared.Reading.{Reading}
use Rattle.header_fields.specs.Fields.{shift}
use Rattle.text.specs.declared.Stretch.{Stretch}
use Rattle.header.specs.Header.{metadata, utf8_label}
use Rattle.header.specs.declared.Metadata.{Metadata}
use Rattle.container_layout.specs.Mo.{segments}
use Rattle.container_layout.specs.declared.Tables.{Tables}
use Rattle.container_messages.specs.Messages.{read_at}
use Rattle.container_messages.specs.declared.Read.{Read}
use Rattle.container_messages.specs.declared.Read.TheVariants as read
use Rattle.container_rule.specs.declared.First.{First}

-- 1. the forced rule, where one is given
abbrev pub forced_rule : Bool → Reading → List ℕ → Parse
forced_rule forced reading f = elim forced [ true ↦ parsed Forced reading f | false ↦ rule default_tree ]

-- 6. the charset label, if there is one
abbrev pub label_ok : List ℕ → Option Stretch → Bool
label_ok h (Some p) = utf8_label (take p.len (drop p.start h))
label_ok h None = true

-- where the rule lies that the header gives, and the count beside it; a forced rule stands instead of that rule
abbrev pub headed : Bool → Bool → List ℕ → Option Metadata → Result First Refusal
headed forced utf8 h None = Err (at in_header MalformedMetadata)
headed forced utf8 h (Some m) =
    elim (utf8 || label_ok h m.charset) [
      | true ↦ Ok (record { rule = elim forced [ true ↦ None | false ↦ m.rule ]; forms = m.forms })
      | false ↦ Err (at in_header UnknownEncoding)
    ]

unfoldable pub rule_at : Bool → Bool → List ℕ → Result First Refusal
rule_at forced utf8 h = headed forced utf8 h (metadata h)

-- the header is segment 0 of entry 0's translation
abbrev pub segment0 : List (List ℕ) → List ℕ
segment0 [] = []
segment0 (p ∷ ps) = p

-- where the rule of entry 0 lies, as a part of the file
abbrev pub shifted : ℕ → Result First Refusal → Result First Refusal
shifted k (Ok f) = Ok (record { rule = shift k f.rule; forms = f.forms })
shifted k (Err e) = Err e

abbrev pub header_at : Bool → Bool → List ℕ → ℕ → ℕ → Result First Refusal
header_at forced utf8 s start len = shifted start (rule_at forced utf8 (segment0 (segments s start len)))

-- without a header there is neither
abbrev pub no_header : First
no_header = record { rule = None; forms = None }

abbrev pub first_of : Bool → Bool → List ℕ → Result Read Refusal → Result First Refusal
first_of forced utf8 s (Err e) = Err e
first_of forced utf8 s (Ok read.Message) = Ok no_header
first_of forced utf8 s (Ok (read.Header p)) = header_at forced utf8 s p.start p.len

-- of a file with so many entries
abbrev pub first_from : Bool → Bool → List ℕ → Tables → ℕ → Result First Refusal
first_from forced utf8 s t zero = Ok no_header
first_from forced utf8 s t (suc k) = first_of forced utf8 s (read_at s t 0)

unfoldable pub first_rule : Bool → Bool → List ℕ → Tables → Result First Refusal
first_rule forced utf8 s t = first_from forced utf8 s t t.count

-- the count of forms of a file: that of the header, which is entry 0's; absent where there is none
abbrev pub count_of : Option Metadata → Option ℕ
count_of (Some m) = m.forms
count_of None = None

abbrev pub forms_read : List ℕ → Result Read Refusal → Option ℕ
forms_read s (Ok (read.Header p)) = count_of (metadata (segment0 (segments s p.start p.len)))
forms_read s (Ok read.Message) = None
forms_read s (Err e) = None

abbrev pub forms_from : List ℕ → Tables → ℕ → Option ℕ
forms_from s t zero = None
forms_from s t (suc k) = forms_read s (read_at s t 0)

unfoldable pub file_forms : List ℕ → Tables → Option ℕ
file_forms s t = forms_from s t t.count

-- the rule at that place of a text, in place of the one before
abbrev pub rule_by : Reading → List ℕ → Tree → Option Stretch → Parse
rule_by reading s t (Some p) = parsed in_rule reading (take p.len (drop p.start s))
rule_by reading s t None = rule t

abbrev pub rule_in : Reading → List ℕ → Tree → Result First Refusal → Parse
rule_in reading s t (Ok f) = rule_by reading s t f.rule
rule_in reading s t (Err e) = norule e
