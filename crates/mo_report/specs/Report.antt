-- What is said of a file. SPEC 15: the program reads in the Shipped reading.
use Rattle.std.specs.Prelude.{ℕ, false, List, ◌++◌, codes, Option, Some, None, Result, Ok, Err}
use Rattle.std.specs.Fmt.{decimal}
use Rattle.refusal.specs.declared.Refusal.{Refusal}
use Rattle.rules.specs.declared.NoTree.{NoTree}
use Rattle.rules.specs.Range.{rate_tree}
use Rattle.rules.specs.Answer.{range_of}
use Rattle.reading_rule.specs.declared.Reading.TheVariants.{Shipped}
use Rattle.container.specs.Catalog.{Answer, accepted, refused, load}
use Rattle.container.specs.declared.Options.{Options}
use Rattle.mo_report.specs.declared.Said.{Said}

-- nothing is forced, and no fit is asked for
abbrev pub options : Options
options = record { forced = false; reading = Shipped; utf8 = false; fit = false }

abbrev pub told : Answer → Result Said Refusal
told (accepted t r n) = Ok (record { entries = t.count; range = range_of (rate_tree r) })
told (refused e) = Err e

unfoldable pub report_of : List ℕ → Result Said Refusal
report_of s = told (load options s s)

-- as the programs print it: the rule's lowest and highest form, if it is rated
abbrev pub range_text : Result (Option (ℕ × ℕ)) NoTree → List ℕ
range_text (Ok (Some (l, h))) = codes "rule " ++ decimal l ++ codes " " ++ decimal h
range_text (Ok None) = codes "rule unrated"
range_text (Err x) = codes "rule unrated"

abbrev pub said_text : Said → List ℕ
said_text s = codes "entries " ++ decimal s.entries ++ codes "\n" ++ range_text s.range
