-- What the layers below take and answer, as numbers. SPEC 2, 2.1 and 8.
use Rattle.std.specs.Prelude.{ℕ, ◌-◌, ◌%◌, Bool, true, false, not, List, [], ◌∷◌, get_or, eqb, Option, Some, None, Result, Ok, Err}
use Rattle.std.specs.Borrow.{Bor}
use Rattle.refusal.specs.Numbers.{number_of, outcome_number}
use Rattle.refusal.specs.Places.{index_of, side_of, outcome_place, side_number, named, index_or0}
use Rattle.refusal.specs.declared.Refusal.{Refusal}
use Rattle.refusal.specs.declared.Error.TheVariants.{ZeroModulus, BadRecord, RuleTooLong}
use Rattle.rules.specs.Value.{truth}
use Rattle.rules.specs.declared.NoForm.{NoForm}
use Rattle.rules.specs.declared.NoForm.TheVariants as no_form
use Rattle.rules.specs.declared.NoTree.{NoTree}
use Rattle.rules.specs.declared.Rule.{Rule}
use Rattle.reading_rule.specs.declared.Reading.{Reading}
use Rattle.reading_rule.specs.declared.Reading.TheVariants.{Shipped, Standard}
use Rattle.container_layout.specs.declared.Tables.{Tables}
use Rattle.container.specs.declared.Options.{Options}
use Rattle.container.specs.declared.Loading.{Loading}
use Rattle.lookup_scan.specs.declared.Key.{Key}
use Rattle.lookup.specs.Lookup.{number}
use Rattle.lookup.specs.declared.Reason.{Reason}
use Rattle.lookup.specs.declared.Reason.TheVariants as reason
use Rattle.host.specs.declared.Loaded.{Loaded}
use Rattle.host.specs.declared.Answer.{Answer}
use Rattle.host.specs.declared.Rating.{Rating}
use Rattle.host.specs.declared.Fits.{Fits}
use Rattle.host.specs.declared.Form.{Form}
use Rattle.host.specs.declared.Written.{Written}
use Rattle.rules_text.specs.declared.Unwritten.{Unwritten}
use Rattle.rules_text.specs.declared.Unwritten.TheVariants as unwritten

-- any number but 0 is yes
abbrev pub is_set : ℕ → Bool
is_set x = not (eqb x 0)

abbrev pub reading_of : ℕ → Reading
reading_of x = elim (is_set x) [ true ↦ Standard | false ↦ Shipped ]

abbrev pub options_of : ℕ → ℕ → ℕ → ℕ → Options
options_of forced standard utf8 fit = record { forced = is_set forced; reading = reading_of standard; utf8 = is_set utf8; fit = is_set fit }

-- a record without the arrays of its rule as seven numbers; its last node is the root
abbrev pub head_of : Tables → ℕ → List ℕ
head_of t nodes = t.length ∷ t.count ∷ t.originals ∷ t.translations ∷ truth t.big ∷ nodes ∷ (nodes - 1) ∷ []

-- where a load failed: the side, whether an entry is named, and its index
abbrev pub side_of_load : Result Unit Refusal → ℕ
side_of_load b = side_number (side_of (outcome_place b))

abbrev pub entered_by : Result Unit Refusal → ℕ
entered_by b = truth (named (index_of (outcome_place b)))

abbrev pub entry_of_load : Result Unit Refusal → ℕ
entry_of_load b = index_or0 (index_of (outcome_place b))

-- the count of forms: whether it is given, and what it is, 0 where it is not; and what two such numbers say
abbrev pub counted_by : Option ℕ → ℕ
counted_by (Some k) = 1
counted_by None = 0

abbrev pub count_by : Option ℕ → ℕ
count_by (Some k) = k
count_by None = 0

abbrev pub forms_in : ℕ → ℕ → Option ℕ
forms_in counted k = elim (is_set counted) [ true ↦ Some k | false ↦ None ]

abbrev pub loaded_of : Loading → Loaded
loaded_of r = record {
  number = outcome_number r.outcome;
  side = side_of_load r.outcome;
  entered = entered_by r.outcome;
  counted = counted_by r.forms;
  entry = entry_of_load r.outcome;
  forms = count_by r.forms;
  head = head_of r.tables r.nodes;
}

-- what such numbers say; a word of a file has 32 bits, and of a larger number the low 32 count
abbrev pub tables_in : List ℕ → Tables
tables_in h = record {
  length = get_or h 0 0;
  big = is_set (get_or h 4 0);
  count = get_or h 1 0 % 4294967296;
  originals = get_or h 2 0 % 4294967296;
  translations = get_or h 3 0 % 4294967296;
}

abbrev pub nodes_in : List ℕ → ℕ
nodes_in h = get_or h 5 0

abbrev pub root_in : List ℕ → ℕ
root_in h = get_or h 6 0

-- the rule of a head and of the arrays of nodes beside it; the key of an id, and of a context if one is given
abbrev pub rule_in : List ℕ → Bor (List ℕ) → Bor (List ℕ) → Bor (List ℕ) → Rule
rule_in h codes places values =
    record { nodes = record { codes = codes; places = places; values = values }; count = nodes_in h; root = root_in h }

abbrev pub key_in : ℕ → Bor (List ℕ) → Bor (List ℕ) → Key
key_in given context id = record { context = elim (is_set given) [ true ↦ Some context | false ↦ None ]; id = id }

-- which text answers: 0 is the segment, 1 the id, 2 the plural id; with a count the caller's own is the id for 1
abbrev pub own_for : ℕ → ℕ
own_for n = elim (eqb n 1) [ true ↦ 1 | false ↦ 2 ]

abbrev pub fallback : ℕ → ℕ → Answer
fallback number own = record { number = number; which = own; entry = 0; form = 0; start = 0; len = 0 }

abbrev pub answer_of : ℕ → Reason → Answer
answer_of own (reason.Answered i form start len) = record { number = 0; which = 0; entry = i; form = form; start = start; len = len }
answer_of own reason.StaleLength = fallback (number reason.StaleLength) own
answer_of own reason.NoTree = fallback (number reason.NoTree) own
answer_of own reason.IndexRoom = fallback (number reason.IndexRoom) own
answer_of own reason.ZeroModulus = fallback (number reason.ZeroModulus) own
answer_of own reason.NoEntry = fallback (number reason.NoEntry) own
answer_of own (reason.TooFewSegments i) = fallback (number (reason.TooFewSegments i)) own

abbrev pub rating_of : Result (Option (ℕ × ℕ)) NoTree → Rating
rating_of (Ok (Some (l, h))) = record { number = 0; rated = 1; lowest = l; highest = h }
rating_of (Ok None) = record { number = 0; rated = 0; lowest = 0; highest = 0 }
rating_of (Err x) = record { number = number_of BadRecord; rated = 0; lowest = 0; highest = 0 }

abbrev pub fits_of : Result Bool NoTree → Fits
fits_of (Ok true) = record { number = 0; fits = 1 }
fits_of (Ok false) = record { number = 0; fits = 0 }
fits_of (Err x) = record { number = number_of BadRecord; fits = 0 }

abbrev pub written_of : Result ℕ Unwritten → Written
written_of (Ok n) = record { number = 0; len = n }
written_of (Err unwritten.TooLong) = record { number = number_of RuleTooLong; len = 0 }
written_of (Err unwritten.NoTree) = record { number = number_of BadRecord; len = 0 }

abbrev pub value_of : Result ℕ NoForm → Form
value_of (Ok x) = record { number = 0; form = x }
value_of (Err no_form.ZeroModulus) = record { number = number_of ZeroModulus; form = 0 }
value_of (Err no_form.NoTree) = record { number = number_of BadRecord; form = 0 }
