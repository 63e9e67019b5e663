-- Files to try, F and its variants, computed from the definition; those that are starred stand in the table of crate `starred`. Assumes
-- nothing.
use Prim.Native.Nat.{ℕ, zero, suc}
use mathlib.Core.Path.{◌≡◌, refl}
use mathlib.Core.Bool.{Bool, true, false}
use mathlib.Core.List.{List, [], ◌∷◌, ◌++◌, map}
use Rattle.std.specs.Prelude.{Option, Some, None}
use Rattle.text.specs.declared.Stretch.{Stretch}
use Rattle.container_layout.specs.declared.Entry as layout
use lib.ListN.{length, take, set, replicate}
use lib.Dec.{ltb}
use Rattle.text_utf8.specs.Utf8.{utf8, rest}
use Rattle.text.specs.Bytes.{bytes, all, front, same, begins, first}
use Rattle.text_trim.specs.Trim.{trim, trim_start, trim_end, edge_after, lead, encode}
use Rattle.text.specs.Cut.{cut, every}
use Rattle.header_fields.specs.Fields.{named, last_of}
use Rattle.text_digits.specs.Digits.{digits_from}
use Rattle.header_forms.specs.Forms.{count_in, last_count, form_count}
use Rattle.header.specs.Header.{charset, plural, metadata, utf8_label}
use Rattle.rules.specs.Range.{rate_tree, bin_range, op_range, cond_range, not_range, fits_range}
use Rattle.reading_grammar.specs.Tokens.{tokens, lex}
use Rattle.reading_grammar.specs.Reading.{standard}
use Rattle.reading_rule.specs.Plurals.{parsed, tested, made}
use Rattle.reading_rule.specs.declared.Reading.TheVariants.{Standard}
use Rattle.container_layout.specs.Mo.{word, string, context_end, id_start, id_end, context, id, entry, piece_at, segment}
use Rattle.container_layout.specs.declared.Tables.{Tables}
use Rattle.refusal.specs.Numbers.{number_of}
use Rattle.refusal.specs.declared.Where.{Where}
use Rattle.refusal.specs.declared.Where.TheVariants.{File, Forced, Entry}
use Rattle.refusal.specs.declared.Side.TheVariants.{Original, Translation, Header, Rule}
use Rattle.container_messages.specs.Messages.{original_of, read_at}
use Rattle.container_head.specs.Head.{order_of, head_of}
use Rattle.container.specs.Catalog.{header, entry_step, entries_from, Answer, accepted, refused, opened, load}
use Rattle.container_rule.specs.Rule.{rule_at, file_forms}
use Rattle.container.specs.declared.Options.{Options}

-- the file F of 48 bytes, and G
abbrev pub file_f : List ℕ
file_f =
    0xde ∷ 0x12 ∷ 0x04 ∷ 0x95 ∷ 0 ∷ 0 ∷ 0 ∷ 0 ∷ 1 ∷ 0 ∷ 0 ∷ 0 ∷ 0x1c ∷ 0 ∷ 0 ∷ 0 ∷ 0x24 ∷ 0 ∷ 0 ∷ 0 ∷ 0 ∷ 0 ∷ 0 ∷ 0 ∷ 0x2c ∷ 0 ∷ 0 ∷ 0
    ∷ 1 ∷ 0 ∷ 0 ∷ 0 ∷ 0x2c ∷ 0 ∷ 0 ∷ 0 ∷ 1 ∷ 0 ∷ 0 ∷ 0 ∷ 0x2e ∷ 0 ∷ 0 ∷ 0 ∷ 0x61 ∷ 0 ∷ 0x62 ∷ 0 ∷ []

abbrev pub file_g : List ℕ
file_g = set file_f 36 3 ++ 0x63 ∷ 0 ∷ []

-- a catalog whose one entry is the header h, of less than 256 bytes; and one of two entries, the second with an empty id
abbrev with_header : List ℕ → List ℕ
with_header h = set (set (take 44 file_f) 28 0) 36 (length h) ++ 0 ∷ 0 ∷ h ++ 0 ∷ []

abbrev two : List ℕ
two =
    take 8 file_f ++ 2 ∷ 0 ∷ 0 ∷ 0 ∷ 28 ∷ 0 ∷ 0 ∷ 0 ∷ 44 ∷ 0 ∷ 0 ∷ 0 ∷ replicate 8 0
    ++ 1 ∷ 0 ∷ 0 ∷ 0 ∷ 60 ∷ 0 ∷ 0 ∷ 0 ∷ 0 ∷ 0 ∷ 0 ∷ 0 ∷ 61 ∷ 0 ∷ 0 ∷ 0
    ∷ 1 ∷ 0 ∷ 0 ∷ 0 ∷ 62 ∷ 0 ∷ 0 ∷ 0 ∷ 1 ∷ 0 ∷ 0 ∷ 0 ∷ 62 ∷ 0 ∷ 0 ∷ 0 ∷ 0x61 ∷ 0 ∷ 0x62 ∷ 0 ∷ []

-- the number, 0 for a file that is accepted, the count, and where a refused load failed
pub record Seen : Type 0 where
  pub number : ℕ
  pub count : ℕ
  pub place : Option Where

abbrev loads : ℕ → Seen
loads k = record { number = 0; count = k; place = None }

abbrev fails : ℕ → Where → Seen
fails n w = record { number = n; count = 0; place = Some w }

abbrev pub seen : Answer → Seen
seen (accepted t r n) = loads t.count
seen (refused r) = fails (number_of r.error) r.place

-- no rule is forced, nor UTF-8, and no fit is asked for
abbrev pub plain : Options
plain = record { forced = false; reading = Standard; utf8 = false; fit = false }

pub record Row : Type 0 where
  pub file : List ℕ
  pub gives : Seen

abbrev row : List ℕ → Seen → Row
row s r = record { file = s; gives = r }

abbrev pub rows : List Row
rows =
    row file_f (loads 1)
    -- the byte after a translation is not looked at; the one after an original ends the id
    ∷ row (set file_f 47 0x7a) (loads 1)
    ∷ row (set file_f 45 0x62) (fails 1 (Entry 0 Original))
    -- the context is empty and so is the id: the translation is the header, a line without a colon
    ∷ row (set file_f 44 4) (fails 4 (Entry 0 Header))
    ∷ row (set file_f 8 2) (fails 1 (Entry 1 Translation))
    ∷ row (set file_f 11 255) (fails 1 (Entry 1 Translation))
    ∷ row (set file_f 0 0) (fails 2 File)
    ∷ row (set file_f 44 255) (fails 3 (Entry 0 Original))
    ∷ row (set file_f 46 255) (fails 3 (Entry 0 Translation))
    ∷ row file_g (loads 1)
    -- no entry, and the tables at the end, and past it
    ∷ row (take 28 (set (set (set file_f 8 0) 12 28) 16 28)) (loads 0)
    -- the magic in the other byte order
    ∷ row (0x95 ∷ 0x04 ∷ 0x12 ∷ 0xde ∷ replicate 24 0) (loads 0)
    ∷ row (take 28 (set (set (set file_f 8 0) 12 29) 16 28)) (fails 1 File)
    ∷ row (take 28 (set (set (set file_f 8 0) 12 28) 16 29)) (fails 1 File)
    -- an empty id at another index; the header's translation, which is not UTF-8, its lines, its label and its rule
    ∷ row two (fails 5 (Entry 1 Original))
    ∷ row (with_header (0xFF ∷ [])) (fails 3 (Entry 0 Translation))
    ∷ row (with_header (bytes "x")) (fails 4 (Entry 0 Header))
    ∷ row (with_header (bytes "Content-Type:charset=x")) (fails 7 (Entry 0 Header))
    ∷ row (with_header (bytes "Plural-Forms:plural=" ++ 0xC3 ∷ 0xA9 ∷ [])) (fails 6 (Entry 0 Rule))
    ∷ []

pub rows_hold : map (λ r. seen (load plain [] r.file)) rows ≡ map (λ r. r.gives) rows
unfolding load opened file_forms entries_from entry_step header rule_at read_at original_of head_of order_of word string context_end id_start id_end context id utf8 rest front trim trim_start trim_end edge_after lead encode
    same begins first cut every named last_of charset plural form_count last_count count_in digits_from metadata utf8_label parsed tested all
rows_hold = refl

-- a forced rule names its side only, and comes before the file
pub forced_fails : seen (load (record { forced = true; reading = Standard; utf8 = false; fit = true }) (0x80 ∷ []) []) ≡ fails 6 Forced
unfolding load opened parsed tested all trim trim_start trim_end edge_after lead encode begins
forced_fails = refl

-- The count of forms, and the demand that the rule fit it. A row: the header of a catalog of one entry, then the number and the count with the
-- demand, then the count without, where all of them load.
abbrev fitting : Bool → List ℕ → List ℕ → Answer
fitting fit forced s = load (record { forced = ltb 0 (length forced); reading = Standard; utf8 = false; fit = fit }) forced s

abbrev kept : Answer → ℕ × Option ℕ
kept (accepted t r n) = (0, n)
kept (refused r) = (number_of r.error, None)

pub record FitRow : Type 0 where
  pub forms : List ℕ
  pub forced : List ℕ
  pub number : ℕ
  pub count : Option ℕ

abbrev header_row : List ℕ → ℕ → Option ℕ → FitRow
header_row h x n = record { forms = h; forced = []; number = x; count = n }

abbrev forced_row : List ℕ → List ℕ → ℕ → Option ℕ → FitRow
forced_row f h x n = record { forms = h; forced = f; number = x; count = n }

abbrev pub fit_rows : List FitRow
fit_rows =
    header_row (bytes "nplurals=2;plural=n!=1") 0 (Some 2)
    ∷ header_row (bytes "nplurals=3;plural=n%3") 0 (Some 3)
    -- the highest has to be below the count
    ∷ header_row (bytes "nplurals=2;plural=n%3") 13 (Some 2)
    ∷ header_row (bytes "nplurals=18446744073709551615;plural=n") 13 (Some 18446744073709551615)
    -- nothing fits 0, and a rule without a range fits nothing
    ∷ header_row (bytes "nplurals=0;plural=0") 13 (Some 0)
    ∷ header_row (bytes "nplurals=9;plural=5%n") 13 (Some 9)
    -- the default rule
    ∷ header_row (bytes "nplurals=2") 0 (Some 2)
    ∷ header_row (bytes "nplurals=1") 13 (Some 1)
    -- no count
    ∷ header_row (bytes "plural=0") 13 None
    ∷ header_row (bytes "nplurals=+1;plural=0") 13 None
    ∷ header_row (bytes "") 13 None
    -- the last well-formed one
    ∷ header_row (bytes "nplurals=1;plural=n!=1;nplurals=2;nplurals=x") 0 (Some 2)
    -- a forced rule: the header's is not read, its count is
    ∷ forced_row (bytes "n!=1") (bytes "nplurals=2;plural=(") 0 (Some 2)
    ∷ forced_row (bytes "n%3") (bytes "nplurals=2;plural=0") 13 (Some 2)
    ∷ []

abbrev pub with_forms : List ℕ → List ℕ
with_forms v = with_header (bytes "Plural-Forms:" ++ v)

abbrev if_0 : ℕ → Option ℕ → Option ℕ
if_0 zero n = n
if_0 (suc x) n = None

pub fit_rows_hold :
    (map (λ r. kept (fitting true r.forced (with_forms r.forms))) fit_rows ≡ map (λ r. (r.number, if_0 r.number r.count)) fit_rows)
    × (map (λ r. kept (fitting false r.forced (with_forms r.forms))) fit_rows ≡ map (λ r. (0, r.count)) fit_rows)
unfolding load opened file_forms entries_from entry_step header rule_at read_at original_of head_of order_of word string context_end id_start id_end context id utf8 rest front trim trim_start trim_end edge_after
    lead encode same begins first cut every named last_of charset plural form_count last_count count_in digits_from metadata utf8_label parsed tested made all standard tokens lex
    rate_tree bin_range op_range cond_range not_range fits_range
fit_rows_hold = (refl, refl)

-- 13 is the file's, and comes last: after the refusal of an entry behind the header's, and after a forced rule's
abbrev after : List ℕ → List ℕ
after id =
    take 8 file_f ++ 2 ∷ 0 ∷ 0 ∷ 0 ∷ 28 ∷ 0 ∷ 0 ∷ 0 ∷ 44 ∷ 0 ∷ 0 ∷ 0 ∷ replicate 8 0
    ++ 0 ∷ 0 ∷ 0 ∷ 0 ∷ 60 ∷ 0 ∷ 0 ∷ 0 ∷ 1 ∷ 0 ∷ 0 ∷ 0 ∷ 61 ∷ 0 ∷ 0 ∷ 0
    ∷ 0 ∷ 0 ∷ 0 ∷ 0 ∷ 60 ∷ 0 ∷ 0 ∷ 0 ∷ 0 ∷ 0 ∷ 0 ∷ 0 ∷ 60 ∷ 0 ∷ 0 ∷ 0 ∷ 0 ∷ id ++ 0 ∷ []

pub last_of_all : (seen (fitting true [] (after (0x61 ∷ []))) ≡ fails 13 File) × (seen (fitting true [] (after (0xFF ∷ []))) ≡ fails 3 (Entry 1 Original))
    × (seen (fitting true [] file_f) ≡ fails 13 File) × (seen (fitting true (bytes "(") file_f) ≡ fails 6 Forced) × (seen (fitting false [] file_f) ≡ loads 1)
unfolding load opened file_forms entries_from entry_step header rule_at read_at original_of head_of order_of word string context_end id_start id_end context id utf8 rest front trim trim_start trim_end edge_after
    lead encode same begins first cut every named last_of charset plural form_count last_count count_in digits_from metadata utf8_label parsed tested made all standard tokens lex
    rate_tree bin_range op_range cond_range not_range fits_range
last_of_all = (refl, refl, refl, refl, refl)

-- where entry 0 lies in F and in G, and its segments
abbrev tables_f : ℕ → Tables
tables_f n = record { length = n; big = false; count = 1; originals = 28; translations = 36 }

abbrev stretch_at : ℕ → ℕ → Option Stretch
stretch_at start len = Some (record { start = start; len = len })

abbrev entry_at : ℕ → ℕ → ℕ → ℕ → Option layout.Entry
entry_at key key_len start len = Some (record { key = key; key_len = key_len; start = start; len = len })

pub places_hold : (entry file_f (tables_f 48) 0 ≡ entry_at 44 1 46 1) × (entry file_g (tables_f 50) 0 ≡ entry_at 44 1 46 3)
    × (segment file_f 46 1 0 ≡ stretch_at 46 1) × (segment file_f 46 1 1 ≡ None)
    × (segment file_g 46 3 0 ≡ stretch_at 46 1) × (segment file_g 46 3 1 ≡ stretch_at 48 1) × (segment file_g 46 3 18446744073709551616 ≡ None)
unfolding entry word string id_start id_end front segment piece_at cut
places_hold = (refl, refl, refl, refl, refl, refl, refl)
