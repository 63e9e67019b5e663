-- Programs that the promises exclude: those that document 01, "How closely the promises bind", asks to see rejected, and one for each clause
-- of demand 3. Each theorem is named after the program that it speaks against, and says what the contract asks on a file or rule of any
-- result that it allows; the program named answers otherwise. Assumes nothing.
use Prim.Native.Nat.{ℕ}
use mathlib.Core.Path.{◌≡◌, subst, ap}
use mathlib.Core.Bool.{Bool, false}
use mathlib.Core.List.{List, [], ◌∷◌, ◌++◌}
use lib.ListN.{length, take, set}
use lib.Dec.{leb}
use denote.Ref.{Bor}
use Rattle.std.specs.Prelude.{Option, Some, Result, Ok}
use Rattle.text.specs.Bytes.{front, all, bytes, same, begins, first}
use Rattle.text.specs.Cut.{cut, every}
use Rattle.text_trim.specs.Trim.{trim, trim_start, trim_end, edge_after, lead, encode}
use Rattle.text_utf8.specs.Utf8.{utf8, rest}
use Rattle.refusal.specs.declared.Where.TheVariants.{Forced}
use Rattle.refusal.specs.Numbers.{number_of}
use Rattle.refusal.specs.declared.Error.TheVariants.{BadRecord}
use Rattle.refusal.specs.declared.Refusal.{Refusal}
use Rattle.rules.specs.Tree.{var, int, bin, rem, default_tree}
use Rattle.rules.specs.Value.{eval_tree, binary}
use Rattle.rules.specs.Range.{rate_tree, bin_range, op_range}
use Rattle.rules.specs.Operator.{op_at, op_of, op_code}
use Rattle.rules.specs.Pool.{Pool, tree_at, tree_of, operands_to, operands, all_below, used, member, distinct, shaped, is_tree}
use Rattle.rules.specs.Store.{zeros, blank}
use Rattle.rules.specs.Pack.{number_of as integerIn, is_count, is_rem, left_of, pack, nodes, keep, packed}
use Rattle.rules.specs.Answer.{resolved_of, rated_of}
use Rattle.rules.specs.declared.NoForm.{NoForm}
use Rattle.rules.specs.declared.NoTree.{NoTree}
use Rattle.text_digits.specs.Digits.{digits_from, integer}
use Rattle.reading_scan.specs.Scan.{index_from, index_of, end_from}
use Rattle.reading_shipped.specs.Shipped.{shipped, parse_in, parens, level, choose, read_not}
use Rattle.reading_rule.specs.Plurals.{made, tested, parsed, Parses}
use Rattle.reading_rule.specs.declared.Reading.TheVariants.{Shipped}
use Rattle.header_fields.specs.Fields.{named, last_of}
use Rattle.header.specs.Header.{charset, plural, metadata, utf8_label}
use Rattle.container_layout.specs.Mo.{word, string, context_end, id_start, id_end, context, id, entry, piece_at, segment}
use Rattle.container_layout.specs.declared.Tables.{Tables}
use Rattle.container_messages.specs.Messages.{original_of, read_at}
use Rattle.container_head.specs.Head.{order_of, head_of}
use Rattle.container_rule.specs.Rule.{rule_at, file_forms}
use Rattle.container.specs.Catalog.{header, entry_step, entries_from, opened, load}
use Rattle.container.specs.declared.Options.{Options}
use Rattle.lookup_scan.specs.Keys.{last_in, last_with}
use Rattle.lookup.specs.Lookup as lookup
use Rattle.lookup.specs.Text.{IsPart, IsText, part_or, singular_text}
use Rattle.lookup.specs.declared.Reason.{Reason}
use Rattle.lookup.specs.declared.Reason.TheVariants.{Answered}
use Rattle.host.specs.Host as host
use Rattle.host.specs.Host.{tables_in, answer_of}
use Rattle.host.specs.declared.Answer.{Answer}
use Rattle.host.specs.declared.Loaded.{Loaded}
use Rattle.gettext_c.specs.Record.{Loads, counted}
use Rattle.gettext_c.proofs.Fresh.{fresh_never_11_counted}
use Rattle.starred.specs.Table.{file_f, file_g}
use Rattle.starred.proofs.Table.{plain}

-- a load that refuses everything; a record with an invented entry count
module _ {Q : Pool} (r : Loaded) (promise : Loads (load plain [] file_f) Q r) where
  pub against_refuses_everything : r.number ≡ 0
  unfolding load opened file_forms entries_from entry_step header rule_at read_at original_of head_of order_of word string context_end id_start id_end context id utf8 rest front every cut
  against_refuses_everything = promise.number_is

  pub against_invented_count : (tables_in r.head).count ≡ 1
  unfolding load opened file_forms entries_from entry_step header rule_at read_at original_of head_of order_of word string context_end id_start id_end context id utf8 rest front every cut
  against_invented_count = ap (λ (t : Tables). t.count) promise.tables_are

abbrev tables : ℕ → Tables
tables n = record { length = n; big = false; count = 1; originals = 28; translations = 36 }

-- a lookup that hands back the id every time; one that returns form 0 always
pub against_id_every_time : (r : Reason) → r ≡ lookup.singular file_f (tables 48) (last_with file_f (tables 48) (bytes "a")) → r ≡ Answered 0 0 46 1
unfolding lookup.plural last_with last_in entry word string id_start id_end front same cut piece_at segment
against_id_every_time r promise = promise

-- and by the text that is returned: that part of the file
pub against_id_every_time_in_text : (file id r : Bor (List ℕ)) → file.now ≡ file_f
    → IsText file id id (singular_text (lookup.singular file_f (tables 48) (last_with file_f (tables 48) (bytes "a")))) r → IsPart file 46 1 r
unfolding lookup.plural last_with last_in entry word string id_start id_end front same cut piece_at segment
against_id_every_time_in_text file id r e promise =
    subst (λ (b : Bool). part_or b file 46 1 id r) (ap (λ (s : List ℕ). leb 47 (length s)) e) promise.says

pub against_form_0_always : (r : Reason) → r ≡ lookup.plural file_g (tables 50) (resolved_of (packed default_tree) 1 0 2) (last_with file_g (tables 50) (bytes "a"))
    → r ≡ Answered 0 1 48 1
unfolding lookup.plural last_with last_in entry word string id_start id_end front same cut piece_at segment
    resolved_of eval_tree binary op_at op_of op_code tree_at tree_of operands_to operands all_below used member distinct shaped is_tree zeros blank integerIn is_count is_rem left_of pack nodes keep packed
against_form_0_always r promise = promise

-- a reading that calls every rule n
pub against_every_rule_n : {Q : Pool} (r : Result ℕ Refusal) → Parses (parsed Forced Shipped (bytes "+7")) Q r → Q ≡ packed (int 7)
unfolding parsed tested made all trim trim_start trim_end edge_after lead encode begins shipped parse_in parens level choose read_not index_of index_from end_from integer digits_from
against_every_rule_n r promise = promise.stored

-- a rating that never rates: n%10
pub against_never_rates : (r : Result (Option (ℕ × ℕ)) NoTree) → r ≡ rated_of (packed (bin rem var (int 10))) 1 0 → r ≡ Ok (Some (0, 9))
unfolding rated_of rate_tree bin_range op_range op_at op_of op_code tree_at tree_of operands_to operands all_below used member distinct shaped is_tree zeros blank integerIn is_count is_rem left_of pack nodes keep packed
against_never_rates r promise = promise

-- an evaluator stuck at 0
pub against_stuck_at_0 : (r : Result ℕ NoForm) → r ≡ resolved_of (packed (int 7)) 1 0 5 → r ≡ Ok 7
unfolding resolved_of eval_tree op_at op_of op_code tree_at tree_of operands_to operands all_below used member distinct shaped is_tree zeros blank integerIn is_count is_rem left_of pack nodes keep packed
against_stuck_at_0 r promise = promise

-- demand 3: a lookup that answers the lowest form at every count. The default rule's lowest form is 0; G's "a" at 2 is form 1, byte 48
pub against_lowest_form : (a : Answer) → a ≡ answer_of 2 (counted file_g (host.head_of (tables 50) 1) (packed default_tree) (bytes "a") 2) → (a.form ≡ 1) × (a.start ≡ 48)
unfolding lookup.plural last_with last_in entry word string id_start id_end front same cut piece_at segment
    resolved_of eval_tree binary op_at op_of op_code tree_at tree_of operands_to operands all_below used member distinct shaped is_tree zeros blank integerIn is_count is_rem left_of pack nodes keep packed
against_lowest_form a promise = (ap (λ (x : Answer). x.form) promise, ap (λ (x : Answer). x.start) promise)

-- a load with another rule than the header's: the file H has the empty id at entry 0, and its header says n%3
abbrev pub file_h : List ℕ
file_h = set (set (take 44 file_f) 28 0) 36 24 ++ 0 ∷ 0 ∷ bytes "Plural-Forms: plural=n%3" ++ 0 ∷ []

pub against_other_rule : {Q : Pool} (r : Loaded) → Loads (load plain [] file_h) Q r → Q ≡ packed (bin rem var (int 3))
unfolding load opened file_forms entries_from entry_step header rule_at read_at original_of head_of order_of word string context_end id_start id_end context id utf8 rest front every cut
    trim trim_start trim_end edge_after lead encode same begins first named last_of charset plural metadata utf8_label
    parsed tested made all shipped parse_in parens level choose read_not index_of index_from end_from integer digits_from
against_other_rule r promise = promise.rule_is

-- 11 for a fresh record and the bytes that it was loaded from, whatever they are
pub against_11_for_fresh : (o : Options) (f s : List ℕ) {Q : Pool} {r : Loaded} → Loads (load o f s) Q r → r.number ≡ 0 → (key : List ℕ) (n : ℕ)
    → lookup.number (counted s r.head Q key n) ≡ number_of BadRecord → ⊥
against_11_for_fresh o f s promise zero key n = fresh_never_11_counted o f s promise zero key n
