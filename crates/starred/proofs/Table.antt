-- The starred cases (specs/Table.antt) under one statement, which is computed. It speaks of the definitions that the contracts cite: `load` of
-- container, `singular` and `plural` of lookup, `parsed` of reading_rule, `eval_tree`, `rate_tree` and `fits_range` of rules. Assumes nothing.
use Prim.Native.Nat.{ℕ, ◌-◌}
use mathlib.Core.Path.{◌≡◌, refl}
use mathlib.Core.Bool.{Bool, true, false}
use mathlib.Core.List.{List, [], map}
use Rattle.std.specs.Prelude.{Option, Some, None}
use Rattle.text.specs.Bytes.{front, all, same, begins, first}
use Rattle.text.specs.Cut.{cut, every}
use Rattle.text_trim.specs.Trim.{trim, trim_start, trim_end, edge_after, lead, encode}
use Rattle.text_utf8.specs.Utf8.{utf8, rest}
use Rattle.refusal.specs.declared.Where.TheVariants.{Forced}
use Rattle.refusal.specs.Numbers.{number_of}
use Rattle.refusal.specs.declared.Error.TheVariants as error
use Rattle.rules.specs.Tree.{Tree}
use Rattle.rules.specs.Value.{eval_tree, binary, negated, chosen, truth_v}
use Rattle.rules.specs.Range.{rate_tree, bin_range, op_range, cond_range, not_range, fits_range}
use Rattle.rules.specs.Operator.{op_at, op_of, op_code}
use Rattle.rules.specs.Pool.{tree_at, tree_of, operands_to, operands, all_below, used, member, distinct, shaped, is_tree}
use Rattle.rules.specs.Store.{zeros, blank}
use Rattle.rules.specs.Pack.{number_of as integerIn, is_count, is_rem, left_of, pack, nodes, keep, packed_size, packed}
use Rattle.rules.specs.Answer.{resolved_of}
use Rattle.reading_grammar.specs.Tokens.{tokens, lex}
use Rattle.reading_grammar.specs.Reading.{standard}
use Rattle.text_digits.specs.Digits.{digits_from, integer}
use Rattle.reading_scan.specs.Scan.{index_from, index_of, end_from}
use Rattle.reading_shipped.specs.Shipped.{shipped, parse_in, parens, level, choose, read_not}
use Rattle.reading_rule.specs.declared.Reading.TheVariants.{Shipped, Standard}
use Rattle.reading_rule.specs.Plurals.{Parse, rule, norule, made, tested, parsed}
use Rattle.header_fields.specs.Fields.{named, last_of}
use Rattle.header.specs.Header.{charset, plural, metadata, utf8_label}
use Rattle.container_layout.specs.Mo.{word, string, context_end, id_start, id_end, context, id, entry, piece_at, segment}
use Rattle.container_messages.specs.Messages.{original_of, read_at}
use Rattle.container_head.specs.Head.{order_of, head_of}
use Rattle.container_rule.specs.Rule.{rule_at, file_forms}
use Rattle.container.specs.Catalog.{header, entry_step, entries_from, Answer, accepted, refused, opened, load}
use Rattle.container.specs.declared.Options.{Options}
use Rattle.lookup_scan.specs.Keys.{last_in, last_with}
use Rattle.lookup.specs.Lookup as lookup
use Rattle.lookup.specs.Text.{singular_text, plural_text}
use Rattle.lookup.specs.declared.Text.{Text}
use Rattle.lookup.specs.declared.Text.TheVariants.{Segment, Id, PluralId}
use Rattle.starred.specs.Table.{Case, loading, looking, counting, reading, valuing, ranging, fitting, Said, number, part, own, own_plural, tree, form, range, unrated, yes, no, starred}

-- nothing is forced
abbrev pub plain : Options
plain = record { forced = false; reading = Shipped; utf8 = false; fit = false }

abbrev loaded : Answer → Said
loaded (accepted t r x) = number 0
loaded (refused r) = number (number_of r.error)

abbrev texted : ℕ → Text → Said
texted x (Segment start len) = part start len
texted x Id = own x
texted x PluralId = own_plural x

abbrev looked : List ℕ → List ℕ → Answer → Said
looked s key (accepted t r x) = let a = lookup.singular s t (last_with s t key) in texted (lookup.number a) (singular_text a)
looked s key (refused r) = number (number_of r.error)

abbrev counted : List ℕ → List ℕ → ℕ → Answer → Said
counted s key n (accepted t r x) =
    let a = lookup.plural s t (resolved_of (packed r) (packed_size r) (packed_size r - 1) n) (last_with s t key) in texted (lookup.number a) (plural_text n a)
counted s key n (refused r) = number (number_of r.error)

abbrev valued : Option ℕ → Said
valued (Some x) = form x
valued None = number (number_of error.ZeroModulus)

abbrev ranged : Option (ℕ × ℕ) → Said
ranged (Some (l, h)) = range l h
ranged None = unrated

abbrev answered : Bool → Said
answered true = yes
answered false = no

abbrev read : Parse → (Tree → Said) → Said
read (rule t) f = f t
read (norule r) f = number (number_of r.error)

-- what the definitions say
abbrev pub computed : Case → Said
computed (loading s) = loaded (load plain [] s)
computed (looking s key) = looked s key (load plain [] s)
computed (counting s key m) = counted s key m (load plain [] s)
computed (reading r s) = read (parsed Forced r s) tree
computed (valuing r s n) = read (parsed Forced r s) (λ t. valued (eval_tree t n))
computed (ranging s) = read (parsed Forced Standard s) (λ t. ranged (rate_tree t))
computed (fitting s k) = read (parsed Forced Standard s) (λ t. answered (fits_range (rate_tree t) k))

-- is what document 01 says
pub starred_holds : map (λ r. computed r.0) starred ≡ map (λ r. r.1) starred
unfolding load opened file_forms entries_from entry_step header rule_at read_at original_of head_of order_of word string context_end id_start id_end context id utf8 rest front trim trim_start trim_end edge_after lead encode
    same begins first cut every named last_of charset plural metadata utf8_label entry piece_at segment last_in last_with lookup.plural plural_text
    parsed tested made all tokens lex standard shipped parse_in parens level choose read_not index_of index_from end_from integer digits_from
    eval_tree binary negated chosen truth_v rate_tree bin_range op_range cond_range not_range fits_range
    resolved_of op_at op_of op_code tree_at tree_of operands_to operands all_below used member distinct shaped is_tree zeros blank integerIn is_count is_rem left_of pack nodes keep packed_size packed
starred_holds = refl
