-- Rules with + - * / in the Standard reading, computed from the definitions: their values at counts, and their ranges. Assumes nothing.
use Prim.Native.Nat.{ℕ}
use mathlib.Core.Path.{◌≡◌, refl}
use mathlib.Core.List.{List, [], ◌∷◌, map}
use Rattle.std.specs.Prelude.{Option, Some, None}
use Rattle.text.specs.Bytes.{bytes, all, begins}
use Rattle.text_trim.specs.Trim.{trim, trim_start, trim_end, edge_after, lead, encode}
use Rattle.refusal.specs.Numbers.{number_of}
use Rattle.refusal.specs.declared.Where.TheVariants.{Forced}
use Rattle.refusal.specs.declared.Error.TheVariants as error
use Rattle.rules.specs.Value.{eval_tree, binary, calculated, negated, chosen, truth_v}
use Rattle.rules.specs.Range.{rate_tree, kept, op_range, bin_range, cond_range, not_range}
use Rattle.reading_grammar.specs.Reading.{standard}
use Rattle.reading_rule.specs.declared.Reading.TheVariants.{Standard}
use Rattle.reading_rule.specs.Plurals.{Parse, rule, norule, made, tested, parsed}
use Rattle.reading_rule.proofs.Cases.{Answer, form, number, answer}

-- a text, a count, and the value there
abbrev values : List (List ℕ × ℕ × Answer)
values =
    (bytes "(n+1)/2", 0, form 0)
    ∷ (bytes "(n+1)/2", 1, form 1)
    ∷ (bytes "(n+1)/2", 2, form 1)
    ∷ (bytes "(n+1)/2", 5, form 3)
    ∷ (bytes "(n+1)/2", 0xffffffffffffffff, form 0)
    -- one rank for * / %, which groups left; then + and -; then the orderings
    ∷ (bytes "n%10*3", 14, form 12)
    ∷ (bytes "2*n%3", 5, form 1)
    ∷ (bytes "10-n%3-2", 5, form 6)
    ∷ (bytes "1+n<3", 1, form 1)
    ∷ (bytes "1+n<3", 2, form 0)
    ∷ (bytes "2+3*n", 2, form 8)
    ∷ (bytes "100/n/5", 4, form 5)
    ∷ (bytes "n%4*3", 7, form 9)
    ∷ (bytes "10/(n%3+1)", 0, form 10)
    ∷ (bytes "10/(n%3+1)", 2, form 3)
    -- numbers wrap
    ∷ (bytes "18446744073709551615+1", 0, form 0)
    ∷ (bytes "0-1", 0, form 0xffffffffffffffff)
    ∷ (bytes "n*4294967296*4294967296", 3, form 0)
    ∷ (bytes "n*2", 0x8000000000000001, form 2)
    -- truths are 0 and 1, without sign
    ∷ (bytes "!4-!255-(n>=n)>!3", 0, form 1)
    -- a zero divisor, after both operands; what is not needed is not evaluated
    ∷ (bytes "0*(1/0)", 0, number (number_of error.ZeroModulus))
    ∷ (bytes "5/n", 0, number (number_of error.ZeroModulus))
    ∷ (bytes "5/n", 2, form 2)
    ∷ (bytes "0*(5/n)", 0, number (number_of error.ZeroModulus))
    ∷ (bytes "0*(5/n)", 2, form 0)
    ∷ (bytes "0&&1/0", 0, form 0)
    -- signs before numbers and comments are none
    ∷ (bytes "n- -1", 5, number (number_of error.PluralParsing))
    ∷ (bytes "+7", 5, number (number_of error.PluralParsing))
    ∷ (bytes "n//2", 5, number (number_of error.PluralParsing))
    ∷ []

pub values_hold : map (λ (r : List ℕ × ℕ × Answer). answer (parsed Forced Standard r.0) r.1) values ≡ map (λ (r : List ℕ × ℕ × Answer). r.2) values
unfolding parsed tested made trim trim_start trim_end edge_after lead encode begins all standard eval_tree binary calculated negated chosen truth_v
values_hold = refl

abbrev range_of : Parse → Option (ℕ × ℕ)
range_of (rule t) = rate_tree t
range_of (norule e) = None

abbrev full : Option (ℕ × ℕ)
full = Some (0, 0xffffffffffffffff)

abbrev ranges : List (List ℕ × Option (ℕ × ℕ))
ranges =
    (bytes "(n+1)/2", Some (0, 0x7fffffffffffffff))
    ∷ (bytes "18446744073709551615+1", full)
    ∷ (bytes "0-1", full)
    ∷ (bytes "n*2", full)
    ∷ (bytes "n-n", full)
    ∷ (bytes "n*0", Some (0, 0))
    ∷ (bytes "n%10*3", Some (0, 27))
    ∷ (bytes "2*n%3", Some (0, 2))
    ∷ (bytes "1+n<3", Some (0, 1))
    ∷ (bytes "n%4*3", Some (0, 9))
    ∷ (bytes "n%4+3", Some (3, 6))
    ∷ (bytes "10-n%3-2", Some (6, 8))
    ∷ (bytes "10/(n%3+1)", Some (3, 10))
    ∷ (bytes "5/n", None)
    ∷ (bytes "0*(5/n)", None)
    ∷ (bytes "0*(1/0)", None)
    ∷ (bytes "n%(n+1)", None)
    ∷ []

pub ranges_hold : map (λ (r : List ℕ × Option (ℕ × ℕ)). range_of (parsed Forced Standard r.0)) ranges ≡ map (λ (r : List ℕ × Option (ℕ × ℕ)). r.1) ranges
unfolding parsed tested made trim trim_start trim_end edge_after lead encode begins all standard rate_tree kept op_range bin_range cond_range not_range
ranges_hold = refl
