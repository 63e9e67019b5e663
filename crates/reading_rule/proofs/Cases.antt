-- Rules in both readings, computed from the definition: what document 01's starred rules, in the table of crate `starred`, do not show. Assumes
-- nothing.
use Prim.Native.Nat.{ℕ}
use mathlib.Core.Path.{◌≡◌, refl}
use mathlib.Core.List.{List, [], ◌∷◌, ◌++◌, map}
use lib.ListN.{replicate}
use Rattle.std.specs.Prelude.{Option, Some, None}
use Rattle.text.specs.Bytes.{bytes, all, begins}
use Rattle.text_trim.specs.Trim.{white_space, trim, trim_start, trim_end, edge_after, lead, encode}
use Rattle.rules.specs.Value.{eval_tree, binary, negated, chosen, truth_v}
use Rattle.reading_grammar.specs.Reading.{standard}
use Rattle.text_digits.specs.Digits.{digits_from, integer}
use Rattle.reading_scan.specs.Scan.{index_from, index_of, end_from}
use Rattle.reading_shipped.specs.Shipped.{shipped, parse_in, parens, level, choose, read_not}
use Rattle.refusal.specs.Numbers.{number_of}
use Rattle.refusal.specs.declared.Error.TheVariants as error
use Rattle.refusal.specs.declared.Where.TheVariants.{Forced}
use Rattle.reading_rule.specs.declared.Reading.TheVariants.{Shipped, Standard}
use Rattle.reading_rule.specs.Plurals.{Parse, rule, norule, made, tested, parsed}

-- the value at a count, or the number
pub data Answer : Type 0 where
  form : ℕ → Answer
  number : ℕ → Answer

abbrev pub valued : Option ℕ → Answer
valued (Some x) = form x
valued None = number (number_of error.ZeroModulus)

abbrev pub answer : Parse → ℕ → Answer
answer (rule t) n = valued (eval_tree t n)
answer (norule r) n = number (number_of r.error)

pub record Row : Type 0 where
  pub text : List ℕ
  pub count : ℕ
  pub in_shipped : Answer
  pub in_standard : Answer

abbrev row : List ℕ → ℕ → Answer → Answer → Row
row s n x y = record { text = s; count = n; in_shipped = x; in_standard = y }

abbrev pub rows : List Row
rows =
    -- trimmed of White_Space in both: byte 10, a blank, n, byte 11; A0, n, 3000, a blank
    row (10 ∷ 32 ∷ 110 ∷ 11 ∷ []) 5 (form 5) (form 5)
    ∷ row (0xC2 ∷ 0xA0 ∷ 110 ∷ 0xE3 ∷ 0x80 ∷ 0x80 ∷ 32 ∷ []) 5 (form 5) (form 5)
    -- inside a rule, or torn, it is a byte of 128 or more; so is 200B
    ∷ row (bytes "n%" ++ 0xC2 ∷ 0xA0 ∷ bytes "2") 5 (number 6) (number 6)
    ∷ row (0xA0 ∷ 110 ∷ []) 5 (number 6) (number 6)
    ∷ row (0xE2 ∷ 0x80 ∷ 0x8B ∷ 110 ∷ []) 5 (number 6) (number 6)
    -- the length comes before the bytes, and it is the trimmed text's
    ∷ row (replicate 513 128) 5 (number 8) (number 8)
    ∷ row (replicate 512 128) 5 (number 6) (number 6)
    ∷ row (replicate 513 32) 5 (number 6) (number 6)
    ∷ row (0xC2 ∷ 0xA0 ∷ replicate 512 128 ++ 0xC2 ∷ 0xA0 ∷ []) 5 (number 6) (number 6)
    ∷ row (0xC2 ∷ 0xA0 ∷ replicate 513 128 ++ 0xC2 ∷ 0xA0 ∷ []) 5 (number 8) (number 8)
    -- 127 is let through, 128 is not: Shipped drops the last byte of a bracket
    ∷ row (40 ∷ 110 ∷ 127 ∷ []) 5 (form 5) (number 6)
    ∷ row (40 ∷ 110 ∷ 128 ∷ []) 5 (number 6) (number 6)
    ∷ row [] 5 (number 6) (number 6)
    ∷ row (bytes "18446744073709551615") 5 (form 18446744073709551615) (form 18446744073709551615)
    ∷ row (bytes "18446744073709551616") 5 (number 6) (number 6)
    ∷ row (bytes "5%n") 0 (number 10) (number 10)
    ∷ []

abbrev pub said : Row → Answer × Answer
said r = (r.in_shipped, r.in_standard)

abbrev pub computed : Row → Answer × Answer
computed r = (answer (parsed Forced Shipped r.text) r.count, answer (parsed Forced Standard r.text) r.count)

pub rows_hold : map computed rows ≡ map said rows
unfolding parsed tested made all trim trim_start trim_end edge_after lead encode begins standard shipped parse_in parens level choose read_not index_of index_from end_from integer
    digits_from eval_tree binary negated chosen truth_v
rows_hold = refl

-- each of the 25 before a rule and after it
pub each_read : map (λ e. computed (row (e ++ (bytes "n%2" ++ e)) 3 (form 1) (form 1))) white_space ≡ map (λ e. (form 1, form 1)) white_space
unfolding parsed tested made all trim trim_start trim_end edge_after lead encode begins standard shipped parse_in parens level choose read_not index_of index_from end_from integer
    digits_from eval_tree binary negated chosen truth_v
each_read = refl
