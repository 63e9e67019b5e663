-- Trees with the operators that document 02, b adds, computed from the definitions: the Standard reading gives each back from its text, the
-- Shipped reading refuses it. So the Shipped reading's theorem does need document 01's operators. Assumes nothing.
use mathlib.Core.Path.{◌≡◌, refl}
use mathlib.Core.List.{List, [], ◌∷◌, map}
use Rattle.text.specs.Bytes.{all, begins}
use Rattle.text_trim.specs.Trim.{trim, trim_start, trim_end, edge_after, lead, encode}
use Rattle.text_digits.specs.Digits.{digits_from, integer}
use Rattle.refusal.specs.Places.{at}
use Rattle.refusal.specs.declared.Where.TheVariants.{Forced}
use Rattle.refusal.specs.declared.Error.TheVariants.{PluralParsing}
use Rattle.rules.specs.Tree.{Tree, var, int, nay, bin, cond, cmp, calc, rem, div, eq, plus, minus, times}
use Rattle.rules_text.specs.Bracketed.{bracketed, decimal, decimal_in}
use Rattle.reading_grammar.specs.Reading.{standard}
use Rattle.reading_scan.specs.Scan.{index_from, index_of, end_from}
use Rattle.reading_shipped.specs.Shipped.{shipped, parse_in, parens, level, choose, read_not}
use Rattle.reading_rule.specs.declared.Reading.TheVariants.{Shipped, Standard}
use Rattle.reading_rule.specs.Plurals.{Parse, rule, norule, made, tested, parsed}

-- (n/2) (n+1) (n-1) (n*3) ((n+1)/2) (0-(0-1)) (!(n-1)) (((n-1)%2)==0) (n?(n*2):0)
abbrev pub trees : List Tree
trees =
    bin div var (int 2)
    ∷ bin (calc plus) var (int 1)
    ∷ bin (calc minus) var (int 1)
    ∷ bin (calc times) var (int 3)
    ∷ bin div (bin (calc plus) var (int 1)) (int 2)
    ∷ bin (calc minus) (int 0) (bin (calc minus) (int 0) (int 1))
    ∷ nay (bin (calc minus) var (int 1))
    ∷ bin (cmp eq) (bin rem (bin (calc minus) var (int 1)) (int 2)) (int 0)
    ∷ cond var (bin (calc times) var (int 2)) (int 0)
    ∷ []

-- in the Standard reading and in the Shipped one
abbrev pub read : Tree → Parse × Parse
read t = (parsed Forced Standard (bracketed t), parsed Forced Shipped (bracketed t))

abbrev pub said : Tree → Parse × Parse
said t = (rule t, norule (at Forced PluralParsing))

pub trees_hold : map read trees ≡ map said trees
unfolding parsed tested made all trim trim_start trim_end edge_after lead encode begins standard shipped parse_in parens level choose read_not index_of index_from end_from integer
    digits_from bracketed decimal decimal_in
trees_hold = refl
