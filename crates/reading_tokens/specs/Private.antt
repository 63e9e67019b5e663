-- What the functions inside promise: the rows of the tables of operators, and the rest of an integer. SPEC 6.
use Rattle.std.specs.Prelude.{ℕ, ◌+◌, List, drop, Option, Some, None}
use Rattle.std.proofs.Math.Option as found
use Rattle.text.specs.Bytes.{front}
use Rattle.rules.specs.Tree.{Op}
use Rattle.rules.specs.Store.{node_code}
use Rattle.reading_grammar.specs.Grammar.{Token, sign, number, mark}
use Rattle.reading_grammar.specs.Tokens.{lex, digits, digit, two, find_one, ones}
use Rattle.reading_tokens.specs.declared.Next.{Next}
use Rattle.reading_tokens.specs.Scan.{first}

-- the code of an operator that was found
abbrev pub code_of : found.Option Op → Option ℕ
code_of (found.some op) = Some (node_code op)
code_of found.none = None

abbrev pub sign_code : Token → Option ℕ
sign_code (sign op) = Some (node_code op)
sign_code (number v) = None
sign_code (mark b) = None

-- the code of the operator that a byte is together with the first of s, and of the operator that it is alone
abbrev pub pair_code : ℕ → List ℕ → Option ℕ
pair_code b s = code_of (two b s)

abbrev pub single_code : ℕ → Option ℕ
single_code b = sign_code (find_one ones b)

-- the integer whose digits before at are v
unfoldable pub ran : ℕ → List ℕ → ℕ → Next
ran v s at = first (lex (digits v) (drop at s)) (at + front digit (drop at s))
