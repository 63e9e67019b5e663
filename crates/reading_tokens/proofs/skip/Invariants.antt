-- The bytes passed are blanks.
use Rattle.text.proofs.Front.{Counted}
use Rattle.reading_grammar.specs.Tokens.{blank}
use Rattle.reading_tokens.proofs.skip.Given as goal

abbrev pub invariant-loop-i : goal.invariant-loop-i
invariant-loop-i l = Counted blank l.s l.at l.i
