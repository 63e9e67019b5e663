-- The promise of `standard` allows one result: the reading is a function of the text, and rules' law holds of any reading. `Post` is the
-- promise as the check reads it from the source. Assumes nothing.
use contract.Lifetimes.{Lfts}
use denote.Triple.Clauses.{AtExit}
use borrow.Fn.Kinds.{Dens, res_t, ended_of}
use Rattle.rules.specs.Lent.{pool_left}
use Rattle.rules.proofs.ReadOnce.{Same, unique}
use Rattle.reading_grammar.specs.Reading.{standard}
use Rattle.reading_standard.proofs.standard.Reads as reads
use Rattle.reading_standard.proofs.standard.Kinds as kinds

pub standard_one : (κs : Lfts 3) (a : Dens κs kinds.ps) (u v : (res_t kinds.r κs).Denot) (x y : AtExit (ended_of 3 kinds.ps kinds.r) κs)
    → reads.Post κs a u x → reads.Post κs a v y
    → Same (standard a.0.now) (pool_left x.1.0.now) (pool_left y.1.0.now) u v
standard_one κs a u v x y p q = unique (standard a.0.now) p.1 q.1
