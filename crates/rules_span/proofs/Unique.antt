-- The promise allows one result, and one list of figures. Assumes nothing.
use mathlib.Core.Path.{sym, ◌∙◌}
use contract.Lifetimes.{Lfts}
use denote.Triple.Clauses.{AtExit}
use borrow.Fn.Kinds.{ended_of}
use mathlib.Core.List.{List}
use Prim.Native.Nat.{ℕ}
use Rattle.promise.proofs.One.{One, OneLeft}
use Rattle.rules_span.proofs.tally.Reads as tally
use Rattle.rules_span.proofs.tally.Kinds as tally-kinds
use Rattle.rules_span.proofs.number_of.Reads as number-of
use Rattle.rules_span.proofs.number_of.Kinds as number-of-kinds

abbrev pub tally_left : (κs : Lfts 2) → AtExit (ended_of 2 tally-kinds.ps tally-kinds.r) κs → List ℕ
tally_left κs x = x.1.1.1.0.now

pub tally_one : OneLeft 2 tally-kinds.ps tally-kinds.r tally.Post tally_left
tally_one κs a u v x y p q = (p.0 ∙ sym q.0, p.1 ∙ sym q.1)

pub number_one : One 0 number-of-kinds.ps number-of-kinds.r number-of.Post
number_one κs a u v x y p q = p ∙ sym q
