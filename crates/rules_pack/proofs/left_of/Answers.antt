-- `rules_pack::left_of` meets its contract: each return is what the tests before it show of the tree.
use mathlib.Core.Path.{refl}
use native.Mathlib.Omega.{arith}
use Rattle.rules.proofs.Trees.{first_in, before_in}
use Rattle.rules_pack.proofs.Laws.{inside, left_count, left_other, left_no_count, left_rest}
use Rattle.rules_pack.proofs.left_of.Goals as goal

pub returns-then-code-eq-N : goal.returns-then-code-eq-N
returns-then-code-eq-N c = left_count c.requires c.if-code-eq-N.true

pub returns-then-code : goal.returns-then-code
returns-then-code c = left_other c.requires c.if-code-eq-N.false c.if-code.true

pub bounds-nodes-first : goal.bounds-nodes-first
bounds-nodes-first c = inside c.requires (first_in c.requires.sound (omega arith)) c.place-first.ensures

pub returns-then-nodes-first-ne-N : goal.returns-then-nodes-first-ne-N
returns-then-nodes-first-ne-N c = left_no_count c.requires c.if-code.false c.place-first.ensures c.if-nodes-first-ne-N.true

pub overflow_sub-at : goal.overflow_sub-at
overflow_sub-at c = omega (arith, before_in c.requires.sound (omega arith))

pub small_of-requires : goal.small_of-requires
small_of-requires c = inside c.requires (before_in c.requires.sound (omega arith)) refl

pub returns-in_default : goal.returns-in_default
returns-in_default c = left_rest c.requires c.if-code.false c.place-first.ensures c.if-nodes-first-ne-N.false c.small_of.ensures c.in_default.is

pub returns : goal.returns
returns c = left_rest c.requires c.if-code.false c.place-first.ensures c.if-nodes-first-ne-N.false c.small_of.ensures c.in-Some.is
