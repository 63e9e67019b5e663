-- Each public function's promise fixes its result: any two results that it allows on the same input are equal. `Post` is the promise
-- as the check reads it from the source; the arrays that are lent to be written count as a part of the result. Assumes nothing.
use mathlib.Core.Path.{refl, sym, ◌∙◌}
use contract.Lifetimes.{Lfts}
use denote.Triple.Clauses.{AtExit}
use Rattle.promise.proofs.One.{One, OneLeft}
use borrow.Fn.Kinds.{Dens, res_t, ended_of}
use mathlib.Core.Path.{◌≡◌}
use Rattle.rules.specs.Pool.{Pool, pool_in}
use Rattle.rules.specs.Lent.{pool_left}
use Rattle.rules.proofs.field.Reads as field
use Rattle.rules.proofs.field.Kinds as field-kinds
use Rattle.rules.proofs.place.Reads as place
use Rattle.rules.proofs.place.Kinds as place-kinds
use Rattle.rules.proofs.Nodes.field.Reads as nodes-field
use Rattle.rules.proofs.Nodes.field.Kinds as nodes-field-kinds
use Rattle.rules.proofs.Nodes.place.Reads as nodes-place
use Rattle.rules.proofs.Nodes.place.Kinds as nodes-place-kinds
use Rattle.rules.proofs.Lent.put_default.Reads as put-default
use Rattle.rules.proofs.Lent.put_default.Kinds as put-default-kinds
use Rattle.rules.proofs.Lent.put.Reads as put
use Rattle.rules.proofs.Lent.put.Kinds as put-kinds
use Rattle.rules.proofs.Lent.nodes.Reads as nodes
use Rattle.rules.proofs.Lent.nodes.Kinds as nodes-kinds

pub field_one : One 1 field-kinds.ps field-kinds.r field.Post
field_one κs a u v x y p q = p ∙ sym q

pub place_one : One 1 place-kinds.ps place-kinds.r place.Post
place_one κs a u v x y p q = p ∙ sym q

pub nodes_field_one : One 1 nodes-field-kinds.ps nodes-field-kinds.r nodes-field.Post
nodes_field_one κs a u v x y p q = p ∙ sym q

pub nodes_place_one : One 1 nodes-place-kinds.ps nodes-place-kinds.r nodes-place.Post
nodes_place_one κs a u v x y p q = p ∙ sym q

-- the arrays that are lent, as a pool
abbrev pub put_left : (κs : Lfts 2) → AtExit (ended_of 2 put-kinds.ps put-kinds.r) κs → Pool
put_left κs x = pool_left x.0.now

pub put_one : OneLeft 2 put-kinds.ps put-kinds.r put.Post put_left
put_one κs a u v x y p q = (refl, p.1 ∙ sym q.1)

abbrev pub default_left : (κs : Lfts 2) → AtExit (ended_of 2 put-default-kinds.ps put-default-kinds.r) κs → Pool
default_left κs x = pool_left x.0.now

pub put_default_one : OneLeft 2 put-default-kinds.ps put-default-kinds.r put-default.Post default_left
put_default_one κs a u v x y p q = (p.1.1 ∙ sym q.1.1, p.1.0 ∙ sym q.1.0)

-- what is lent to be read, as a pool
pub nodes_one : (κs : Lfts 2) (a : Dens κs nodes-kinds.ps) (u v : (res_t nodes-kinds.r κs).Denot) (x y : AtExit (ended_of 2 nodes-kinds.ps nodes-kinds.r) κs)
    → nodes.Post κs a u x → nodes.Post κs a v y → pool_in u ≡ pool_in v
nodes_one κs a u v x y p q = p ∙ sym q
