-- For each public function: its promise allows one result, and of `build` one content of the slots lent. Other things are lent to read
-- only, so that they are unchanged is in their types. Assumes nothing.
use Prim.Native.Nat.{ℕ}
use mathlib.Core.Path.{◌≡◌, sym, ap, ◌∙◌}
use mathlib.Core.List.{List}
use contract.Lifetimes.{Lfts}
use denote.Triple.Clauses.{AtExit}
use borrow.Fn.Kinds.{ended_of}
use Rattle.promise.proofs.One.{One, OneLeft}
use Rattle.lookup_index.specs.Index.{leaves}
use Rattle.lookup_index.proofs.build.Reads as build
use Rattle.lookup_index.proofs.build.Kinds as build-kinds
use Rattle.lookup_index.proofs.find.Reads as find
use Rattle.lookup_index.proofs.find.Kinds as find-kinds
use Rattle.lookup_index.proofs.number_of.Reads as number_of_lem
use Rattle.lookup_index.proofs.number_of.Kinds as number-of-kinds

pub find_one_lem : One 3 find-kinds.ps find-kinds.r find.Post
find_one_lem κs a u v x y p q = p ∙ sym q

pub number_of_one : One 0 number-of-kinds.ps number-of-kinds.r number_of_lem.Post
number_of_one κs a u v x y p q = p ∙ sym q

abbrev build_left : (κs : Lfts 2) → AtExit (ended_of 2 build-kinds.ps build-kinds.r) κs → List ℕ
build_left κs x = x.1.1.0.now

pub build_one : OneLeft 2 build-kinds.ps build-kinds.r build.Post build_left
build_one κs a u v x y p q = let e : u ≡ v = p.0 ∙ sym q.0 in (e, p.1 ∙ ap (leaves _ _ _) e ∙ sym q.1)
