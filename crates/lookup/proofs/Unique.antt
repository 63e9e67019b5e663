-- For each public function: its promise allows one result. What is lent is lent to read only, so that it is unchanged is in its type.
-- Of the text that `text_of` returns, the bytes and the place in memory are fixed. Assumes nothing.
use Prim.Native.Nat.{ℕ, ◌+◌}
use mathlib.Core.Path.{◌≡◌, sym, ap, ◌∙◌}
use mathlib.Core.Bool.{Bool, true, false}
use mathlib.Core.List.{List}
use lib.ListN.{length}
use lib.Dec.{leb}
use contract.Lifetimes.{Lfts}
use denote.Triple.Clauses.{AtExit}
use denote.Ref.{Bor}
use borrow.Fn.Kinds.{Dens, res_t, ended_of}
use Rattle.promise.proofs.One.{One}
use Rattle.lookup.specs.Text.{part_or, IsText}
use Rattle.lookup.specs.declared.Text.{Text}
use Rattle.lookup.specs.declared.Text.TheVariants.{Segment, Id, PluralId}
use Rattle.lookup.proofs.find.Reads as find
use Rattle.lookup.proofs.find.Kinds as find-kinds
use Rattle.lookup.proofs.nfind.Reads as nfind
use Rattle.lookup.proofs.nfind.Kinds as nfind-kinds
use Rattle.lookup.proofs.find_indexed.Reads as find-indexed
use Rattle.lookup.proofs.find_indexed.Kinds as find-indexed-kinds
use Rattle.lookup.proofs.nfind_indexed.Reads as nfind-indexed
use Rattle.lookup.proofs.nfind_indexed.Kinds as nfind-indexed-kinds
use Rattle.lookup.proofs.number_of.Reads as number_of_lem
use Rattle.lookup.proofs.number_of.Kinds as number-of-kinds
use Rattle.lookup.proofs.singular_text.Reads as singular-text
use Rattle.lookup.proofs.singular_text.Kinds as singular-text-kinds
use Rattle.lookup.proofs.plural_text.Reads as plural-text
use Rattle.lookup.proofs.plural_text.Kinds as plural-text-kinds
use Rattle.lookup.proofs.text_of.Reads as text_of
use Rattle.lookup.proofs.text_of.Kinds as text-of-kinds

pub find_one_lem : One 2 find-kinds.ps find-kinds.r find.Post
find_one_lem κs a u v x y p q = p ∙ sym q

pub nfind_one : One 3 nfind-kinds.ps nfind-kinds.r nfind.Post
nfind_one κs a u v x y p q = p ∙ sym q

pub find_indexed_one : One 3 find-indexed-kinds.ps find-indexed-kinds.r find-indexed.Post
find_indexed_one κs a u v x y p q = p ∙ sym q

pub nfind_indexed_one : One 4 nfind-indexed-kinds.ps nfind-indexed-kinds.r nfind-indexed.Post
nfind_indexed_one κs a u v x y p q = p ∙ sym q

pub number_of_one : One 0 number-of-kinds.ps number-of-kinds.r number_of_lem.Post
number_of_one κs a u v x y p q = p ∙ sym q

pub singular_text_one : One 0 singular-text-kinds.ps singular-text-kinds.r singular-text.Post
singular_text_one κs a u v x y p q = p ∙ sym q

pub plural_text_one : One 0 plural-text-kinds.ps plural-text-kinds.r plural-text.Post
plural_text_one κs a u v x y p q = p ∙ sym q

-- the same bytes, in the same block of memory, at the same place
pub record SameText (u v : Bor (List ℕ)) : Type 0 where
  pub bytes : u.now ≡ v.now
  pub block : u.ref_ptr.0 ≡ v.ref_ptr.0
  pub place : u.ref_ptr.1 ≡ v.ref_ptr.1

own : {u v w : Bor (List ℕ)} → u ≡ w → v ≡ w → SameText u v
own e f =
    let z = e ∙ sym f in
    record { bytes = ap (λ (r : Bor (List ℕ)). r.now) z; block = ap (λ (r : Bor (List ℕ)). r.ref_ptr.0) z; place = ap (λ (r : Bor (List ℕ)). r.ref_ptr.1) z }

parts : (b : Bool) (file : Bor (List ℕ)) (start len : ℕ) (id : Bor (List ℕ)) {u v : Bor (List ℕ)} → part_or b file start len id u → part_or b file start len id v → SameText u v
parts true file start len id p q = record { bytes = p.bytes ∙ sym q.bytes; block = p.block ∙ sym q.block; place = p.place ∙ sym q.place }
parts false file start len id p q = own p q

pub same_text : (file id pluralId : Bor (List ℕ)) (text : Text) {u v : Bor (List ℕ)} → IsText file id pluralId text u → IsText file id pluralId text v → SameText u v
same_text file id pluralId (Segment start len) p q = parts (leb (start + len) (length file.now)) file start len id p.says q.says
same_text file id pluralId Id p q = own p.says q.says
same_text file id pluralId PluralId p q = own p.says q.says

pub text_of_one : (κs : Lfts 1) (a : Dens κs text-of-kinds.ps) (u v : (res_t text-of-kinds.r κs).Denot) (x y : AtExit (ended_of 1 text-of-kinds.ps text-of-kinds.r) κs)
    → text_of.Post κs a u x → text_of.Post κs a v y → SameText u v
text_of_one κs a u v x y p q = same_text _ _ _ _ p q
