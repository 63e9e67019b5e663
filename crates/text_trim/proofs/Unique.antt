-- For each public function: its promise allows one result. Slices are lent to read only, so that they are unchanged is in their type.
-- Of the part that `trim` returns, the bytes and the place in memory are fixed. Assumes nothing.
use mathlib.Core.Path.{◌≡◌, sym, ap₂, ◌∙◌}
use Prim.Native.Nat.{ℕ}
use contract.Lifetimes.{Lfts}
use denote.Triple.Clauses.{AtExit}
use borrow.Fn.Kinds.{Dens, res_t, ended_of}
use Rattle.promise.proofs.One.{One}
use Rattle.text.specs.declared.Stretch.{Stretch}
use Rattle.text_trim.proofs.trimmed.Reads as trimmed
use Rattle.text_trim.proofs.trimmed.Kinds as trimmed-kinds
use Rattle.text_trim.proofs.trim.Reads as trim
use Rattle.text_trim.proofs.trim.Kinds as trim-kinds

abbrev part : ℕ → ℕ → Stretch
part x y = record { start = x; len = y }

pub trimmed_one : One 1 trimmed-kinds.ps trimmed-kinds.r trimmed.Post
trimmed_one κs a u v x y p q = ap₂ part (p.start ∙ sym q.start) (p.len ∙ sym q.len)

-- the same bytes, in the same block of memory, at the same place
pub trim_one : (κs : Lfts 1) (a : Dens κs trim-kinds.ps) (u v : (res_t trim-kinds.r κs).Denot) (x y : AtExit (ended_of 1 trim-kinds.ps trim-kinds.r) κs)
    → trim.Post κs a u x → trim.Post κs a v y → (u.now ≡ v.now) × (u.ref_ptr.0 ≡ v.ref_ptr.0) × (u.ref_ptr.1 ≡ v.ref_ptr.1)
trim_one κs a u v x y p q = (p.0 ∙ sym q.0, p.1.0 ∙ sym q.1.0, p.1.1 ∙ sym q.1.1)
