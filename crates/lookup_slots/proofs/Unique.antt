-- For each public function: its promise allows one result. What is lent is lent to read only, so that it is unchanged is in its type.
-- Assumes nothing.
use Prim.Native.Nat.{ℕ}
use mathlib.Core.Path.{sym, ap₂, ◌∙◌}
use mathlib.Core.Bool.{Bool}
use Rattle.promise.proofs.One.{One}
use Rattle.lookup_slots.specs.declared.Hash.{Hash}
use Rattle.lookup_slots.proofs.hash_plain.Reads as hash-plain
use Rattle.lookup_slots.proofs.hash_plain.Kinds as hash-plain-kinds
use Rattle.lookup_slots.proofs.hash_from.Reads as hash-from
use Rattle.lookup_slots.proofs.hash_from.Kinds as hash-from-kinds
use Rattle.lookup_slots.proofs.used_by.Reads as used_by_lem
use Rattle.lookup_slots.proofs.used_by.Kinds as used-by-kinds
use Rattle.lookup_slots.proofs.room_for.Reads as room_for
use Rattle.lookup_slots.proofs.room_for.Kinds as room-for-kinds

abbrev made : ℕ → Bool → Hash
made n b = record { value = n; plain = b }

pub hash_plain_one : One 1 hash-plain-kinds.ps hash-plain-kinds.r hash-plain.Post
hash_plain_one κs a u v x y p q = ap₂ made (p.0.is ∙ sym q.0.is) (p.1 ∙ sym q.1)

pub hash_from_one : One 1 hash-from-kinds.ps hash-from-kinds.r hash-from.Post
hash_from_one κs a u v x y p q = p.is ∙ sym q.is

pub used_by_one : One 0 used-by-kinds.ps used-by-kinds.r used_by_lem.Post
used_by_one κs a u v x y p q = p ∙ sym q

pub room_for_one : One 0 room-for-kinds.ps room-for-kinds.r room_for.Post
room_for_one κs a u v x y p q = p ∙ sym q
