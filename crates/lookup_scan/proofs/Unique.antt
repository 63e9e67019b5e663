-- For each public function: its promise allows one result. What is lent is lent to read only, so that it is unchanged is in its type.
-- Assumes nothing.
use Prim.Native.Nat.{ℕ}
use mathlib.Core.Path.{◌≡◌, refl, sym, ap, ◌∙◌}
use mathlib.Core.List.{List}
use native.Mathlib.Omega.{arith}
use Rattle.promise.proofs.One.{One}
use Rattle.lookup_scan.specs.Promise.{Sizes}
use Rattle.std.specs.Prelude.{Option, Some, None}
use Rattle.lookup_scan.proofs.size_of.Reads as type_size
use Rattle.lookup_scan.proofs.size_of.Kinds as size-of-kinds
use Rattle.lookup_scan.proofs.hit_at.Reads as hit-at
use Rattle.lookup_scan.proofs.hit_at.Kinds as hit-at-kinds
use Rattle.lookup_scan.proofs.last_hit.Reads as last_hit_lem
use Rattle.lookup_scan.proofs.last_hit.Kinds as last-hit-kinds

sizes_one : (size : ℕ) (key : List ℕ) (u v : Option ℕ) → Sizes size key u → Sizes size key v → u ≡ v
sizes_one size key (Some n) (Some m) p q = ap Some (p.0 ∙ sym q.0)
sizes_one size key (Some n) None p q = absurd (omega (arith, p.0, p.1))
sizes_one size key None (Some m) p q = absurd (omega (arith, q.0, q.1))
sizes_one size key None None p q = refl

pub size_of_one : One 1 size-of-kinds.ps size-of-kinds.r type_size.Post
size_of_one κs a u v x y p q = sizes_one _ _ u v p.sizes q.sizes

pub hit_at_one : One 2 hit-at-kinds.ps hit-at-kinds.r hit-at.Post
hit_at_one κs a u v x y p q = p ∙ sym q

pub last_hit_one : One 2 last-hit-kinds.ps last-hit-kinds.r last_hit_lem.Post
last_hit_one κs a u v x y p q = p ∙ sym q
