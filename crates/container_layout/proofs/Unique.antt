-- Each public function's promise fixes its result: any two results that it allows on the same input are equal. `Post` is the promise
-- as the check reads it from the source. The file is lent to read only, so that it is unchanged is in its type. Assumes nothing.
use mathlib.Core.Path.{◌∙◌, ap, ap₂, sym}
use Rattle.promise.proofs.One.{One}
use Rattle.container_layout.proofs.read_u32.Reads as read_u32
use Rattle.container_layout.proofs.read_u32.Kinds as read-u32-kinds
use Rattle.container_layout.proofs.string_at.Reads as string-at
use Rattle.container_layout.proofs.string_at.Kinds as string-at-kinds
use Prim.Native.Nat.{ℕ}
use Rattle.container_layout.specs.declared.Parts.{Parts}
use Rattle.container_layout.proofs.split.Reads as split
use Rattle.container_layout.proofs.split.Kinds as split-kinds
use Rattle.container_layout.proofs.entry_at.Reads as entry_at
use Rattle.container_layout.proofs.entry_at.Kinds as entry-at-kinds
use Rattle.container_layout.proofs.segment_at.Reads as segment-at
use Rattle.container_layout.proofs.segment_at.Kinds as segment-at-kinds
use Rattle.container_layout.proofs.wide.Reads as wide
use Rattle.container_layout.proofs.wide.Kinds as wide-kinds

pub wide_one : One 0 wide-kinds.ps wide-kinds.r wide.Post
wide_one κs a u v x y p q = p.0 ∙ sym q.0

pub read_u32_one : One 1 read-u32-kinds.ps read-u32-kinds.r read_u32.Post
read_u32_one κs a u v x y p q = p ∙ sym q

pub string_at_one : One 1 string-at-kinds.ps string-at-kinds.r string-at.Post
string_at_one κs a u v x y p q = p ∙ sym q

abbrev parts : ℕ → ℕ → ℕ → Parts
parts x y z = record { context = x; id = y; end = z }

pub split_one : One 1 split-kinds.ps split-kinds.r split.Post
split_one κs a u v x y p q =
    ap₂ (λ (i j : ℕ). parts i j u.end) (p.context ∙ sym q.context) (p.id ∙ sym q.id) ∙ ap (parts v.context v.id) (p.end ∙ sym q.end)

pub entry_at_one : One 1 entry-at-kinds.ps entry-at-kinds.r entry_at.Post
entry_at_one κs a u v x y p q = p ∙ sym q

pub segment_at_one : One 1 segment-at-kinds.ps segment-at-kinds.r segment-at.Post
segment_at_one κs a u v x y p q = p ∙ sym q
