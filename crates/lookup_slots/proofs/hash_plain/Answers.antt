use mathlib.Core.Path.{refl}
use Rattle.lookup_slots.proofs.Lowest.{high}
use Rattle.lookup_slots.proofs.Turn.{first_turn, next_turn, turned_hash, turned_plain}
use Rattle.lookup_slots.proofs.hash_plain.Goals as goal

pub loop-i-init : goal.loop-i-init
loop-i-init c = first_turn c.requires c.if-n-lt8.false refl c.power-factor.ensures refl c.word-x.ensures high c.least_at-least.ensures

pub returns-then-n-i : goal.returns-then-n-i
returns-then-n-i c = let t = c.loop-i.invariant in
    let p = c.poly.ensures in
    let e = c.if-n-i.true in
    record { value = turned_hash t (λ j. (c.type_inv.s j).fits) refl p e; plain = turned_plain t (λ j. (c.type_inv.s j).fits) refl p e c.is_plain.ensures }

pub loop-i-preserved : goal.loop-i-preserved
loop-i-preserved c = let t = c.loop-i.invariant in
    let p = c.poly.ensures in
    next_turn t (λ j. (c.type_inv.s j).fits) refl p c.if-n-i.false c.word-x-in-loop-i.ensures c.least_at-least-in-loop-i.ensures
