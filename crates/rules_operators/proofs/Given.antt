-- Values as a number and a flag, and each operator at its operands' values. A set flag stays set, so an operand that fails needs no test
-- of its own.
use Rattle.std.specs.Prelude.{Option, Some, None}
use Rattle.std.proofs.Common.{◌≡◌, ℕ, Bool, true, false, eqb, sym, refl, ◌∙◌, arith, eq-eqb, ne_eqb}
use mathlib.Core.Option.{some}
use Rattle.rules.specs.Tree.{Op}
use Rattle.rules.specs.Operator.{op_of, Named}
use Rattle.rules.specs.Value.{truth, binary, negated, chosen}
use Rattle.rules.proofs.Operators.{never}
use Rattle.rules_operators.specs.Operator.{settled, Gives, Applies}
use Rattle.rules_operators.proofs.Operators.{settled_any, unsettled}

no_failure : {A : Type 0} {x : ℕ} → Some x ≡ None → A
no_failure e = let z : ◌≡◌ {A = ℕ} 0 1 = cc in absurd (omega arith)

pub number : {v : Option ℕ} {b : Bool} {x r : ℕ} → v ≡ Some x → r ≡ x → Gives v b b r
number e d = rw e record { given = (d, refl) }

pub failed : {v : Option ℕ} {b c : Bool} {r : ℕ} → v ≡ None → c ≡ true → Gives v b c r
failed e d = rw e record { given = d }

-- what `apply` promises, by the operator of the number
pub applied_number : {i x y r : ℕ} {b : Bool} → ((op : Op) → op_of i ≡ some op → binary op (Some x) (Some y) ≡ Some r) → Applies i x y b b r
applied_number w = record { gives = λ op e. number (w op e) refl; failed = λ op e f. no_failure (sym (w op e) ∙ f) }

pub applied_zero : {i x y r : ℕ} {b c : Bool} → ((op : Op) → op_of i ≡ some op → binary op (Some x) (Some y) ≡ None) → c ≡ true → r ≡ 0
    → Applies i x y b c r
applied_zero w d f = record { gives = λ op e. failed (w op e) d; failed = λ op e g. f }

-- and that it fixes the number and the flag
one_given : (v : Option ℕ) {b c d : Bool} {r s : ℕ} → Gives v b c r → (v ≡ None → r ≡ 0) → Gives v b d s → (v ≡ None → s ≡ 0)
    → (r ≡ s) × (c ≡ d)
one_given (Some x) g m h n = (g.given.0 ∙ sym h.given.0, g.given.1 ∙ sym h.given.1)
one_given None g m h n = (m refl ∙ sym (n refl), g.given ∙ sym h.given)

pub one_applied : {i x y r s : ℕ} {b c d : Bool} → Named i → Applies i x y b c r → Applies i x y b d s → (r ≡ s) × (c ≡ d)
one_applied k g h =
    one_given _ (g.gives k.op k.is) (g.failed k.op k.is) (h.gives k.op k.is) (h.failed k.op k.is)

-- a flag that is set stays set
stays : (v : Option ℕ) {b c : Bool} {r : ℕ} → b ≡ true → Gives v b c r → c ≡ true
stays (Some x) e g = g.given.1 ∙ e
stays None e g = g.given

-- what a flag that was not set says at the end
pub fails_as : (v : Option ℕ) {c : Bool} {r : ℕ} → Gives v false c r → c ≡ true → v ≡ None
fails_as (Some x) g e = never (sym g.given.1 ∙ e)
fails_as None g e = refl

pub is_as : (v : Option ℕ) {c : Bool} {r : ℕ} → Gives v false c r → c ≡ false → v ≡ Some r
is_as (Some x) g e = rw g.given.0
is_as None g e = never (sym e ∙ g.given)

-- each operator at its operands' values, which were given one after the other
pub negation : (v : Option ℕ) {b c : Bool} {x r : ℕ} → Gives v b c x → r ≡ truth (eqb x 0) → Gives (negated v) b c r
unfolding negated
negation (Some y) g e = record { given = (rw (← g.given.0) e, g.given.1) }
negation None g e = record { given = g.given }

pub first_arm : (v u w : Option ℕ) {b c d : Bool} {x r : ℕ} → Gives v b c x → (x ≡ 0 → ⊥) → Gives u c d r → Gives (chosen v u w) b d r
unfolding chosen
first_arm (Some y) u w g e h = rw (← g.given.0, ne_eqb _ _ e, ← g.given.1) h
first_arm None u w g e h = record { given = stays u g.given h }

pub second_arm : (v u w : Option ℕ) {b c d : Bool} {x r : ℕ} → Gives v b c x → x ≡ 0 → Gives w c d r → Gives (chosen v u w) b d r
unfolding chosen
second_arm (Some y) u w g e h = rw (← g.given.0, eq-eqb _ _ e, ← g.given.1) h
second_arm None u w g e h = record { given = stays w g.given h }

pub left_alone : (op : Op) (v w : Option ℕ) {b c d : Bool} {x r : ℕ} → Gives v b c x → settled op x ≡ true → Gives (binary op (Some x) (Some 0)) c d r
    → Gives (binary op v w) b d r
unfolding binary
left_alone op (Some y) w {x = x} g e h = rw (← g.given.0, settled_any op x w e, ← g.given.1) h
left_alone op None w g e h = record { given = stays _ g.given h }

pub both : (op : Op) (v w : Option ℕ) {b c d e : Bool} {x y r : ℕ} → Gives v b c x → settled op x ≡ false → Gives w c d y
    → Gives (binary op (Some x) (Some y)) d e r → Gives (binary op v w) b e r
unfolding binary
both op (Some i) (Some j) g s h k = rw (← g.given.0, ← h.given.0, ← g.given.1, ← h.given.1) k
both op (Some i) None {x = x} g s h k = failed (rw (← g.given.0) (unsettled op x s)) (stays _ h.given k)
both op None w g s h k = record { given = stays _ (stays w g.given h) k }

-- a right operand that is a number decides nothing by itself
pub by_left : (op : Op) (v : Option ℕ) (y : ℕ) {b c d : Bool} {x r : ℕ} → Gives v b c x → Gives (binary op (Some x) (Some y)) c d r → Gives (binary op v (Some y)) b d r
unfolding binary
by_left op (Some i) y g k = rw (← g.given.0, ← g.given.1) k
by_left op None y g k = record { given = stays _ g.given k }
