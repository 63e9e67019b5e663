-- A step from a node toward the one that divides by zero, by its code and its operands' values; and the steps together, which end because
-- operands lie below their parents. After `zero_on` nothing counts them. Assumes nothing.
use mathlib.Core.Path.{◌≡◌, refl, sym, ap, ◌∙◌}
use mathlib.Core.Bool.{Bool, true, false}
use mathlib.Core.List.{[], ◌∷◌}
use Prim.Native.Nat.{ℕ, zero, suc, ◌-◌, ◌<◌, ◌≤◌}
use native.Mathlib.Omega.{arith}
use lib.Dec.{ltb, eqb}
use borrow.Author.Tests.{lt-ltb, le-ltb, ltb-true, ltb-false, eq-eqb, ne_eqb, eqb-true, eqb-false}
use Rattle.std.specs.Prelude.{Option, Some, None, Result, Err}
use Rattle.rules.specs.declared.NoForm.{NoForm}
use Rattle.rules.specs.declared.NoForm.TheVariants as no_form
use Rattle.rules.specs.Operator.{op_of}
use Rattle.rules.specs.Pool.{Pool, code, field, is_tree, nay_node, pair_op, choice_node, ternary_node}
use Rattle.rules.specs.Promise.{Sound}
use Rattle.rules.specs.Answer.{resolved_of}
use Rattle.rules.proofs.Trees.{first_in, second_in, down, sound}
use Rattle.rules.proofs.Answers.{resolved_none}
use Rattle.rules_operators.specs.Operator.{settled_by}
use Rattle.rules_zero.specs.Zero.{value_at, second, reached, without, first_of, step_of, steps, zero_at, traced, traced_of}

module _ (P : Pool) (n p : ℕ) where
  pub step_leaf : code P p < nay_node → p ≡ step_of P n p
  unfolding step_of reached
  step_leaf h = rw (step_of, reached, lt-ltb (code P p) nay_node h)

  -- what the code found of an operand that is the only one left
  abbrev Left : ℕ → ℕ → Type 0
  Left q r = r ≡ without (value_at P n q) q p

  pub step_one : {r : ℕ} → nay_node ≤ code P p → code P p < pair_op → Left (p - 1) r → r ≡ step_of P n p
  unfolding step_of reached
  step_one h l e = e ∙ rw (step_of, reached, le-ltb (code P p) nay_node h, lt-ltb (code P p) pair_op l)

  step_two : pair_op ≤ code P p
      → step_of P n p ≡ without (value_at P n (field P p 0)) (field P p 0) (first_of P n p (second P p (value_at P n (field P p 0))))
  unfolding step_of reached
  step_two h = rw (step_of, reached, le-ltb (code P p) nay_node (omega arith), le-ltb (code P p) pair_op h)

  -- the first operand is q, and u its value
  module _ {q : ℕ} {u : Option ℕ} (h : pair_op ≤ code P p) (e : q ≡ field P p 0) (g : u ≡ value_at P n q) where
    at_first : {v : Option ℕ} → u ≡ v → step_of P n p ≡ without v (field P p 0) (first_of P n p (second P p v))
    at_first f = step_two h ∙ ap (λ (v : Option ℕ). without v (field P p 0) (first_of P n p (second P p v))) (sym (g ∙ ap (value_at P n) e) ∙ f)

    pub step_first : u ≡ None → q ≡ step_of P n p
    step_first f = e ∙ sym (at_first f)

    module _ {x : ℕ} (f : u ≡ Some x) where
      pub step_settled : {s : Bool} → code P p < choice_node → s ≡ settled_by (op_of (code P p - pair_op)) x → s ≡ true → p ≡ step_of P n p
      step_settled l a b = sym (at_first f ∙ rw (second, lt-ltb (code P p) choice_node l, sym a ∙ b))

      pub step_both : {s : Bool} {r : ℕ} → code P p < choice_node → s ≡ settled_by (op_of (code P p - pair_op)) x → s ≡ false → Left (p - 1) r → r ≡ step_of P n p
      step_both l a b k = k ∙ sym (at_first f ∙ rw (second, lt-ltb (code P p) choice_node l, sym a ∙ b))

      pub step_no : {r : ℕ} → choice_node ≤ code P p → x ≡ 0 → Left (p - 1) r → r ≡ step_of P n p
      step_no l z k = k ∙ sym (at_first f ∙ rw (second, le-ltb (code P p) choice_node l, eq-eqb x 0 z))

      pub step_chosen : choice_node ≤ code P p → code P p < ternary_node → (x ≡ 0 → ⊥) → p ≡ step_of P n p
      step_chosen l m z = sym (at_first f ∙ rw (second, le-ltb (code P p) choice_node l, ne_eqb x 0 z, lt-ltb (code P p) ternary_node m))

      pub step_yes : {r l : ℕ} → ternary_node ≤ code P p → (x ≡ 0 → ⊥) → l ≡ field P p 1 → Left l r → r ≡ step_of P n p
      step_yes {r} m z d k =
          rw d at k
          ∙ sym (at_first f ∙ rw (second, le-ltb (code P p) choice_node (omega arith), ne_eqb x 0 z, le-ltb (code P p) ternary_node m))

pub inside : {P : Pool} {p : ℕ} → Sound P p → p < 512
inside s = omega (arith, s.inside, s.few)

-- a step goes to a place that is not above
without_low : (v : Option ℕ) {q r p : ℕ} → q ≤ p → r ≤ p → without v q r ≤ p
without_low (Some x) h k = k
without_low None h k = h

module _ {P : Pool} {p : ℕ} (n : ℕ) (s : Sound P p) where
  second_low : (v : Option ℕ) → pair_op ≤ code P p → first_of P n p (second P p v) ≤ p
  second_low None h = omega arith
  second_low (Some x) h = go (ltb (code P p) choice_node) refl
    where
      settled : (b : Bool) → first_of P n p (elim b [ true ↦ [] | false ↦ (p - 1) ∷ [] ]) ≤ p
      settled true = omega arith
      settled false = without_low (value_at P n (p - 1)) (omega arith) (omega arith)

      arm : (b : Bool) → ltb (code P p) ternary_node ≡ b → first_of P n p (elim b [ true ↦ [] | false ↦ field P p 1 ∷ [] ]) ≤ p
      arm true e = omega arith
      arm false e = without_low (value_at P n (field P p 1)) (omega (arith, second_in s (ltb-false (code P p) ternary_node e))) (omega arith)

      chosen : (b : Bool) → first_of P n p (elim b [ true ↦ (p - 1) ∷ [] | false ↦ elim (ltb (code P p) ternary_node) [ true ↦ [] | false ↦ field P p 1 ∷ [] ] ]) ≤ p
      chosen true = without_low (value_at P n (p - 1)) (omega arith) (omega arith)
      chosen false = arm (ltb (code P p) ternary_node) refl

      go : (b : Bool) → ltb (code P p) choice_node ≡ b → first_of P n p (second P p (Some x)) ≤ p
      go true e = rw (second, e) (settled (settled_by (op_of (code P p - pair_op)) x))
      go false e = rw (second, e) (chosen (eqb x 0))

  step_low : step_of P n p ≤ p
  step_low = leafs (ltb (code P p) nay_node) refl
    where
      ones : (b : Bool) → nay_node ≤ code P p → ltb (code P p) pair_op ≡ b → step_of P n p ≤ p
      ones true h e =
          let z : without (value_at P n (p - 1)) (p - 1) p ≡ step_of P n p = step_one P n p h (ltb-true (code P p) pair_op e) refl in
          rw (← z) (without_low (value_at P n (p - 1)) (omega arith) (omega arith))
      ones false h e =
          let l = ltb-false (code P p) pair_op e in
          rw (step_two P n p l) (without_low (value_at P n (field P p 0)) (omega (arith, first_in s l)) (second_low (value_at P n (field P p 0)) l))

      leafs : (b : Bool) → ltb (code P p) nay_node ≡ b → step_of P n p ≤ p
      leafs true e = omega (arith, step_leaf P n p (ltb-true (code P p) nay_node e))
      leafs false e = ones (ltb (code P p) pair_op) (ltb-false (code P p) nay_node e) refl

  -- and where it goes, it goes down
  pub step_down : {q : ℕ} → q ≡ step_of P n p → (q ≡ p → ⊥) → (q < p) × Sound P q
  step_down {q} e d = down s refl (let l : q < p = omega (arith, step_low) in l) refl

stays : (P : Pool) (n p f : ℕ) → step_of P n p ≡ p → steps f P n p ≡ p
unfolding steps
stays P n p zero e = refl
stays P n p (suc f) e = ap (steps f P n) e ∙ stays P n p f e

-- any number of steps from p on does
enough : (P : Pool) (n f g p : ℕ) → Sound P p → p ≤ f → p ≤ g → steps f P n p ≡ steps g P n p
unfolding steps
enough P n zero g p s h k = let e : step_of P n p ≡ p = omega (arith, step_low n s) in stays P n p zero e ∙ sym (stays P n p g e)
enough P n (suc f) zero p s h k = let e : step_of P n p ≡ p = omega (arith, step_low n s) in stays P n p (suc f) e ∙ sym (stays P n p zero e)
enough P n (suc f) (suc g) p s h k =
    by_step (eqb (step_of P n p) p) refl (λ d. enough P n f g (step_of P n p) d.1 (omega (arith, d.0)) (omega (arith, d.0)))
  where
    by_step : (b : Bool) → eqb (step_of P n p) p ≡ b
        → ((step_of P n p < p) × Sound P (step_of P n p) → steps f P n (step_of P n p) ≡ steps g P n (step_of P n p))
        → steps (suc f) P n p ≡ steps (suc g) P n p
    by_step true e r = let d = eqb-true (step_of P n p) p e in stays P n p (suc f) d ∙ sym (stays P n p (suc g) d)
    by_step false e r = r (step_down n s refl (eqb-false (step_of P n p) p e))

module _ (P : Pool) (n p : ℕ) where
  pub zero_here : step_of P n p ≡ p → p ≡ zero_at P n p
  unfolding zero_at
  zero_here e = sym (stays P n p p e)

  pub zero_on : {q : ℕ} → Sound P p → q ≡ step_of P n p → (q ≡ p → ⊥) → zero_at P n p ≡ zero_at P n q
  unfolding zero_at steps
  zero_on {q} s e d =
      let w = step_down n s e d in
      enough P n p (suc p) p s (omega arith) (omega arith)
      ∙ ap (steps p P n) (sym e)
      ∙ enough P n p q q w.1 (omega (arith, w.0)) (omega arith)

-- the value of a rule with the node, as the code has them
module _ (P : Pool) (count root n : ℕ) where
  pub traces : {v u : Result ℕ NoForm} → v ≡ resolved_of P count root n → v ≡ u → traced u (zero_at P n root) ≡ traced_of P count root n
  unfolding traced_of
  traces e d = ap (λ (u : Result ℕ NoForm). traced u (zero_at P n root)) (sym d ∙ e)

  -- where a zero divisor is met, the nodes are a tree
  pub zero_sound : {v : Result ℕ NoForm} → v ≡ resolved_of P count root n → v ≡ Err no_form.ZeroModulus → Sound P root
  zero_sound e d = go (is_tree P count root) refl
    where
      go : (b : Bool) → is_tree P count root ≡ b → Sound P root
      go true t = sound P count root t
      go false t = let w : Err no_form.ZeroModulus ≡ Err no_form.NoTree = sym d ∙ e ∙ resolved_none P count root n t in let z : ◌≡◌ {A = ℕ} 0 1 = cc in absurd (omega arith)
