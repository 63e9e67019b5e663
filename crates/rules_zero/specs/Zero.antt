-- Where evaluation meets a zero divisor. SPEC 6.4 and 9.7: it goes to the operands of a node in order, of which it passes by what it does not need, and it
-- stops at the first % or / whose divisor is 0. Its node is the one that holds it: a packed node holds up to two operators.
use Rattle.std.specs.Prelude.{ℕ, zero, suc, ◌-◌, true, false, List, [], ◌∷◌, ltb, eqb, Option, Some, None, Result, Ok, Err}
use Rattle.rules.specs.declared.NoForm.{NoForm}
use Rattle.rules.specs.declared.NoForm.TheVariants as no_form
use Rattle.rules.specs.Value.{eval_tree}
use Rattle.rules.specs.Operator.{op_of}
use Rattle.rules.specs.Pool.{Pool, code, field, tree_of, nay_node, pair_op, choice_node, ternary_node}
use Rattle.rules.specs.Answer.{resolved_of}
use Rattle.rules_operators.specs.Operator.{settled_by}
use Rattle.rules_zero.specs.declared.Fault.{Fault}
use Rattle.rules_zero.specs.declared.Fault.TheVariants.{ZeroDivisor, NoTree}

abbrev pub value_at : Pool → ℕ → ℕ → Option ℕ
value_at P n q = eval_tree (tree_of P q) n

-- the second operand that evaluation gets to at the node at p, by the value of the first: of x op b that is b, unless x settles op; of
-- x ? v : b it is b for 0; of x ? y : b it is b for 0, else y
abbrev pub second : Pool → ℕ → Option ℕ → List ℕ
second P p None = []
second P p (Some x) =
    elim (ltb (code P p) choice_node) [
      | true ↦ elim (settled_by (op_of (code P p - pair_op)) x) [ true ↦ [] | false ↦ (p - 1) ∷ [] ]
      | false ↦ elim (eqb x 0) [ true ↦ (p - 1) ∷ [] | false ↦ elim (ltb (code P p) ternary_node) [ true ↦ [] | false ↦ field P p 1 ∷ [] ] ]
    ]

-- the operands of the node at p that evaluation at n gets to, in its order
unfoldable pub reached : Pool → ℕ → ℕ → List ℕ
reached P n p =
    elim (ltb (code P p) nay_node) [
      | true ↦ []
      | false ↦ elim (ltb (code P p) pair_op) [ true ↦ (p - 1) ∷ [] | false ↦ field P p 0 ∷ second P p (value_at P n (field P p 0)) ]
    ]

-- the first of some places whose tree has no value, or else p
abbrev pub without : Option ℕ → ℕ → ℕ → ℕ
without (Some x) q p = p
without None q p = q

abbrev pub first_of : Pool → ℕ → ℕ → List ℕ → ℕ
first_of P n p [] = p
first_of P n p (q ∷ qs) = without (value_at P n q) q (first_of P n p qs)

-- from a node whose tree has no value: the operand that has none, or the node itself, which then divides by zero
unfoldable pub step_of : Pool → ℕ → ℕ → ℕ
unfolding reached
step_of P n p = first_of P n p (reached P n p)

unfoldable pub steps : ℕ → Pool → ℕ → ℕ → ℕ
unfolding step_of
steps zero P n p = p
steps (suc f) P n p = steps f P n (step_of P n p)

-- the node at which evaluation of the tree at p meets a zero divisor, where it does: operands lie below their parents, so p steps are enough
unfoldable pub zero_at : Pool → ℕ → ℕ → ℕ
unfolding steps
zero_at P n p = steps p P n p

-- the value of the rule at a count, with that node
abbrev pub traced : Result ℕ NoForm → ℕ → Result ℕ Fault
traced (Ok x) q = Ok x
traced (Err no_form.ZeroModulus) q = Err (ZeroDivisor q)
traced (Err no_form.NoTree) q = Err NoTree

unfoldable pub traced_of : Pool → ℕ → ℕ → ℕ → Result ℕ Fault
unfolding zero_at
traced_of P count root n = traced (resolved_of P count root n) (zero_at P n root)
