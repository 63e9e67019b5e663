-- How long a tree's text is: the lengths of its parts added up, and at most 20 bytes for each node. Assumes nothing.
use Prim.Native.Nat.{ℕ, ◌+◌, ◌*◌, ◌≤◌}
use mathlib.Core.Path.{◌≡◌}
use mathlib.Core.List.{List, [], ◌∷◌, ◌++◌}
use native.Mathlib.Omega.{arith}
use lib.ListN.{length, length-append}
use Rattle.rules.specs.Tree.{Tree, var, int, nay, bin, cond, Op}
use Rattle.rules.specs.Store.{size}
use Rattle.rules_text.specs.Bracketed.{sign_of, bracketed}
use Rattle.rules_text.specs.Bounded.{Bounded}
use Rattle.reading_bracketed.proofs.Decimal.{digits_few}
use Rattle.reading_bracketed.proofs.Marks.{Sign, one_byte, two_bytes, signs}

pub length_not : (t : Tree) → length (bracketed (nay t)) ≡ length (bracketed t) + 3
unfolding bracketed
length_not t = omega (arith, length-append (bracketed t) (41 ∷ []))

pub length_binary : (op : Op) (s t : Tree) → length (bracketed (bin op s t)) ≡ length (bracketed s) + length (sign_of op) + length (bracketed t) + 2
unfolding bracketed
length_binary op s t =
    omega (
      arith,
      length-append (bracketed s ++ sign_of op ++ bracketed t) (41 ∷ []),
      length-append (bracketed s ++ sign_of op) (bracketed t),
      length-append (bracketed s) (sign_of op),
    )

pub length_ternary : (s t u : Tree) → length (bracketed (cond s t u)) ≡ length (bracketed s) + length (bracketed t) + length (bracketed u) + 4
unfolding bracketed
length_ternary s t u =
    omega (
      arith,
      length-append (bracketed s ++ 63 ∷ bracketed t ++ 58 ∷ bracketed u) (41 ∷ []),
      length-append (bracketed s ++ 63 ∷ bracketed t) (58 ∷ bracketed u),
      length-append (bracketed s) (63 ∷ bracketed t),
    )

short : {g : List ℕ} → Sign g → length g ≤ 2
short (one_byte h) = omega arith
short (two_bytes h k) = omega arith

pub few_bytes : (t : Tree) → Bounded t → length (bracketed t) ≤ 20 * size t
unfolding bracketed size
few_bytes var h = omega arith
few_bytes (int v) h = digits_few v h
few_bytes (nay t) h = omega (arith, length_not t, few_bytes t h)
few_bytes (bin op s t) h = omega (arith, length_binary op s t, short (signs op), few_bytes s h.0, few_bytes t h.1)
few_bytes (cond s t u) h = omega (arith, length_ternary s t u, few_bytes s h.0, few_bytes t h.1, few_bytes u h.2)
