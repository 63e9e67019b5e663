-- What the functions behind the public one promise.
use Rattle.std.specs.Prelude.{ℕ, ◌+◌, ◌-◌, ◌<◌, ◌≤◌, ◌^◌, ◌≡◌, true, false, List, [], ◌∷◌, ◌++◌, length, leb, ltb, eqb}
use Prim.Native.Char.{code as char}
use Rattle.std.proofs.Math.Option.{Option, none, some}
use Rattle.std.proofs.lemmas.List.Edits.{sets}
use Rattle.rules.specs.Tree.{Tree, Op, int}
use Rattle.rules.specs.Operator.{op_of}
use Rattle.rules.specs.Pool.{Pool, code, field, value, tree_of, nay_node, value_op, pair_op, choice_node, ternary_node}
use Rattle.rules_text.specs.Bracketed.{decimal, sign_of, bracketed}
use Rattle.rules_text.specs.Bounded.{Bounded}
use Rattle.rules_text.specs.declared.Text.{Text}

-- the place after a text; 513 if it does not fit
abbrev pub ended : ℕ → List ℕ → ℕ
ended at s = elim (leb (at + length s) 512) [ true ↦ at + length s | false ↦ 513 ]

-- a text was put from a place on if it fits, and r is the place after it
pub record Puts (s : List ℕ) (at : ℕ) (old new : List ℕ) (r : ℕ) : Type 0 where
  pub end : r ≡ ended at s
  pub text : at + length s ≤ 512 → new ≡ sets old at s

-- a text was put, and B says of the integers in it that they are below 2^64
pub record PutsWith (B : Type 0) (s : List ℕ) (at : ℕ) (old new : List ℕ) (r : ℕ) : Type 0 where
  pub text : Puts s at old new r
  pub bounded : B

-- of a text before and after
abbrev pub On : (ℕ → List ℕ → List ℕ → ℕ → Type 0) → Text → Text → Type 0
On R old new = R old.end old.bytes new.bytes new.end

abbrev pub PutsTree : Tree → ℕ → List ℕ → List ℕ → ℕ → Type 0
PutsTree t = PutsWith (Bounded t) (bracketed t)

abbrev pub sign_by : Option Op → List ℕ
sign_by (some op) = sign_of op
sign_by none = []

-- an operator and an integer as its last operand
abbrev pub valued : ℕ → ℕ → List ℕ
valued i v = sign_by (op_of i) ++ decimal v ++ char ")" ∷ []

abbrev pub PutsValue : ℕ → ℕ → ℕ → List ℕ → List ℕ → ℕ → Type 0
PutsValue i v = PutsWith (v < 2 ^ 64) (valued i v)

-- what stands before the node before in the text of the node at p, after its bracket, if that node is its last operand
abbrev pub lead_of : Pool → ℕ → List ℕ
lead_of P p =
    elim (ltb (code P p) choice_node) [
      | true ↦ bracketed (tree_of P (field P p 0)) ++ sign_by (op_of (code P p - pair_op))
      | false ↦ bracketed (tree_of P (field P p 0)) ++ char "?" ∷ elim (ltb (code P p) ternary_node) [ true ↦ decimal (value P p) | false ↦ bracketed (tree_of P (field P p 1)) ] ++ char ":" ∷ []
    ]

-- with its bracket, and whichever operand it is
abbrev pub head_of : Pool → ℕ → List ℕ
head_of P p =
    char "(" ∷ elim (eqb (code P p) nay_node) [ true ↦ char "!" ∷ [] | false ↦ elim (ltb (code P p) pair_op) [ true ↦ [] | false ↦ lead_of P p ] ]

-- what stands after it
abbrev pub tail_of : Pool → ℕ → List ℕ
tail_of P p =
    elim (eqb (code P p) nay_node) [
      | true ↦ char ")" ∷ []
      | false ↦ elim (ltb (code P p) value_op) [
        | true ↦ char "?" ∷ decimal (value P p) ++ char ":" ∷ decimal (field P p 0) ++ char ")" ∷ []
        | false ↦ elim (ltb (code P p) pair_op) [ true ↦ valued (code P p - value_op) (value P p) | false ↦ char ")" ∷ [] ]
      ]
    ]

-- the integers that stand before it, and after it, are below 2^64
abbrev pub HeadBounded : Pool → ℕ → Type 0
HeadBounded P p =
    elim (ltb (code P p) pair_op) [
      | true ↦ Unit {0}
      | false ↦ elim (ltb (code P p) choice_node) [
        | true ↦ Bounded (tree_of P (field P p 0))
        | false ↦ Bounded (tree_of P (field P p 0)) × Bounded (elim (ltb (code P p) ternary_node) [ true ↦ int (value P p) | false ↦ tree_of P (field P p 1) ])
      ]
    ]

abbrev pub TailBounded : Pool → ℕ → Type 0
TailBounded P p =
    elim (eqb (code P p) nay_node) [
      | true ↦ Unit {0}
      | false ↦ elim (ltb (code P p) value_op) [
        | true ↦ (value P p < 2 ^ 64) × (field P p 0 < 2 ^ 64)
        | false ↦ elim (ltb (code P p) pair_op) [ true ↦ value P p < 2 ^ 64 | false ↦ Unit {0} ]
      ]
    ]

abbrev pub PutsHead : Pool → ℕ → ℕ → List ℕ → List ℕ → ℕ → Type 0
PutsHead P p = PutsWith (HeadBounded P p) (head_of P p)

abbrev pub PutsTail : Pool → ℕ → ℕ → List ℕ → List ℕ → ℕ → Type 0
PutsTail P p = PutsWith (TailBounded P p) (tail_of P p)
