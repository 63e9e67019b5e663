-- The reading's equations, without fuel: any fuel that is enough gives the same, since what is left to read is no longer than the text.
use Prim.Native.Nat.{ℕ, zero, suc, ◌+◌, ◌*◌, ◌<◌, ◌≤◌, ◌^◌}
use Prim.Native.Char.{code}
use mathlib.Core.Path.{◌≡◌, refl, ap}
use mathlib.Core.Bool.{Bool, true, false, ◌&&◌}
use mathlib.Core.List.{List, [], ◌∷◌}
use native.Mathlib.Omega.{arith}
use lib.ListN.{length, length-append}
use lib.Dec.{ltb, eqb}
use borrow.Author.Tests.{eqb-true}
use Rattle.rules.specs.Tree.{Tree, var, int, nay, bin, cond, Op}
use Rattle.reading_grammar.specs.Grammar.{Token, sign, number, mark, rank, loosest, full}
use Rattle.reading_grammar.specs.Reading.{Outcome, got, bad, and_then, past, level, more, prefix, Level, More, Prefix, μ}
use Rattle.reading_grammar.proofs.Sound.{Right, right, nothing, sound_level, low}

-- an outcome's rest is no longer than the text
then_same : {k : ℕ} {s : List Token} {o : Outcome} (K L : Tree → List Token → Outcome) → Right k s o
    → ((t : Tree) (r : List Token) → length r ≤ length s → K t r ≡ L t r) → and_then o K ≡ and_then o L
then_same K L (right {t} {r} p e d) h = h t r (rw e (omega (arith, length-append p r)))
then_same K L nothing h = refl

past_same : {k : ℕ} {s : List Token} (c : ℕ) {o : Outcome} (K L : Tree → List Token → Outcome) → Right k s o
    → ((t : Tree) (r : List Token) → length r < length s → K t r ≡ L t r) → past c o K ≡ past c o L
past_same c K L (right {r = []} p e d) h = refl
past_same c K L (right {r = sign op ∷ r} p e d) h = refl
past_same c K L (right {r = number v ∷ r} p e d) h = refl
past_same c K L (right {t} {r = mark b ∷ r} p e d) h =
    ap (λ (x : Outcome). elim (eqb b c) [ true ↦ x | false ↦ bad ]) (h t r (rw e (omega (arith, length-append p (mark b ∷ r)))))
past_same c K L nothing h = refl

pick_same : (b : Bool) (x y u v : Outcome) → (b ≡ true → x ≡ u) → y ≡ v
    → ◌≡◌ {A = Outcome} (elim b [ true ↦ x | false ↦ y ]) (elim b [ true ↦ u | false ↦ v ])
pick_same true x y u v h i = h refl
pick_same false x y u v h i = i

mutual
  unfolding level

  same_level : (f g l : ℕ) (s : List Token) → μ l s < f → μ l s < g → level f l s ≡ level g l s
  same_level zero g l s h i = absurd (omega arith)
  same_level (suc f) zero l s h i = absurd (omega arith)
  same_level (suc f) (suc g) zero s h i = same_prefix f g s (omega arith) (omega arith)
  same_level (suc f) (suc g) (suc k) s h i = rw (same_level f g k s (omega arith) (omega arith))
      (then_same _ _ (sound_level g k s) (λ t r m. same_more f g k t r (omega arith) (omega arith)))

  same_more : (f g k : ℕ) (t : Tree) (s : List Token) → (full + 2) * length s < f → (full + 2) * length s < g → more f k t s ≡ more g k t s
  same_more zero g k t s h i = absurd (omega arith)
  same_more (suc f) zero k t s h i = absurd (omega arith)
  same_more (suc f) (suc g) k t [] h i = refl
  same_more (suc f) (suc g) k t (number v ∷ s) h i = refl
  same_more (suc f) (suc g) k t (sign op ∷ s) h i = pick_same (eqb (rank op) (suc k)) _ _ _ _
      (λ z. rw (same_level f g k s (omega (arith, low op, eqb-true (rank op) (suc k) z)) (omega (arith, low op, eqb-true (rank op) (suc k) z)))
      (then_same _ _ (sound_level g k s) (λ u r m. same_more f g k (bin op t u) r (omega arith) (omega arith)))) refl
  same_more (suc f) (suc g) k t (mark b ∷ s) h i = pick_same (eqb b (code "?") && eqb k loosest) _ _ _ _
      (λ _. rw (same_level f g full s (omega arith) (omega arith))
      (past_same _ _ _ (sound_level g full s) (λ u r m. rw (same_level f g full r (omega arith) (omega arith))))) refl

  same_prefix : (f g : ℕ) (s : List Token) → (full + 2) * length s < f → (full + 2) * length s < g → prefix f s ≡ prefix g s
  same_prefix zero g s h i = absurd (omega arith)
  same_prefix (suc f) zero s h i = absurd (omega arith)
  same_prefix (suc f) (suc g) [] h i = refl
  same_prefix (suc f) (suc g) (number v ∷ s) h i = refl
  same_prefix (suc f) (suc g) (sign op ∷ s) h i = refl
  same_prefix (suc f) (suc g) (mark b ∷ s) h i = pick_same (eqb b (code "n")) _ _ _ _ (λ _. refl)
      (pick_same (eqb b (code "!")) _ _ _ _ (λ _. rw (same_prefix f g s (omega arith) (omega arith)))
      (pick_same (eqb b (code "(")) _ _ _ _ (λ _. rw (same_level f g full s (omega arith) (omega arith))) refl))

-- what any fuel that is enough gives
at_level : (f l : ℕ) (s : List Token) → μ l s < f → level f l s ≡ Level l s
unfolding Level
at_level f l s h = same_level f (suc (μ l s)) l s h (omega arith)

at_more : (f k : ℕ) (t : Tree) (s : List Token) → (full + 2) * length s < f → more f k t s ≡ More k t s
unfolding More
at_more f k t s h = same_more f (suc ((full + 2) * length s)) k t s h (omega arith)

at_prefix : (f : ℕ) (s : List Token) → (full + 2) * length s < f → prefix f s ≡ Prefix s
unfolding Prefix
at_prefix f s h = same_prefix f (suc ((full + 2) * length s)) s h (omega arith)

pub right_level : (l : ℕ) (s : List Token) → Right l s (Level l s)
unfolding Level
right_level l s = sound_level (suc (μ l s)) l s

-- one step, at such a fuel
step_level : (f k : ℕ) (s : List Token) → μ (suc k) s < suc f → level (suc f) (suc k) s ≡ and_then (Level k s) (λ t r. More k t r)
unfolding level
step_level f k s h = rw (at_level f k s (omega arith)) (then_same _ _ (right_level k s) (λ t r m. at_more f k t r (omega arith)))

step_sign : (f k : ℕ) (t : Tree) (op : Op) (s : List Token) → (full + 2) * suc (length s) < suc f
    → more (suc f) k t (sign op ∷ s) ≡ elim (eqb (rank op) (suc k)) [ true ↦ and_then (Level k s) (λ u r. More k (bin op t u) r) | false ↦ got t (sign op ∷ s) ]
unfolding level
step_sign f k t op s h = pick_same (eqb (rank op) (suc k)) _ _ _ _
    (λ z. rw (at_level f k s (omega (arith, low op, eqb-true (rank op) (suc k) z)))
    (then_same _ _ (right_level k s) (λ u r m. at_more f k (bin op t u) r (omega arith)))) refl

step_mark : (f k : ℕ) (t : Tree) (b : ℕ) (s : List Token) → (full + 2) * suc (length s) < suc f
    → more (suc f) k t (mark b ∷ s) ≡ elim (eqb b (code "?") && eqb k loosest) [
      | true ↦ past (code ":") (Level full s) (λ u r. and_then (Level full r) (λ v q. got (cond t u v) q))
      | false ↦ got t (mark b ∷ s)
    ]
unfolding level
step_mark f k t b s h = pick_same (eqb b (code "?") && eqb k loosest) _ _ _ _
    (λ _. rw (at_level f full s (omega arith))
    (past_same _ _ _ (right_level full s) (λ u r m. rw (at_level f full r (omega arith))))) refl

step_prefix : (f b : ℕ) (s : List Token) → (full + 2) * suc (length s) < suc f
    → prefix (suc f) (mark b ∷ s) ≡ elim (eqb b (code "n")) [
      | true ↦ got var s
      | false ↦ elim (eqb b (code "!")) [
        | true ↦ and_then (Prefix s) (λ t r. got (nay t) r)
        | false ↦ elim (eqb b (code "(")) [
          | true ↦ past (code ")") (Level full s) (λ t r. got t r)
          | false ↦ bad
        ]
      ]
    ]
unfolding level
step_prefix f b s h = pick_same (eqb b (code "n")) _ _ _ _ (λ _. refl)
    (pick_same (eqb b (code "!")) _ _ _ _ (λ _. rw (at_prefix f s (omega arith)))
    (pick_same (eqb b (code "(")) _ _ _ _ (λ _. rw (at_level f full s (omega arith))) refl))

-- the equations
pub level_zero : (s : List Token) → Level 0 s ≡ Prefix s
unfolding Level
level_zero s = at_prefix (μ 0 s) s (omega arith)

pub level_suc : (k : ℕ) (s : List Token) → Level (suc k) s ≡ and_then (Level k s) (λ t r. More k t r)
unfolding Level
level_suc k s = step_level (μ (suc k) s) k s (omega arith)

pub more_nil : (k : ℕ) (t : Tree) → More k t [] ≡ got t []
unfolding More
more_nil k t = refl

pub more_number : (k : ℕ) (t : Tree) (v : ℕ) (s : List Token) → More k t (number v ∷ s) ≡ got t (number v ∷ s)
unfolding More
more_number k t v s = refl

pub more_sign : (k : ℕ) (t : Tree) (op : Op) (s : List Token)
    → More k t (sign op ∷ s) ≡ elim (eqb (rank op) (suc k)) [ true ↦ and_then (Level k s) (λ u r. More k (bin op t u) r) | false ↦ got t (sign op ∷ s) ]
unfolding More
more_sign k t op s = step_sign ((full + 2) * suc (length s)) k t op s (omega arith)

pub more_mark : (k : ℕ) (t : Tree) (b : ℕ) (s : List Token)
    → More k t (mark b ∷ s) ≡ elim (eqb b (code "?") && eqb k loosest) [
      | true ↦ past (code ":") (Level full s) (λ u r. and_then (Level full r) (λ v q. got (cond t u v) q))
      | false ↦ got t (mark b ∷ s)
    ]
unfolding More
more_mark k t b s = step_mark ((full + 2) * suc (length s)) k t b s (omega arith)

pub prefix_nil : Prefix [] ≡ bad
unfolding Prefix
prefix_nil = refl

pub prefix_sign : (op : Op) (s : List Token) → Prefix (sign op ∷ s) ≡ bad
unfolding Prefix
prefix_sign op s = refl

pub prefix_number : (v : ℕ) (s : List Token) → Prefix (number v ∷ s) ≡ elim (ltb v (2 ^ 64)) [ true ↦ got (int v) s | false ↦ bad ]
unfolding Prefix
prefix_number v s = refl

pub prefix_mark : (b : ℕ) (s : List Token) → Prefix (mark b ∷ s) ≡ elim (eqb b (code "n")) [
  | true ↦ got var s
  | false ↦ elim (eqb b (code "!")) [
    | true ↦ and_then (Prefix s) (λ t r. got (nay t) r)
    | false ↦ elim (eqb b (code "(")) [
      | true ↦ past (code ")") (Level full s) (λ t r. got t r)
      | false ↦ bad
    ]
  ]
]
unfolding Prefix
prefix_mark b s = step_prefix ((full + 2) * suc (length s)) b s (omega arith)
