-- A run of nodes: what its walk down knows at each step, that it ends above place 0, and what a sound place knows of its run.
use Prim.Native.Nat.{ℕ, suc, ◌+◌, ◌*◌, ◌<◌, ◌≤◌}
use mathlib.Core.Path.{◌≡◌, sym, ◌∙◌}
use mathlib.Core.Bool.{true, false}
use mathlib.Core.List.{List}
use mathlib.Core.Logic.{⊎_elim, by_cases}
use native.Mathlib.Omega.{arith}
use native.Mathlib.Nat.{eq-or-lt_of_le}
use native.Mathlib.Decide.{dec_lt}
use lib.ListN.{get_or}
use lib.Dec.{leb, ltb}
use borrow.Author.Tests.{leb-true, ltb-true, le-leb, lt-ltb}
use Rattle.rules.specs.Pool.{Pool, code, nay_node, ternary_node}
use Rattle.rules.specs.Promise.{Sound}
use Rattle.rules.proofs.Operators.{never}
use Rattle.rules.proofs.Trees.{both_left, both_right, known_in, before_in}
use Rattle.rules_tree.specs.Promise.{above, Run, Stands}

pub low : (c e : ℕ) → above c e ≡ true → nay_node ≤ c
low c e h = leb-true nay_node c (both_left (leb nay_node c) (ltb c e) h)

pub high : (c e : ℕ) → above c e ≡ true → c < e
high c e h = ltb-true c e (both_right (leb nay_node c) (ltb c e) h)

pub no_run : (codes : List ℕ) (p e : ℕ) → Run codes p e p
no_run codes p e = record { below = omega arith; all = λ i h l. absurd (omega arith) }

module _ {codes : List ℕ} {p e q : ℕ} (r : Run codes p e q) where
  -- place 0 holds no such node
  pub some_below : get_or codes 0 0 < nay_node → above (get_or codes q 0) e ≡ true → 0 < q
  some_below h a = ⊎_elim (λ d. let l = low (get_or codes 0 0) e (rw (← d) at a) in absurd (omega arith)) (λ l. l) (eq-or-lt_of_le (omega arith))

  pub longer : (i : ℕ) → suc i ≡ q → above (get_or codes q 0) e ≡ true → Run codes p e i
  longer i d a =
      record {
        below = omega (arith, r.below);
        all = λ j h l. ⊎_elim (λ (f : q ≡ j). rw (← f) a) (λ k. r.all j k l) (eq-or-lt_of_le (omega arith));
      }

  pub stands : above (get_or codes q 0) e ≡ false → Stands codes p e q
  stands a = record { run = r; stops = a }

-- two places that a run stands on are one
pub one_base : {codes : List ℕ} {p e q r : ℕ} → Stands codes p e q → Stands codes p e r → q ≡ r
one_base {codes} {p} {e} {q} {r} s t =
    by_cases (dec_lt q r)
    (λ f. never (sym t.stops ∙ s.run.all r f t.run.below))
    (λ f. by_cases (dec_lt r q) (λ g. never (sym s.stops ∙ t.run.all q g s.run.below)) (λ g. omega arith))

-- at a sound place
module _ {P : Pool} {p : ℕ} (s : Sound P p) where
  pub down_to : {q : ℕ} → q ≤ p → Sound P q
  down_to h = record { count = s.count; inside = omega (arith, s.inside); few = s.few; shape = s.shape }

  pub inside : p < 512
  inside = omega (arith, s.inside, s.few)

  -- an operand place lies below its parent's, whichever of two functions is called for it
  pub falls_to : {q x t : ℕ} → 2 * p ≡ t → x < p → q ≡ x → (2 * q + 1 < t) × Sound P q
  falls_to e l d = (omega arith, down_to (omega arith))

  -- place 0 holds a leaf
  pub leaf_first : code P 0 < nay_node
  leaf_first =
      by_cases (dec_lt (code P 0) nay_node) (λ e. e) (λ e. let h = before_in {p = 0} (down_to (omega arith)) (omega arith) in absurd (omega arith))

  -- so does what a run of all nodes with operands stands on
  pub leaf_last : {q : ℕ} → Stands P.codes p (ternary_node + 1) q → code P q < nay_node
  leaf_last {q} t =
      let h = known_in (down_to t.run.below) in
      by_cases (dec_lt (code P q) nay_node) (λ e. e)
      (λ e. never (sym t.stops ∙ rw (above, le-leb nay_node (code P q) (omega arith), lt-ltb (code P q) (ternary_node + 1) (omega arith))))
