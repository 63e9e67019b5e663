-- Sums of stated lengths, as the loops meet them. Assumes nothing.
use Prim.Native.Nat.{ℕ, zero, suc, ◌+◌, ◌-◌, ◌*◌, ◌^◌, ◌<◌, ◌≤◌}
use mathlib.Core.Path.{◌≡◌, refl, sym, ap, ◌∙◌}
use mathlib.Core.Bool.{Bool}
use mathlib.Core.List.{List}
use native.Mathlib.Omega.{arith}
use lib.Dec.{ltb}
use lib.ListN.{length}
use borrow.Author.Tests.{le-leb, lt-leb, lt-ltb, le-ltb, ltb-true, ltb-false}
use Rattle.text.proofs.Tests.{taken, left, by_test}
use Rattle.container_layout.specs.Mo.{word}
use Rattle.refusal.specs.declared.Error.{Error}
use Rattle.container_layout.specs.declared.Tables.{Tables}
use Rattle.container_head.specs.Head.{head_of}
use Rattle.std.specs.Prelude.{Result, Ok, Err, min}
use Rattle.container_cost.specs.Cost.{stated, lengths, capped, cost_of, cost}
use Rattle.container_cost.specs.Private.{Cells}

pub capped_below : (x : ℕ) → x < 2 ^ 64 → x ≡ capped x
unfolding capped
capped_below x h = sym (taken _ _ (lt-ltb x (2 ^ 64) h))

pub capped_above : (x : ℕ) → 2 ^ 64 ≤ x → 2 ^ 64 - 1 ≡ capped x
unfolding capped
capped_above x h = sym (left _ _ (le-ltb x (2 ^ 64) h))

pub capped_min : (x : ℕ) → min x (2 ^ 64 - 1) ≡ capped x
capped_min x =
    by_test (min x (2 ^ 64 - 1) ≡ capped x) (ltb x (2 ^ 64))
    (λ t. let h : x < 2 ^ 64 = ltb-true x (2 ^ 64) t in let z : min x (2 ^ 64 - 1) ≡ x = omega (arith, h) in z ∙ capped_below x h)
    (λ t. let h : 2 ^ 64 ≤ x = ltb-false x (2 ^ 64) t in let z : min x (2 ^ 64 - 1) ≡ 2 ^ 64 - 1 = omega (arith, h) in z ∙ capped_above x h)

-- a sum is capped once or at each step, with the same end
pub capped_twice : (a b : ℕ) → capped (capped a + b) ≡ capped (a + b)
unfolding capped
capped_twice a b =
    by_test (capped (capped a + b) ≡ capped (a + b)) (ltb a (2 ^ 64))
    (λ t. ap (λ (x : ℕ). capped (x + b)) (taken a (2 ^ 64 - 1) t))
    (λ t. let e : 2 ^ 64 ≤ a = ltb-false a (2 ^ 64) t in let c : capped a ≡ 2 ^ 64 - 1 = left a (2 ^ 64 - 1) t in
    by_cases b c e)
  where
    by_cases : (x : ℕ) → capped a ≡ 2 ^ 64 - 1 → 2 ^ 64 ≤ a → capped (capped a + x) ≡ capped (a + x)
    by_cases zero c e = let z : capped a + 0 ≡ 2 ^ 64 - 1 = omega (arith, c) in ap capped z ∙ sym (capped_below (2 ^ 64 - 1) (omega arith)) ∙ capped_above (a + 0) (omega (arith, e))
    by_cases (suc x) c e = sym (capped_above (capped a + suc x) (omega (arith, c))) ∙ capped_above (a + suc x) (omega (arith, e))

module _ (big : Bool) (s : List ℕ) (table : ℕ) where
  stated_in : (i : ℕ) → table + 8 * i + 8 ≤ length s → stated big s table i ≡ word big s (table + 8 * i)
  unfolding stated
  stated_in i h = taken _ _ (le-leb (table + 8 * i + 8) (length s) h)

  stated_out : (i : ℕ) → length s < table + 8 * i + 8 → stated big s table i ≡ 0
  unfolding stated
  stated_out i h = left _ _ (lt-leb (table + 8 * i + 8) (length s) h)

  pub lengths_none : 0 ≡ capped (lengths big s table 0)
  unfolding lengths capped
  lengths_none = refl

  lengths_more : (i : ℕ) {j : ℕ} → j ≡ i + 1 → lengths big s table j ≡ lengths big s table i + stated big s table i
  unfolding lengths
  lengths_more i {j} e = let z : j ≡ suc i = omega (arith, e) in ap (lengths big s table) z

  -- one cell more
  pub lengths_step : (i : ℕ) {j sum v at r : ℕ} → sum ≡ capped (lengths big s table i) → table + 8 * i + 8 ≤ length s → at ≡ table + 8 * i → v ≡ word big s at → r ≡ capped (sum + v)
      → j ≡ i + 1 → r ≡ capped (lengths big s table j)
  lengths_step i {j} {sum} {v} a h b d e f =
      let x : v ≡ stated big s table i = d ∙ ap (word big s) b ∙ sym (stated_in i h) in
      let y : sum + v ≡ capped (lengths big s table i) + stated big s table i = omega (arith, a, x) in
      e ∙ ap capped y ∙ capped_twice (lengths big s table i) (stated big s table i) ∙ ap capped (sym (lengths_more i f))

  -- cells outside the file state nothing
  lengths_rest : (n m : ℕ) → ((i : ℕ) → n ≤ i → i < n + m → length s < table + 8 * i + 8) → lengths big s table (n + m) ≡ lengths big s table n
  unfolding lengths
  lengths_rest n zero h = let z : n + 0 ≡ n = omega arith in ap (lengths big s table) z
  lengths_rest n (suc m) h =
      let z : n + suc m ≡ suc (n + m) = omega arith in
      let y : stated big s table (n + m) ≡ 0 = stated_out (n + m) (h (n + m) (omega arith) (omega arith)) in
      let x : lengths big s table (n + m) ≡ lengths big s table n = lengths_rest n m (λ i l k. h i l (omega arith)) in
      ap (lengths big s table) z ∙ omega (arith, x, y)

  pub lengths_all : {count n : ℕ} → Cells s table count n → lengths big s table n ≡ lengths big s table count
  lengths_all {count} {n} c =
      let b : n ≤ count = c.below in
      let z : n + (count - n) ≡ count = omega (arith, b) in
      sym (lengths_rest n (count - n) (λ i l k. c.outside i l (omega (arith, z)))) ∙ ap (lengths big s table) z

-- both tables
capped_both : (a b : ℕ) {x y r : ℕ} → x ≡ capped a → y ≡ capped b → r ≡ capped (x + y) → r ≡ capped (a + b)
capped_both a b {x} {y} e f g =
    let c : x + y ≡ capped a + capped b = omega (arith, e, f) in
    let d : a + capped b ≡ capped b + a = omega arith in
    let h : b + a ≡ a + b = omega arith in
    g ∙ ap capped c ∙ capped_twice a (capped b) ∙ ap capped d ∙ capped_twice b a ∙ ap capped h

module _ (s : List ℕ) {h : Result Tables Error} (e : h ≡ head_of s) where
  pub no_cost : {x : Error} → h ≡ Err x → 0 ≡ cost s
  unfolding cost
  no_cost q = sym (ap (cost_of s) (sym e ∙ q))

  pub the_cost : {t : Tables} {x y r : ℕ} → h ≡ Ok t → x ≡ capped (lengths t.big s t.originals t.count)
      → y ≡ capped (lengths t.big s t.translations t.count) → r ≡ capped (x + y) → r ≡ cost s
  unfolding cost
  the_cost {t} q f g i = capped_both (lengths t.big s t.originals t.count) (lengths t.big s t.translations t.count) f g i ∙ sym (ap (cost_of s) (sym e ∙ q))
