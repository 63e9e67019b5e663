-- Texts put one after the other are their join put at once; a number is put. Assumes nothing.
use Prim.Native.Nat.{ℕ, suc, ◌+◌, ◌/◌, ◌%◌, ◌^◌, ◌<◌, ◌≤◌}
use mathlib.Core.Path.{◌≡◌, refl, sym, ap, ◌∙◌}
use mathlib.Core.Bool.{true, false}
use mathlib.Core.List.{List, [], ◌∷◌, ◌++◌}
use native.Mathlib.Omega.{arith}
use lib.ListN.{length, take, set, get_or, length-append}
use lib.Seq.{sets}
use lib.Dec.{leb}
use borrow.Author.Tests.{le-leb, lt-leb, leb-true, leb-false}
use Rattle.std.proofs.lemmas.List.{take_more, take_all}
use Rattle.text.proofs.Tests.{taken, left, by_test}
use Rattle.rules.specs.Tree.{int}
use Rattle.rules_text.specs.Bracketed.{bracketed}
use Rattle.rules_text.specs.Private.{ended, Puts, PutsTree}
use Rattle.rules_text.proofs.Decimal.{decimal_short, decimal_long}

pub sets_joined : (old : List ℕ) (at : ℕ) (s t : List ℕ) → sets (sets old at s) (at + length s) t ≡ sets old at (s ++ t)
sets_joined old at [] t = ap (λ (i : ℕ). sets old i t) (omega arith)
sets_joined old at (b ∷ s) t =
    let e : at + suc (length s) ≡ suc at + length s = omega arith in
    ap (λ (i : ℕ). sets (sets (set old at b) (suc at) s) i t) e ∙ sets_joined (set old at b) (suc at) s t

-- where a text ends
ended_in : (at : ℕ) (s : List ℕ) → at + length s ≤ 512 → ended at s ≡ at + length s
ended_in at s h = taken _ _ (le-leb (at + length s) 512 h)

ended_out : (at : ℕ) (s : List ℕ) → 512 < at + length s → ended at s ≡ 513
ended_out at s h = left _ _ (lt-leb (at + length s) 512 h)

-- one text after the other
pub joined : {s t : List ℕ} {at q r : ℕ} {x y z : List ℕ} → Puts s at x y q → Puts t q y z r → Puts (s ++ t) at x z r
joined {s} {t} {at} {q} {r} {x} {y} {z} v w = record {
  end = by_test (r ≡ ended at (s ++ t)) (leb (at + length s) 512)
      (λ e.
      let d : q ≡ at + length s = v.end ∙ ended_in at s (leb-true _ 512 e) in
      let k : q + length t ≡ at + length (s ++ t) = omega (arith, length-append s t) in
      w.end ∙ ap (λ (i : ℕ). elim (leb i 512) [ true ↦ i | false ↦ 513 ]) k)
      (λ e.
      let h : 512 < at + length s = leb-false _ 512 e in
      let d : q ≡ 513 = v.end ∙ ended_out at s h in
      w.end ∙ (ended_out q t (omega arith) ∙ sym (ended_out at (s ++ t) (omega (arith, length-append s t)))));
  text = λ h.
      let l : at + length s ≤ 512 = omega (arith, length-append s t) in
      let d : q ≡ at + length s = v.end ∙ ended_in at s l in
      w.text (omega (arith, length-append s t)) ∙ (ap (λ (i : ℕ). sets y i t) d ∙ (ap (λ (o : List ℕ). sets o (at + length s) t) (v.text l) ∙ sets_joined x at s t));
}

-- another text that is this one
pub reworded : {s t : List ℕ} {at r : ℕ} {x y : List ℕ} → t ≡ s → Puts s at x y r → Puts t at x y r
reworded e w = rw e w

-- a text ends at 513 at the latest
pub room : {s : List ℕ} {at r : ℕ} {x y : List ℕ} → Puts s at x y r → r ≤ 513
room {s} {at} {r} w =
    by_test (r ≤ 513) (leb (at + length s) 512)
    (λ e. let d = w.end ∙ taken _ _ e in let l = leb-true (at + length s) 512 e in omega arith)
    (λ e. let d = w.end ∙ left _ _ e in omega arith)

pub nothing : (at : ℕ) (x : List ℕ) → at ≤ 513 → Puts [] at x x at
nothing at x h =
    record {
      end = by_test (at ≡ ended at []) (leb (at + 0) 512)
          (λ e. sym (taken _ _ e ∙ omega arith))
          (λ e. let l = leb-false (at + 0) 512 e in sym (left _ _ e ∙ omega arith));
      text = λ h. refl;
    }

-- the bytes of a text one after the other
module _ (s : List ℕ) (at : ℕ) {x : List ℕ} where
  pub none_put : at ≤ 513 → Puts (take 0 s) at x x at
  none_put h = nothing at x h

  pub one_put : (i : ℕ) {q r : ℕ} {y z : List ℕ} → i < length s → Puts (take i s) at x y q → Puts (get_or s i 0 ∷ []) q y z r → Puts (take (i + 1) s) at x z r
  one_put i h w v = reworded (take_more s i 0 h) (joined w v)

  pub all_put : (i : ℕ) {r : ℕ} {z : List ℕ} → length s ≤ i → Puts (take i s) at x z r → Puts s at x z r
  all_put i h w = reworded (sym (take_all i s h)) w

-- a number, its last digit last
module _ (v at : ℕ) (l : v < 2 ^ 64) {b r : ℕ} {x z : List ℕ} where
  pub number_short : v < 10 → b ≡ 48 + v → Puts (b ∷ []) at x z r → PutsTree (int v) at x z r
  unfolding bracketed
  number_short h e w = record { text = reworded (decimal_short v h) (rw e at w); bounded = l }

  pub number_long : {q : ℕ} {y : List ℕ} → 10 ≤ v → PutsTree (int (v / 10)) at x y q → b ≡ 48 + v % 10 → Puts (b ∷ []) q y z r → PutsTree (int v) at x z r
  unfolding bracketed
  number_long h d e w = record { text = reworded (decimal_long v h) (joined d.text (rw e at w)); bounded = l }
