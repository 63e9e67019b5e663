-- The answer and what is left in the buffer, from what the walk put and where it ended.
use Prim.Native.Nat.{ℕ, ◌+◌, ◌<◌, ◌≤◌, min}
use mathlib.Core.Path.{◌≡◌, refl, sym, ap, ◌∙◌}
use mathlib.Core.Bool.{Bool, true, false, ◌&&◌}
use mathlib.Core.List.{List, ◌++◌}
use native.Mathlib.Omega.{arith}
use native.Mathlib.Nat.{zero-add}
use lib.ListN.{length, take, drop}
use lib.Seq.{sets-eq, take_at}
use lib.Dec.{leb}
use borrow.Author.Tests.{le-leb, lt-leb, leb-true, leb-false}
use Rattle.text.proofs.Tests.{taken, left, by_test, and_none}
use Rattle.rules.specs.Pool.{Pool, tree_of, is_tree}
use Rattle.std.specs.Prelude.{Result, Ok, Err}
use Rattle.rules_text.specs.declared.Unwritten.{Unwritten}
use Rattle.rules_text.specs.declared.Unwritten.TheVariants.{TooLong, NoTree}
use Rattle.rules_text.specs.Bracketed.{bracketed}
use Rattle.rules_text.specs.Writing.{fitted, writing_of, left_by}
use Rattle.rules_text.specs.Private.{Puts}

-- a text put from place 0 on, which ended at n
module _ {s old new : List ℕ} {n : ℕ} (w : Puts s 0 old new n) where
  whole_text : n ≤ 512 → n ≡ length s
  whole_text h =
      by_test (n ≡ length s) (leb (0 + length s) 512)
      (λ e. w.end ∙ (taken _ _ e ∙ zero-add (length s)))
      (λ e. let z : n ≡ 513 = w.end ∙ left _ _ e in absurd (omega arith))

  cut_text : 512 < n → 512 < length s
  cut_text h =
      by_test (512 < length s) (leb (0 + length s) 512)
      (λ e. let z : n ≡ 0 + length s = w.end ∙ taken _ _ e in let l = leb-true (0 + length s) 512 e in absurd (omega arith))
      (λ e. let l = leb-false (0 + length s) 512 e in omega arith)

  pub text_is : length old ≡ 512 → n ≤ 512 → take n new ≡ s
  text_is k h =
      let e : n ≡ length s = whole_text h in
      let d : new ≡ s ++ drop (0 + length s) old = w.text (omega arith) ∙ sets-eq s old 0 (omega arith) in
      ap (λ (l : List ℕ). take n l) d ∙ take_at s (drop (0 + length s) old) n (sym e)

  too_long : (room : ℕ) → 512 < n → Err TooLong ≡ fitted s room
  too_long room h =
      let d : (leb (length s) 512 && leb (length s) room) ≡ false = rw (lt-leb (length s) 512 (cut_text h)) in
      sym (left _ _ d)

  -- with room in the buffer, and at most 512 bytes of it
  pub no_room : (room : ℕ) {m : ℕ} → m ≡ min 512 room → m < n → Err TooLong ≡ fitted s room
  no_room room e l =
      by_test _ (leb n 512)
      (λ t.
      let h : n ≤ 512 = leb-true n 512 t in
      let d : (leb (length s) 512 && leb (length s) room) ≡ false = rw (lt-leb (length s) room (omega (arith, whole_text h))) (and_none (leb (length s) 512)) in
      sym (left _ _ d))
      (λ t. too_long room (leb-false n 512 t))

  pub fits : (room : ℕ) {m : ℕ} → m ≡ min 512 room → n ≤ m → Ok n ≡ fitted s room
  fits room z l =
      let h : n ≤ 512 = omega arith in
      let e : n ≡ length s = whole_text h in
      let d : (leb (length s) 512 && leb (length s) room) ≡ true = rw (le-leb (length s) 512 (omega arith), le-leb (length s) room (omega arith)) in
      ap Ok e ∙ sym (taken _ _ d)

-- the answer, by the tree test
module _ (P : Pool) (count root room : ℕ) where
  pub no_tree : is_tree P count root ≡ false → Err NoTree ≡ writing_of P count root room
  unfolding writing_of
  no_tree e = sym (left _ _ e)

  pub a_tree : {r : Result ℕ Unwritten} → is_tree P count root ≡ true → r ≡ fitted (bracketed (tree_of P root)) room → r ≡ writing_of P count root room
  unfolding writing_of
  a_tree e d = d ∙ sym (taken _ _ e)

-- what an answer with a length says
pub record Written (P : Pool) (count root room n : ℕ) : Type 0 where
  pub tree : is_tree P count root ≡ true
  pub length_is : n ≡ length (bracketed (tree_of P root))
  pub few : n ≤ 512
  pub inside : n ≤ room

-- only a text that fits has one
fitted_length : (s : List ℕ) (room n : ℕ) → fitted s room ≡ Ok n → (n ≡ length s) × (n ≤ 512) × (n ≤ room)
fitted_length s room n = go (leb (length s) 512) (leb (length s) room) refl refl
  where
    go :
        (a b : Bool) → leb (length s) 512 ≡ a → leb (length s) room ≡ b →
        ◌≡◌ {A = Result ℕ Unwritten} (elim (a && b) [ true ↦ Ok (length s) | false ↦ Err TooLong ]) (Ok n) → (n ≡ length s) × (n ≤ 512) × (n ≤ room)
    go true true f g e =
        let d : n ≡ length s = cc in
        let h = leb-true (length s) 512 f in
        let l = leb-true (length s) room g in
        (d, omega arith, omega arith)
    go true false f g e = let z : ◌≡◌ {A = ℕ} 0 1 = cc in absurd (omega arith)
    go false b f g e = let z : ◌≡◌ {A = ℕ} 0 1 = cc in absurd (omega arith)

module _ (P : Pool) (count root room n : ℕ) where
  pub written : writing_of P count root room ≡ Ok n → Written P count root room n
  unfolding writing_of
  written e =
      by_test (Written P count root room n) (is_tree P count root)
      (λ t.
      let f = fitted_length (bracketed (tree_of P root)) room n (sym (taken _ _ t) ∙ e) in
      record { tree = t; length_is = f.0; few = f.1; inside = f.2 })
      (λ t. let d : Err NoTree ≡ Ok n = sym (left _ _ t) ∙ e in let z : ◌≡◌ {A = ℕ} 0 1 = cc in absurd (omega arith))

  -- the first bytes of the buffer then are the text
  pub front : (old : List ℕ) → writing_of P count root room ≡ Ok n → take n (left_by (Ok n) (bracketed (tree_of P root)) old) ≡ bracketed (tree_of P root)
  front old e = take_at (bracketed (tree_of P root)) (drop n old) n (sym (written e).length_is)
