-- A head as it was read: its fields are words of the file. Assumes nothing.
use Prim.Native.Nat.{ℕ, ◌≤◌}
use mathlib.Core.Path.{◌≡◌, refl, sym, ap, ◌∙◌}
use mathlib.Core.Bool.{Bool, true, ◌&&◌}
use mathlib.Core.List.{List}
use native.Mathlib.Omega.{arith}
use lib.ListN.{length}
use lib.Dec.{leb, ltb}
use borrow.Author.Tests.{leb-true, ltb-false, le-leb, le-ltb}
use Rattle.container_layout.specs.declared.Tables.{Tables}
use Rattle.text.proofs.Tests.{taken, left, by_test, and_left, and_right}
use Rattle.container_layout.specs.Mo.{word}
use Rattle.refusal.specs.declared.Error.TheVariants.{Eof}
use Rattle.container_head.specs.Head.{order_of, tables, tables_of, head_of}
use Rattle.std.specs.Prelude.{Option, Some, None, Result, Ok, Err}
use Rattle.refusal.specs.declared.Error.{Error}

-- the tables of a head are words of the file, in the order in which it begins with the magic
pub record Words (s : List ℕ) (t : Tables) : Type 0 where
  pub order : order_of s ≡ Some t.big
  pub is : t ≡ tables s t.big
  pub long : 28 ≤ length s
  pub inside : (t.originals ≤ length s) × (t.translations ≤ length s)

words_of : (s : List ℕ) (q : Option Bool) → order_of s ≡ q → 28 ≤ length s → {t : Tables} → tables_of s q ≡ Ok t → Words s t
words_of s (Some c) e h {t} f =
    by_test (Words s t) (leb (word c s 12) (length s) && leb (word c s 16) (length s))
    (λ u.
    let g : ◌≡◌ {A = Result Tables Error} (Ok (tables s c)) (Ok t) = sym (taken _ _ u) ∙ f in
    let q : tables s c ≡ t = cc in
    let i = leb-true (word c s 12) (length s) (and_left (leb (word c s 12) (length s)) (leb (word c s 16) (length s)) u) in
    let j = leb-true (word c s 16) (length s) (and_right (leb (word c s 12) (length s)) (leb (word c s 16) (length s)) u) in
    rw (← q) (record { order = e; is = refl; long = h; inside = (i, j) }))
    (λ u. let g : ◌≡◌ {A = Result Tables Error} (Err Eof) (Ok t) = sym (left _ _ u) ∙ f in absurd (let z : ◌≡◌ {A = ℕ} 0 1 = cc in omega arith))
words_of s None e h f = absurd (let z : ◌≡◌ {A = ℕ} 0 1 = cc in omega arith)

pub head_words : (s : List ℕ) {t : Tables} → head_of s ≡ Ok t → Words s t
unfolding head_of
head_words s {t} e =
    by_test (Words s t) (ltb (length s) 28)
    (λ u. let g : ◌≡◌ {A = Result Tables Error} (Err Eof) (Ok t) = sym (taken _ _ u) ∙ e in absurd (let z : ◌≡◌ {A = ℕ} 0 1 = cc in omega arith))
    (λ u. words_of s (order_of s) refl (ltb-false (length s) 28 u) (sym (left _ _ u) ∙ e))

-- and back
pub words_head : (s : List ℕ) {t : Tables} → Words s t → head_of s ≡ Ok t
unfolding head_of
words_head s {t} w =
    left _ _ (le-ltb (length s) 28 w.long) ∙ ap (tables_of s) w.order ∙ taken _ _ (both_in w.inside.0 w.inside.1) ∙ ap Ok (sym w.is)
  where
    originals_are : t.originals ≡ word t.big s 12
    originals_are = ap (λ (x : Tables). x.originals) w.is

    translations_are : t.translations ≡ word t.big s 16
    translations_are = ap (λ (x : Tables). x.translations) w.is

    both_in : t.originals ≤ length s → t.translations ≤ length s → (leb (word t.big s 12) (length s) && leb (word t.big s 16) (length s)) ≡ true
    both_in h i =
        let a : leb (word t.big s 12) (length s) ≡ true = rw (← originals_are) (le-leb t.originals (length s) h) in
        let b : leb (word t.big s 16) (length s) ≡ true = rw (← translations_are) (le-leb t.translations (length s) i) in
        rw (a, b)
