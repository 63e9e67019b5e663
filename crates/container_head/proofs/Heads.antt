-- Magic, count and tables as the code meets them. Assumes nothing.
use Prim.Native.Nat.{ℕ, ◌<◌, ◌≤◌}
use mathlib.Core.Path.{◌≡◌, sym, ap, ◌∙◌}
use mathlib.Core.Bool.{Bool, true, false, ◌&&◌}
use mathlib.Core.List.{List}
use lib.ListN.{length}
use lib.Dec.{leb, eqb}
use borrow.Author.Tests.{le-leb, lt-leb, lt-ltb, le-ltb, eq-eqb, ne_eqb}
use Rattle.text.proofs.Tests.{taken, left, and_none}
use Rattle.container_layout.specs.Mo.{word}
use Rattle.container_head.specs.Head.{magic, order_of, tables_of, head_of}
use Rattle.refusal.specs.declared.Error.TheVariants.{Eof, BadMagic}
use Rattle.std.specs.Prelude.{Option, Some, None, Result, Ok, Err}
use Rattle.refusal.specs.declared.Error.{Error}
use Rattle.container_layout.specs.declared.Tables.{Tables}

module _ (s : List ℕ) {x : ℕ} (e : x ≡ word false s 0) where
  pub is_little : x ≡ magic → Some false ≡ order_of s
  unfolding order_of
  is_little f = sym (taken _ _ (eq-eqb (word false s 0) magic (sym e ∙ f)))

  module _ (n : x ≡ magic → ⊥) {y : ℕ} (g : y ≡ word true s 0) where
    other : eqb (word false s 0) magic ≡ false
    other = rw (← e) (ne_eqb x magic n)

    pub is_big : y ≡ magic → Some true ≡ order_of s
    unfolding order_of
    is_big f = sym (left _ _ other ∙ taken _ _ (eq-eqb (word true s 0) magic (sym g ∙ f)))

    pub is_unknown : (y ≡ magic → ⊥) → None ≡ order_of s
    unfolding order_of
    is_unknown f = let z : eqb (word true s 0) magic ≡ false = rw (← g) (ne_eqb y magic f) in sym (left _ _ other ∙ left _ _ z)

module _ (s : List ℕ) where
  module _ (b : Bool) {x : ℕ} (e : x ≡ word b s 12) where
    pub originals_out : length s < x → Err Eof ≡ tables_of s (Some b)
    originals_out h = sym (left {b = leb (word b s 12) (length s) && leb (word b s 16) (length s)} _ _ (rw (← e, lt-leb x (length s) h)))

    pub translations_out : {y : ℕ} → y ≡ word b s 16 → length s < y → Err Eof ≡ tables_of s (Some b)
    translations_out {y} f h = sym (left {b = leb (word b s 12) (length s) && leb (word b s 16) (length s)} _ _ (rw (← f, lt-leb y (length s) h) (and_none (leb (word b s 12) (length s)))))

    pub tables_in_lem : {k y : ℕ} → k ≡ word b s 8 → y ≡ word b s 16 → x ≤ length s → y ≤ length s
        → Ok (record { length = length s; big = b; count = k; originals = x; translations = y }) ≡ tables_of s (Some b)
    tables_in_lem {k} {y} g f h i =
        let z : (leb (word b s 12) (length s) && leb (word b s 16) (length s)) ≡ true = rw (← e, ← f, le-leb x (length s) h, le-leb y (length s) i) in
        rw (g, e, f) (sym (taken _ _ z))

  pub too_short : length s < 28 → Err Eof ≡ head_of s
  unfolding head_of
  too_short h = sym (taken _ _ (lt-ltb (length s) 28 h))

  pub no_magic : {r : Option Bool} → 28 ≤ length s → r ≡ order_of s → r ≡ None → Err BadMagic ≡ head_of s
  unfolding head_of
  no_magic h e f = sym (left _ _ (le-ltb (length s) 28 h) ∙ ap (tables_of s) (sym e ∙ f))

  pub head_told : {r : Option Bool} {b : Bool} {q : Result Tables Error} → 28 ≤ length s → r ≡ order_of s → r ≡ Some b → q ≡ tables_of s (Some b) → q ≡ head_of s
  unfolding head_of
  head_told h e f g = g ∙ sym (left _ _ (le-ltb (length s) 28 h) ∙ ap (tables_of s) (sym e ∙ f))
