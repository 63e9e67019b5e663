-- A key that is context, byte 4 and id, compared where it lies. Assumes nothing.
use Prim.Native.Nat.{ℕ, ◌+◌, ◌<◌, ◌≤◌}
use mathlib.Core.Path.{◌≡◌, refl, sym, ap, ◌∙◌}
use mathlib.Core.Bool.{Bool, true, false, ◌&&◌}
use mathlib.Core.List.{List, [], ◌∷◌, ◌++◌}
use native.Mathlib.Omega.{arith}
use native.Mathlib.Numerals.{add-one}
use lib.ListN.{length, get_or, take, drop, length-append}
use lib.Dec.{eqb}
use borrow.Author.Tests.{ne_eqb}
use Rattle.text.specs.Bytes.{same}
use Rattle.text.proofs.Tests.{never, and_none, and_assoc}
use Rattle.text.proofs.Same.{other_length}
use Rattle.lookup_scan.specs.Keys.{key_of, bytes_in, bytes_of}
use Rattle.lookup_scan.specs.Promise.{Sized}
use Rattle.lookup_scan.specs.Private.{InContext}
use Rattle.lookup_scan.specs.declared.Key.{Key}
use Rattle.std.specs.Prelude.{Option, Some, None}
use Rattle.std.specs.Borrow.{Bor}

same_split : (c i key : List ℕ) → length c < length key
    → same (c ++ 4 ∷ i) key ≡ (same c (take (length c) key) && (eqb 4 (get_or key (length c) 0) && same i (drop (length c + 1) key)))
unfolding same
same_split [] i [] h = absurd (omega arith)
same_split [] i (b ∷ key) h = refl
same_split (x ∷ c) i [] h = absurd (omega arith)
same_split (x ∷ c) i (b ∷ key) h =
    ap (λ (t : Bool). eqb x b && t) (same_split c i key (omega arith))
    ∙ sym (and_assoc (eqb x b) (same c (take (length c) key)) (eqb 4 (get_or key (length c) 0) && same i (drop (length c + 1) key)))
    ∙ rw (add-one, add-one)

-- whether a key begins with a context and byte 4
module _ (c key : List ℕ) where
  out_of : ((i : List ℕ) → same (key_of true c i) key ≡ false) → InContext c key false
  out_of h = record { inside = λ e. absurd (never e); is = λ e. absurd (never e); no = λ e. h }

  pub too_short : length key ≤ length c → InContext c key false
  too_short h = out_of (λ i. other_length (key_of true c i) key (λ e. omega (arith, length-append c (4 ∷ i))))

  module _ (h : length c < length key) where
    pub not_four : (get_or key (length c) 0 ≡ 4 → ⊥) → InContext c key false
    not_four e =
        let f : eqb 4 (get_or key (length c) 0) ≡ false = ne_eqb 4 (get_or key (length c) 0) (λ q. e (sym q)) in
        out_of (λ i. same_split c i key h ∙ rw f (and_none (same c (take (length c) key))))

    pub by_context : {r : Bool} → get_or key (length c) 0 ≡ 4 → r ≡ same c (take (length c) key) → InContext c key r
    by_context f e = record { inside = λ g. h; is = λ g i. same_split c i key h ∙ rw (← e, g, f); no = λ g i. same_split c i key h ∙ rw (← e, g) }

-- a key with a context, and one without
pub with_context : (k : Key) {c : Bor (List ℕ)} → k.context ≡ Some c → bytes_of k ≡ key_of true c.now k.id.now
with_context k e = ap (λ (o : Option (Bor (List ℕ))). bytes_in o k.id.now) e

pub without_context : (k : Key) → k.context ≡ None → bytes_of k ≡ k.id.now
without_context k e = ap (λ (o : Option (Bor (List ℕ))). bytes_in o k.id.now) e

-- the length of a key, in a file of that size
pub sized_is : {size : ℕ} {r : Option ℕ} {n : ℕ} (key : List ℕ) → Sized size key r → r ≡ Some n → n ≡ length key
sized_is {size} key q e = let z = rw e at q.sizes in z.0

pub sized_long : {size : ℕ} {r : Option ℕ} (key : List ℕ) → Sized size key r → r ≡ None → size ≤ length key
sized_long key q e = rw e at q.sizes
