-- The machine: what is to come, byte by byte, and the rules of its tables, which are computed. Assumes nothing.
use Prim.Native.Nat.{ℕ, ◌+◌, ◌*◌, ◌%◌, ◌<◌, ◌≤◌}
use mathlib.Core.Path.{◌≡◌, refl, sym, ap, ◌∙◌}
use mathlib.Core.Bool.{Bool, true, false, ◌&&◌}
use mathlib.Core.List.{List, [], ◌∷◌}
use mathlib.Core.Option.{Option, none, some}
use native.Mathlib.Omega.{arith}
use lib.ListN.{length, get_or, drop}
use lib.Dec.{eqb, ltb}
use borrow.Author.Tests.{eqb-true, ltb-true}
use Rattle.text.specs.Bytes.{within}
use Rattle.text.proofs.Tests.{never, and_left, and_right}
use Rattle.text.proofs.Walk.{rest_at, rest_end}
use Rattle.text_utf8.specs.Utf8.{Bytes, table, after, rest, utf8}
use Rattle.text_utf8.specs.Private.{next, class_of, states, state_in, Tables}
use Rattle.text_utf8.proofs.Tested.{below, below_at, same_state, state_same}

-- the text, by what is to come
abbrev pub reads : Option (List Bytes) → List ℕ → Bool
reads none s = false
reads (some rs) s = rest rs s

reads_is : (o : Option (List Bytes)) (s : List ℕ) → elim o [ none ↦ false | some rs ↦ rest rs s ] ≡ reads o s
reads_is none s = refl
reads_is (some rs) s = refl

within_step : (t : Bool) (rs : List Bytes) (s : List ℕ) → (t && rest rs s) ≡ reads (elim t [ true ↦ some rs | false ↦ none ]) s
within_step true rs s = refl
within_step false rs s = refl

pub one_more : (o : Option (List Bytes)) (b : ℕ) (s : List ℕ) → reads o (b ∷ s) ≡ reads (next o b) s
unfolding rest
one_more none b s = refl
one_more (some []) b s = reads_is (after table b) s
one_more (some (r ∷ rs)) b s = within_step (within r b) rs s

-- the table of classes: its rule at every byte
abbrev class_test : List ℕ → ℕ → Bool
class_test classes b = eqb (get_or classes b 0 % 16) (class_of b)

-- the table of steps: its rule at every state and byte
abbrev turned : List ℕ → ℕ → ℕ → ℕ
turned steps q b = get_or steps (q * 16 + class_of b) 0 % 16

abbrev right : List ℕ → ℕ → ℕ → Bool
right steps q b = same_state (state_in states (turned steps q b)) (next (state_in states q) b)

abbrev step_test : List ℕ → ℕ → ℕ → Bool
step_test steps b q = ltb (turned steps q b) 9 && right steps q b

pub tables_by_test : (classes steps : List ℕ) → below 256 (class_test classes) ≡ true → below 256 (λ b. below 9 (step_test steps b)) ≡ true → Tables classes steps
tables_by_test classes steps e f = record {
  class = λ b h. eqb-true _ _ (below_at 256 (class_test classes) e b h);
  few = λ q b h k. ltb-true (turned steps q b) 9 (and_left (ltb (turned steps q b) 9) (right steps q b) (at q b h k));
  step = λ q b h k. state_same _ _ (and_right (ltb (turned steps q b) 9) (right steps q b) (at q b h k));
}
  where
    at : (q b : ℕ) → q < 9 → b < 256 → step_test steps b q ≡ true
    at q b h k = below_at 9 (step_test steps b) (below_at 256 (λ b. below 9 (step_test steps b)) f b k) q h

-- the machine has read the text up to i
pub record Reaches (s : List ℕ) (i q : ℕ) : Type 0 where
  pub few : q < 9
  pub is : utf8 s ≡ reads (state_in states q) (drop i s)

pub begins : {s : List ℕ} → Reaches s 0 0
unfolding utf8
begins = record { few = omega arith; is = refl }

pub goes_on : {classes steps s : List ℕ} {i q b class w : ℕ} → Tables classes steps → Reaches s i q → i < length s → get_or s i 0 < 256
    → b ≡ get_or s i 0 → class ≡ get_or classes b 0 % 16 → w ≡ get_or steps (q * 16 + class) 0 % 16 → Reaches s (i + 1) w
goes_on {classes} {steps} {s} {i} {q} {b} {class} {w} t a h k e f g =
    rw (g, f, e, t.class (get_or s i 0) k)
    record {
      few = t.few q (get_or s i 0) a.few k;
      is = a.is ∙ ap (reads (state_in states q)) (rest_at s i h) ∙ one_more (state_in states q) (get_or s i 0) (drop (i + 1) s) ∙ ap (λ (o : Option (List Bytes)). reads o (drop (i + 1) s)) (sym (t.step q (get_or s i 0) a.few k));
    }

-- at the end the text is right exactly if the machine is between characters
abbrev agree : Bool → Bool → Bool
agree true b = b
agree false true = false
agree false false = true

agree_same : (x y : Bool) → agree x y ≡ true → x ≡ y
agree_same true y e = sym e
agree_same false true e = absurd (never e)
agree_same false false e = refl

abbrev end_test : ℕ → Bool
end_test q = agree (eqb q 0) (reads (state_in states q) [])

all_ends : below 9 end_test ≡ true
unfolding rest
all_ends = refl

pub ends : {s : List ℕ} {i q : ℕ} → Reaches s i q → length s ≤ i → eqb q 0 ≡ utf8 s
ends {s} {i} {q} a h = agree_same _ _ (below_at 9 end_test all_ends q a.few) ∙ sym (a.is ∙ ap (reads (state_in states q)) (rest_end s i h))
