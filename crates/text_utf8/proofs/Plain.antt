-- A text without characters of four bytes whose bytes are each right after the two before is right. Assumes nothing.
use Prim.Native.Nat.{ℕ, suc, ◌+◌, ◌-◌, ◌<◌, ◌≤◌}
use mathlib.Core.Path.{◌≡◌, refl, sym, ap, ◌∙◌}
use mathlib.Core.Bool.{Bool, true, false, ◌&&◌, ◌||◌, not}
use mathlib.Core.List.{List, [], ◌∷◌}
use mathlib.Core.Option.{Option, none, some}
use native.Mathlib.Omega.{arith}
use native.Mathlib.Nat.{suc-add}
use lib.ListN.{length, get_or}
use lib.Dec.{leb, eqb, ltb}
use borrow.Author.Tests.{leb-true, ltb-true, ltb-false, lt-ltb, le-ltb, le-leb, ne_eqb}
use Rattle.text.specs.Bytes.{within}
use Rattle.text.proofs.Tests.{never, taken, left, by_test, and_none, and_right}
use Rattle.text.proofs.Bounds.{inside}
use Rattle.text_utf8.specs.Utf8.{Bytes, tail, table, after, rest, utf8}
use Rattle.text_utf8.specs.Private.{follows, more, come, Goes, Plain}
use Rattle.text_utf8.proofs.Tested.{below, below_at, same_state, state_same}
use Rattle.text_utf8.proofs.Machine.{reads, one_more}

-- a first byte of one, two or three: what has to follow it is what is to come after it; computed at every byte
abbrev first_test : ℕ → Bool
first_test d = not (ltb d 0x80 || (leb 0xC2 d && ltb d 0xF0)) || same_state (after table d) (some (come 0 d))

all_firsts : below 256 first_test ≡ true
unfolding come
all_firsts = refl

implied : (x y : Bool) → (not x || y) ≡ true → x ≡ true → y ≡ true
implied true y e t = e
implied false y e t = absurd (never t)

pub first_right : (d : ℕ) → d < 256 → (ltb d 0x80 || (leb 0xC2 d && ltb d 0xF0)) ≡ true → after table d ≡ some (come 0 d)
first_right d h t = state_same _ _ (implied (ltb d 0x80 || (leb 0xC2 d && ltb d 0xF0)) (same_state (after table d) (some (come 0 d))) (below_at 256 first_test all_firsts d h) t)

pub one_byte : (d : ℕ) → d < 0x80 → after table d ≡ some (come 0 d)
one_byte d h = first_right d (omega arith) (rw (lt-ltb d 0x80 h))

pub more_bytes : (d : ℕ) → 0xC2 ≤ d → d < 0xF0 → after table d ≡ some (come 0 d)
more_bytes d l h = first_right d (omega arith) (rw (le-ltb d 0x80 (omega arith), le-leb 0xC2 d l, lt-ltb d 0xF0 h))

both : {x y : Bool} → x ≡ true → y ≡ true → (x && y) ≡ true
both e f = rw (e, f)

come_none : (b c : ℕ) → c < 0xC0 → b < 0xE0 → come b c ≡ []
unfolding come
come_none b c h l = taken [] (follows c ∷ more c) (both (lt-ltb c 0xC0 h) (lt-ltb b 0xE0 l))

come_low : (c d : ℕ) → c < 0xE0 → come 0 d ≡ come c d
unfolding come
come_low c d h = ap (λ (t : Bool). elim (ltb d 0xC0 && t) [ true ↦ [] | false ↦ follows d ∷ more d ]) (sym (lt-ltb c 0xE0 h))

come_some : (b c : ℕ) → (ltb c 0xC0 && ltb b 0xE0) ≡ false → come b c ≡ follows c ∷ more c
unfolding come
come_some b c e = left [] (follows c ∷ more c) e

-- a byte that begins a character
pub goes_first : (b c d : ℕ) → c < 0xC0 → b < 0xE0 → after table d ≡ some (come 0 d) → Goes b c d
goes_first b c d h l e = rw (come_none b c h l) (e ∙ ap some (come_low c d (omega arith)))

-- a byte that may follow is a tail, after which a tail follows
follows_most : (c d : ℕ) → within (follows c) d ≡ true → d < 0xC0
follows_most c d e =
    let h : d ≤ (follows c).1 = leb-true d (follows c).1 (and_right (leb (follows c).0 d) (leb d (follows c).1) e) in
    by_test (d < 0xC0) (eqb c 0xED)
    (λ t. let z : (follows c).1 ≡ 0x9F = taken 0x9F 0xBF t in omega arith)
    (λ t. let z : (follows c).1 ≡ 0xBF = left 0x9F 0xBF t in omega arith)

follows_tail : (d : ℕ) → d < 0xC0 → follows d ≡ tail
follows_tail d h = rw (ne_eqb d 0xE0 (λ e. omega arith), ne_eqb d 0xED (λ e. omega arith))

come_tail : (c d : ℕ) → d < 0xC0 → more c ≡ come c d
unfolding come
come_tail c d h =
    by_test (more c ≡ come c d) (ltb c 0xE0)
    (λ t. taken [] (tail ∷ []) t ∙ sym (taken [] (follows d ∷ more d) (both (lt-ltb d 0xC0 h) t)))
    (λ t.
    left [] (tail ∷ []) t
    ∙ sym (ap (λ (r : Bytes). r ∷ more d) (follows_tail d h) ∙ ap (λ (rs : List Bytes). tail ∷ rs) (taken [] (tail ∷ []) (lt-ltb d 0xE0 (omega arith))))
    ∙ sym (left [] (follows d ∷ more d) (ap (λ (x : Bool). ltb d 0xC0 && x) t ∙ and_none (ltb d 0xC0))))

pub goes_next : (b c d : ℕ) → (ltb c 0xC0 && ltb b 0xE0) ≡ false → within (follows c) d ≡ true → Goes b c d
goes_next b c d f e = rw (come_some b c f) (taken (some (more c)) none e ∙ ap some (come_tail c d (follows_most c d e)))

pub follows_in : (c d : ℕ) {lo hi : ℕ} → lo ≡ (follows c).0 → lo ≤ d → hi ≡ (follows c).1 → d ≤ hi → within (follows c) d ≡ true
follows_in c d e h f l = inside (follows c).0 (follows c).1 d (omega arith) (omega arith)

pub begun_second : (b c : ℕ) → 0xC0 ≤ c → (ltb c 0xC0 && ltb b 0xE0) ≡ false
begun_second b c h = ap (λ (x : Bool). x && ltb b 0xE0) (le-ltb c 0xC0 h)

pub begun_third : (b c : ℕ) → 0xE0 ≤ b → (ltb c 0xC0 && ltb b 0xE0) ≡ false
begun_third b c h = ap (λ (x : Bool). ltb c 0xC0 && x) (le-ltb b 0xE0 h) ∙ and_none (ltb c 0xC0)

-- places one after the other
pub plain_none : {s : List ℕ} {i : ℕ} → Plain s i i
plain_none = record { goes = λ p h l. absurd (omega arith) }

pub plain_to : {s : List ℕ} {i k m : ℕ} → Plain s i k → k ≡ m → Plain s i m
plain_to {s} {i} a e = rw (sym e) a

pub plain_join : {s : List ℕ} {i j m k : ℕ} → Plain s i j → Plain s m k → m ≤ j → Plain s i k
plain_join {s} {i} {j} {m} {k} a b h = record {
  goes = λ p l n.
      by_test (Goes (get_or s p 0) (get_or s (p + 1) 0) (get_or s (p + 2) 0)) (ltb p j)
      (λ t. a.goes p l (ltb-true p j t))
      (λ t. b.goes p (omega (arith, ltb-false p j t)) n);
}

pub plain_more : {s : List ℕ} {i : ℕ} (k : ℕ) → Plain s i (i + k) → Goes (get_or s (i + k) 0) (get_or s (i + k + 1) 0) (get_or s (i + k + 2) 0)
    → Plain s i (i + (k + 1))
plain_more {s} {i} k a g = plain_join {m = i + k} a (record { goes = λ p l n. let z : p ≡ i + k = omega arith in rw z g }) (omega arith)

-- a text by what is to come after the two bytes before it
by_places : (s : List ℕ) (b c : ℕ) → Plain (b ∷ c ∷ s) 0 (length s) → come (get_or (b ∷ c ∷ s) (length s) 0) (get_or (b ∷ c ∷ s) (length s + 1) 0) ≡ []
    → rest (come b c) s ≡ true
unfolding rest
by_places [] b c a e = ap (λ (rs : List Bytes). rest rs []) e
by_places (d ∷ s) b c a e =
    one_more (some (come b c)) d s
    ∙ ap (λ (o : Option (List Bytes)). reads o s) (a.goes 0 (omega arith) (omega arith))
    ∙ by_places s c d (record { goes = λ p h l. rw (suc-add p 1, suc-add p 2) at (a.goes (suc p) (omega arith) (omega arith)) }) (rw suc-add at e)

-- the whole text: its first two bytes, the others after the two before, and nothing to come after the last two
pub plain_right : (s : List ℕ) → 2 ≤ length s → Goes 0 0 (get_or s 0 0) → Goes 0 (get_or s 0 0) (get_or s 1 0) → Plain s 0 (length s - 2)
    → get_or s (length s - 2) 0 < 0xE0 → get_or s (length s - 1) 0 < 0xC0 → utf8 s ≡ true
unfolding utf8
plain_right [] h e f a l m = absurd (omega arith)
plain_right (x ∷ []) h e f a l m = absurd (omega arith)
plain_right (x ∷ y ∷ s) h e f a l m =
    let n : length (x ∷ y ∷ s) - 2 ≡ length s = omega arith in
    let k : length (x ∷ y ∷ s) - 1 ≡ length s + 1 = omega arith in
    ap (λ (rs : List Bytes). rest rs (x ∷ y ∷ s)) (sym (come_none 0 0 (omega arith) (omega arith)))
    ∙ one_more (some (come 0 0)) x (y ∷ s)
    ∙ ap (λ (o : Option (List Bytes)). reads o (y ∷ s)) e
    ∙ one_more (some (come 0 x)) y s
    ∙ ap (λ (o : Option (List Bytes)). reads o s) f
    ∙ by_places s x y (rw n at a) (come_none _ _ (rw k at m) (rw n at l))

-- what `not_first` and `odd` may use
pub ruleset first_cases = (one_byte, more_bytes)

pub ruleset odd_cases = (goes_first, goes_next, begun_second, begun_third)
