-- The character at the front of a text, told from its first bytes as the code does: by computing over all bytes where one byte decides.
-- Assumes nothing.
use Prim.Native.Nat.{ℕ, ◌<◌, ◌≤◌}
use mathlib.Core.Path.{◌≡◌, refl, sym, ap, ◌∙◌}
use mathlib.Core.Bool.{Bool, true, false, not, ◌&&◌}
use mathlib.Core.List.{List, [], ◌∷◌, ◌++◌}
use native.Mathlib.Omega.{arith}
use lib.Dec.{ltb, leb, eqb}
use lib.ListN.{length, get_or}
use borrow.Author.Tests.{eqb-true, eqb-false, eq-eqb, ne_eqb, lt-ltb, le-ltb, le-leb, lt-leb, ltb-true}
use Rattle.text.specs.Bytes.{begins}
use Rattle.text_utf8.specs.Scalar.{encode}
use Rattle.text_utf8.proofs.Tested.{below, below_at}
use Rattle.text.proofs.Tests.{never, taken, by_test}
use Rattle.text_trim.specs.Trim.{Chars, chars_of, white_space, In, here, there, lead}
use Rattle.text_trim.specs.Private.{three_if}
use Rattle.text_trim.specs.declared.Set.{Set}
use Rattle.text_trim.specs.declared.Set.TheVariants.{WhiteSpace, Six, Label}
use Rattle.text_trim.proofs.Encodings.{code, Shape, one, two, three, shape_of, each, each_at}
use Rattle.text_trim.proofs.Edges.{lead_none}

-- one byte by itself
module _ (set : Set) where
  abbrev alone : ℕ → ℕ
  alone b =
      elim (ltb b 9) [
        | true ↦ 0
        | false ↦ elim (eqb b 11) [
          | true ↦ lead (chars_of set) (11 ∷ [])
          | false ↦ elim (leb b 13) [ true ↦ 1 | false ↦ elim (eqb b 32) [ true ↦ 1 | false ↦ 0 ] ]
        ]
      ]

  abbrev alone_test : ℕ → Bool
  alone_test b = eqb (alone b) (lead (chars_of set) (b ∷ []))

all_alone : (set : Set) → below 256 (alone_test set) ≡ true
unfolding lead begins encode
all_alone WhiteSpace = refl
all_alone Six = refl
all_alone Label = refl

module _ (set : Set) (b : ℕ) (h : b < 256) where
  alone_is : alone set b ≡ lead (chars_of set) (b ∷ [])
  alone_is = eqb-true _ _ (below_at 256 (alone_test set) (all_alone set) b h)

  pub alone_low : b < 9 → 0 ≡ lead (chars_of set) (b ∷ [])
  alone_low l = sym (taken _ _ (lt-ltb b 9 l)) ∙ alone_is

  pub alone_blank : 9 ≤ b → (b ≡ 11 → ⊥) → b ≤ 13 → 1 ≡ lead (chars_of set) (b ∷ [])
  alone_blank l e k = (rw (alone, le-ltb b 9 l, ne_eqb b 11 e, le-leb b 13 k)) ∙ alone_is

  pub alone_space : b ≡ 32 → 1 ≡ lead (chars_of set) (b ∷ [])
  alone_space e = (rw e) ∙ alone_is

  pub alone_high : 13 < b → (b ≡ 32 → ⊥) → 0 ≡ lead (chars_of set) (b ∷ [])
  alone_high l e = (rw (alone, le-ltb b 9 (omega arith), ne_eqb b 11 (λ q. omega arith), lt-leb b 13 l, ne_eqb b 32 e)) ∙ alone_is

pub eleven_is : (set : Set) (b : ℕ) → b ≡ 11 → lead (chars_of set) (11 ∷ []) ≡ lead (chars_of set) (b ∷ [])
eleven_is set b e = rw e

-- after C2, one byte decides; after E2 80 too
abbrev of_c2 : ℕ → ℕ
of_c2 b = elim (eqb b 0x85) [ true ↦ 2 | false ↦ elim (eqb b 0xA0) [ true ↦ 2 | false ↦ 0 ] ]

all_c2 : below 256 (λ b. eqb (of_c2 b) (lead white_space (0xC2 ∷ b ∷ []))) ≡ true
unfolding lead begins encode
all_c2 = refl

abbrev of_e280 : ℕ → ℕ
of_e280 c =
    elim (ltb c 0x80) [
      | true ↦ 0
      | false ↦ elim (leb c 0x8A) [
        | true ↦ 3
        | false ↦ elim (eqb c 0xA8) [ true ↦ 3 | false ↦ elim (eqb c 0xA9) [ true ↦ 3 | false ↦ elim (eqb c 0xAF) [ true ↦ 3 | false ↦ 0 ] ] ]
      ]
    ]

all_e280 : below 256 (λ c. eqb (of_e280 c) (lead white_space (0xE2 ∷ 0x80 ∷ c ∷ []))) ≡ true
unfolding lead begins encode
all_e280 = refl

module _ (b : ℕ) (h : b < 256) where
  c2_is : of_c2 b ≡ lead white_space (0xC2 ∷ b ∷ [])
  c2_is = eqb-true _ _ (below_at 256 (λ b. eqb (of_c2 b) (lead white_space (0xC2 ∷ b ∷ []))) all_c2 b h)

  pub c2_85 : b ≡ 0x85 → 2 ≡ lead white_space (0xC2 ∷ b ∷ [])
  c2_85 e = (rw e) ∙ c2_is

  pub c2_a0 : b ≡ 0xA0 → 2 ≡ lead white_space (0xC2 ∷ b ∷ [])
  c2_a0 e = (rw e) ∙ c2_is

  pub c2_no : (b ≡ 0x85 → ⊥) → (b ≡ 0xA0 → ⊥) → 0 ≡ lead white_space (0xC2 ∷ b ∷ [])
  c2_no e f = (rw (of_c2, ne_eqb b 0x85 e, ne_eqb b 0xA0 f)) ∙ c2_is

  e280_is : of_e280 b ≡ lead white_space (0xE2 ∷ 0x80 ∷ b ∷ [])
  e280_is = eqb-true _ _ (below_at 256 (λ c. eqb (of_e280 c) (lead white_space (0xE2 ∷ 0x80 ∷ c ∷ []))) all_e280 b h)

  pub e280_low : b < 0x80 → 0 ≡ lead white_space (0xE2 ∷ 0x80 ∷ b ∷ [])
  e280_low l = (rw (of_e280, lt-ltb b 0x80 l)) ∙ e280_is

  pub e280_spaces : 0x80 ≤ b → b ≤ 0x8A → 3 ≡ lead white_space (0xE2 ∷ 0x80 ∷ b ∷ [])
  e280_spaces l k = (rw (of_e280, le-ltb b 0x80 l, le-leb b 0x8A k)) ∙ e280_is

  pub e280_one : (x : ℕ) → 3 ≡ of_e280 x → b ≡ x → 3 ≡ lead white_space (0xE2 ∷ 0x80 ∷ b ∷ [])
  e280_one x p e = p ∙ rw (← e) (e280_is)

  pub e280_no : 0x8A < b → (b ≡ 0xA8 → ⊥) → (b ≡ 0xA9 → ⊥) → (b ≡ 0xAF → ⊥) → 0 ≡ lead white_space (0xE2 ∷ 0x80 ∷ b ∷ [])
  e280_no l e f g = (rw (of_e280, le-ltb b 0x80 (omega arith), lt-leb b 0x8A l, ne_eqb b 0xA8 e, ne_eqb b 0xA9 f, ne_eqb b 0xAF g)) ∙ e280_is

pub three_no : (x y b c : ℕ) → (b ≡ x → ⊥) → 0 ≡ three_if x y b c
unfolding begins
three_no x y b c f = rw (three_if, begins, ne_eqb x b (λ e. f (sym e)))

pub three_not : (x y b c : ℕ) → (c ≡ y → ⊥) → 0 ≡ three_if x y b c
unfolding begins
three_not x y b c f = by_test (0 ≡ three_if x y b c) (eqb x b) (λ h. rw (three_if, begins, h, ne_eqb y c (λ e. f (sym e)))) (λ h. rw (three_if, begins, h))

pub three_yes : (x y b c : ℕ) → b ≡ x → c ≡ y → 3 ≡ three_if x y b c
unfolding begins
three_yes x y b c e f = rw (three_if, begins, e, f, eq-eqb x x refl, eq-eqb y y refl)

-- no character has these first two bytes, as far as it has two
abbrev misses : ℕ → ℕ → List ℕ → Bool
misses a b e = not (eqb (get_or e 0 a) a && eqb (get_or e 1 b) b)

missing : (cs : Chars) (a b : ℕ) (s : List ℕ) → each (misses a b) cs ≡ true → lead cs (a ∷ b ∷ s) ≡ 0
missing cs a b s h = lead_none cs (a ∷ b ∷ s) (λ e t i q. no e t (each_at (misses a b) cs h i) q)
  where
    same_two : not (eqb a a && eqb b b) ≡ true → ⊥
    same_two h = never (rw (eq-eqb a a refl, eq-eqb b b refl) at h)

    no : (e t : List ℕ) → misses a b e ≡ true → a ∷ b ∷ s ≡ e ++ t → ⊥
    no [] t h q = same_two h
    no (x ∷ []) t h q = let p : x ≡ a = cc in same_two (rw p at h)
    no (x ∷ y ∷ e) t h q = let p : x ≡ a = cc in let r : y ≡ b = cc in same_two (rw (p, r) at h)

-- by the first byte
module _ (a b c : ℕ) where
  pub more_c2 : a ≡ 0xC2 → lead white_space (0xC2 ∷ b ∷ []) ≡ lead white_space (a ∷ b ∷ c ∷ [])
  unfolding lead begins encode
  more_c2 e = rw e

  pub more_e1 : a ≡ 0xE1 → three_if 0x9A 0x80 b c ≡ lead white_space (a ∷ b ∷ c ∷ [])
  unfolding lead begins encode
  more_e1 e = rw e

  pub more_e3 : a ≡ 0xE3 → three_if 0x80 0x80 b c ≡ lead white_space (a ∷ b ∷ c ∷ [])
  unfolding lead begins encode
  more_e3 e = rw e

  pub more_e2_80 : a ≡ 0xE2 → b ≡ 0x80 → lead white_space (0xE2 ∷ 0x80 ∷ c ∷ []) ≡ lead white_space (a ∷ b ∷ c ∷ [])
  more_e2_80 e f = rw (e, f)

  pub more_e2 : a ≡ 0xE2 → (b ≡ 0x80 → ⊥) → three_if 0x81 0x9F b c ≡ lead white_space (a ∷ b ∷ c ∷ [])
  unfolding lead begins encode
  more_e2 e f =
      by_test (three_if 0x81 0x9F b c ≡ lead white_space (a ∷ b ∷ c ∷ [])) (eqb b 0x81)
      (λ h. rw (e, eqb-true b 0x81 h))
      (λ h. sym (three_no 0x81 0x9F b c (eqb-false b 0x81 h)) ∙ sym (missing white_space a b (c ∷ []) (rw (e, ne_eqb 0x80 b (λ q. f (sym q)), ne_eqb 0x81 b (λ q. eqb-false b 0x81 h (sym q))))))

  pub more_other : 128 ≤ a → (a ≡ 0xC2 → ⊥) → (a ≡ 0xE1 → ⊥) → (a ≡ 0xE2 → ⊥) → (a ≡ 0xE3 → ⊥) → 0 ≡ lead white_space (a ∷ b ∷ c ∷ [])
  unfolding encode
  more_other h e f g k = sym (missing white_space a b (c ∷ []) rows)
    where
      rows : each (misses a b) white_space ≡ true
      rows =
          rw (
            ne_eqb 9 a (λ q. omega arith),
            ne_eqb 10 a (λ q. omega arith),
            ne_eqb 11 a (λ q. omega arith),
            ne_eqb 12 a (λ q. omega arith),
            ne_eqb 13 a (λ q. omega arith),
            ne_eqb 0x20 a (λ q. omega arith),
            ne_eqb 0xC2 a (λ q. e (sym q)),
            ne_eqb 0xE1 a (λ q. f (sym q)),
            ne_eqb 0xE2 a (λ q. g (sym q)),
            ne_eqb 0xE3 a (λ q. k (sym q)),
          )

-- texts with the same first bytes have the same first character
lead_same : (cs : Chars) (s t : List ℕ) → ((e : List ℕ) → In e cs → begins e s ≡ begins e t) → lead cs s ≡ lead cs t
unfolding lead
lead_same [] s t f = refl
lead_same (e ∷ cs) s t f =
    ap (λ (b : Bool). elim b [ true ↦ length e | false ↦ lead cs s ]) (f e (here refl))
    ∙ ap (λ (n : ℕ). elim (begins e t) [ true ↦ length e | false ↦ n ]) (lead_same cs s t (λ d i. f d (there i)))

nonzero : (a b : ℕ) → 0 < a → b ≡ 0 → eqb a b ≡ false
nonzero a b h e = ne_eqb a b (λ q. omega arith)

begins_ascii : {e : List ℕ} → Shape e → (s : List ℕ) → get_or s 0 0 < 0x80 → begins e (get_or s 0 0 ∷ []) ≡ begins e s
unfolding begins
begins_ascii (one a x y) [] h = rw (nonzero a 0 x refl)
begins_ascii (one a x y) (b ∷ s) h = refl
begins_ascii (two a b x y z) [] h = rw (nonzero a 0 (omega arith) refl)
begins_ascii (two a b x y z) (c ∷ s) h = rw (ne_eqb a c (λ q. omega arith))
begins_ascii (three a b c x y z u v) [] h = rw (nonzero a 0 (omega arith) refl)
begins_ascii (three a b c x y z u v) (d ∷ s) h = rw (ne_eqb a d (λ q. omega arith))

begins_three : {e : List ℕ} → Shape e → (s : List ℕ) → begins e (get_or s 0 0 ∷ get_or s 1 0 ∷ get_or s 2 0 ∷ []) ≡ begins e s
unfolding begins
begins_three (one a x y) [] = rw (nonzero a 0 x refl)
begins_three (one a x y) (b ∷ s) = refl
begins_three (two a b x y z) [] = rw (nonzero a 0 (omega arith) refl)
begins_three (two a b x y z) (c ∷ []) = rw (nonzero b 0 (omega arith) refl)
begins_three (two a b x y z) (c ∷ d ∷ s) = refl
begins_three (three a b c x y z u v) [] = rw (nonzero a 0 (omega arith) refl)
begins_three (three a b c x y z u v) (d ∷ []) = rw (nonzero b 0 (omega arith) refl)
begins_three (three a b c x y z u v) (d ∷ f ∷ []) = rw (nonzero c 0 (omega arith) refl)
begins_three (three a b c x y z u v) (d ∷ f ∷ g ∷ s) = refl

module _ (set : Set) (s : List ℕ) where
  pub first_ascii : {a r : ℕ} → a ≡ get_or s 0 0 → a < 0x80 → r ≡ lead (chars_of set) (a ∷ []) → r ≡ lead (chars_of set) s
  first_ascii e h p =
      let z = lead_same (chars_of set) (get_or s 0 0 ∷ []) s (λ x i. begins_ascii (shape_of (code set) i) s (omega arith)) in
      p ∙ rw e z

  pub first_more : {a b c r : ℕ} → a ≡ get_or s 0 0 → b ≡ get_or s 1 0 → c ≡ get_or s 2 0 → set ≡ WhiteSpace → r ≡ lead white_space (a ∷ b ∷ c ∷ []) → r ≡ lead (chars_of set) s
  first_more e f g k p =
      let z = lead_same (chars_of set) (get_or s 0 0 ∷ get_or s 1 0 ∷ get_or s 2 0 ∷ []) s (λ x i. begins_three (shape_of (code set) i) s) in
      p ∙ rw (e, f, g) (rw k at z) ∙ ap (λ (x : Set). lead (chars_of x) s) (sym k)

-- a set of bytes below 128 has no other character
abbrev single : List ℕ → Bool
single e = ltb (length e) 2

high_none : (set : Set) → each single (chars_of set) ≡ true → (s : List ℕ) → 128 ≤ get_or s 0 0 → lead (chars_of set) s ≡ 0
high_none set f s h = lead_none (chars_of set) s (λ e t i q. no (shape_of (code set) i) t (ltb-true (length e) 2 (each_at single (chars_of set) f i)) q)
  where
    no : {e : List ℕ} → Shape e → (t : List ℕ) → length e < 2 → s ≡ e ++ t → ⊥
    no (one a x y) t l q = let z : get_or s 0 0 ≡ a = rw q in omega arith
    no (two a b x y z) t l q = omega arith
    no (three a b c x y z u v) t l q = omega arith

pub high_six : (set : Set) (s : List ℕ) {a : ℕ} → a ≡ get_or s 0 0 → 128 ≤ a → set ≡ Six → 0 ≡ lead (chars_of set) s
unfolding encode
high_six set s e h k = rw k (sym (high_none Six refl s (omega arith)))

pub high_label : (set : Set) (s : List ℕ) {a : ℕ} → a ≡ get_or s 0 0 → 128 ≤ a → set ≡ Label → 0 ≡ lead (chars_of set) s
unfolding encode
high_label set s e h k = rw k (sym (high_none Label refl s (omega arith)))

-- byte 11 by itself
pub eleven_white : (set : Set) → set ≡ WhiteSpace → 1 ≡ lead (chars_of set) (11 ∷ [])
unfolding lead begins encode
eleven_white set e = rw e

pub eleven_six : (set : Set) → set ≡ Six → 1 ≡ lead (chars_of set) (11 ∷ [])
unfolding lead begins encode
eleven_six set e = rw e

pub eleven_label : (set : Set) → set ≡ Label → 0 ≡ lead (chars_of set) (11 ∷ [])
unfolding lead begins encode
eleven_label set e = rw e

-- what each function of the tests of bytes may use
pub ruleset eleven_cases = (eleven_white, eleven_six, eleven_label)

pub ruleset alone_cases = (alone_low, alone_blank, alone_space, alone_high, eleven_is)

pub ruleset c2_cases = (c2_85, c2_a0, c2_no)

pub ruleset e280_cases = (e280_low, e280_spaces, e280_one, e280_no)

pub ruleset three_cases = (three_no, three_not, three_yes)

pub ruleset more_cases = (more_c2, more_e1, more_e3, more_e2_80, more_e2, more_other)

pub ruleset first_cases = (first_ascii, first_more, high_six, high_label)
