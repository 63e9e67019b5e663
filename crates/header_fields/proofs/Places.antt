-- Places of a header: they lie in their text, and the last field is met piece by piece. Assumes nothing.
use Prim.Native.Nat.{ℕ, ◌+◌, ◌-◌, ◌<◌, ◌≤◌}
use mathlib.Core.Path.{◌≡◌, refl, sym, ap, ◌∙◌}
use mathlib.Core.Bool.{Bool, true, false}
use mathlib.Core.List.{List, [], ◌∷◌}
use native.Mathlib.Omega.{arith}
use lib.ListN.{length, take, drop, length-take, length-drop}
use lib.Seq.{length-take-le}
use borrow.Author.Tests.{lt-ltb, le-ltb, ltb-true}
use Rattle.text.specs.Bytes.{same, place}
use Rattle.text_trim.specs.Trim.{Chars, edge, trim}
use Rattle.text.specs.Cut.{cut}
use Rattle.text.proofs.Tests.{taken, left, by_test, and_none, and_left}
use Rattle.text.proofs.Walk.{part_from}
use Rattle.text.proofs.Cuts.{rest_last, rest_more, spanned, spans, cut_spans}
use Rattle.text_trim.proofs.Trimming.{trim_bound}
use Rattle.header_fields.specs.Fields.{shift, or_else, has, is_named, value_at, named, last_of}
use Rattle.header_fields.specs.Promise.{start_of, end_of}
use Rattle.text.specs.declared.Stretch.{Stretch}
use Rattle.std.specs.Prelude.{Option, Some, None}

-- a place ends where it does, moved k on
pub shift_end : (k n m : ℕ) (p : Option Stretch) → end_of p ≤ n → k + n ≤ m → end_of (shift k p) ≤ m
shift_end k n m (Some t) h i = omega arith
shift_end k n m None h i = omega arith

pub start_end : (p : Option Stretch) → start_of p ≤ end_of p
start_end (Some t) = omega arith
start_end None = omega arith

or_else_end : (n : ℕ) (p q : Option Stretch) → end_of p ≤ n → end_of q ≤ n → end_of (or_else p q) ≤ n
or_else_end n (Some t) q h k = h
or_else_end n None q h k = k

pub or_else_assoc : (p q r : Option Stretch) → or_else (or_else p q) r ≡ or_else p (or_else q r)
or_else_assoc (Some t) q r = refl
or_else_assoc None q r = refl

module _ (wn wv : Chars) (x : ℕ) (name s : List ℕ) where
  -- the three ways that a field can go
  pub not_field : length s ≤ place x s → None ≡ named wn wv x name s
  unfolding named
  not_field h = let b : is_named wn x name s ≡ false = rw (le-ltb (place x s) (length s) h) in sym (left _ _ b)

  pub other_name : same name (trim wn (take (place x s) s)) ≡ false → None ≡ named wn wv x name s
  unfolding named
  other_name e = let b : is_named wn x name s ≡ false = rw e (and_none (has x s)) in sym (left _ _ b)

  pub this_name : place x s < length s → same name (trim wn (take (place x s) s)) ≡ true → value_at wv x s ≡ named wn wv x name s
  unfolding named
  this_name h e = let b : is_named wn x name s ≡ true = rw (lt-ltb (place x s) (length s) h, e) in sym (taken _ _ b)

  value_end : is_named wn x name s ≡ true → end_of (value_at wv x s) ≤ length s
  value_end e =
      omega (
        arith,
        ltb-true (place x s) (length s) (and_left (has x s) (same name (trim wn (take (place x s) s))) e),
        trim_bound wv (drop (place x s + 1) s),
        length-drop (place x s + 1) s,
      )

  pub named_end : end_of (named wn wv x name s) ≤ length s
  unfolding named
  named_end =
      by_test (end_of (named wn wv x name s) ≤ length s) (is_named wn x name s)
      (λ e. let z : named wn wv x name s ≡ value_at wv x s = taken _ _ e in rw z (value_end e))
      (λ e. let z : named wn wv x name s ≡ None = left _ _ e in rw z (omega arith))

-- what every piece answers lies in it: so does the last answer in the text
last_of_end : (f : List ℕ → Option Stretch) → ((p : List ℕ) → end_of (f p) ≤ length p) → (at n : ℕ) (ps : List (List ℕ)) → spanned at ps ≤ n + 1 → end_of (last_of f at ps) ≤ n
unfolding last_of
last_of_end f g at n [] h = omega arith
last_of_end f g at n (p ∷ ps) h =
    or_else_end n (last_of f (at + length p + 1) ps) (shift at (f p))
    (last_of_end f g (at + length p + 1) n ps h)
    (shift_end at (length p) n (f p) (g p) (omega (arith, spans (at + length p + 1) ps)))

pub cut_end : (f : List ℕ → Option Stretch) → ((p : List ℕ) → end_of (f p) ≤ length p) → (x : ℕ) (s : List ℕ) → end_of (last_of f 0 (cut x s)) ≤ length s
cut_end f g x s = last_of_end f g 0 (length s) (cut x s) (omega (arith, cut_spans x s 0))

-- the last answer, as a loop over the pieces meets it: what the pieces from at on answer, or else what was found
module _ (f : List ℕ → Option Stretch) (x : ℕ) (s : List ℕ) where
  abbrev pub Met : ℕ → Option Stretch → Type 0
  Met at found = last_of f 0 (cut x s) ≡ or_else (last_of f at (cut x (drop at s))) found

  pub met_none : Met 0 None
  met_none = right_unit (last_of f 0 (cut x s))
    where
      right_unit : (p : Option Stretch) → p ≡ or_else p None
      right_unit (Some t) = refl
      right_unit None = refl

  module _ (at end : ℕ) (found : Option Stretch) (e : end ≡ at + place x (drop at s)) (i : at ≤ length s) where
    pub met_last : length s ≤ end → Met at found → or_else (shift at (f (take (end - at) (drop at s)))) found ≡ last_of f 0 (cut x s)
    unfolding last_of
    met_last h m = sym (m ∙ ap (λ (ps : List (List ℕ)). or_else (last_of f at ps) found) (rest_last x s at end e i h))

    pub met_more : end < length s → Met at found → Met (end + 1) (or_else (shift at (f (take (end - at) (drop at s)))) found)
    unfolding last_of
    met_more h m =
        let z : at + length (take (end - at) (drop at s)) + 1 ≡ end + 1 = omega (arith, length-take-le (end - at) (drop at s) (omega (arith, length-drop at s))) in
        m ∙ ap (λ (ps : List (List ℕ)). or_else (last_of f at ps) found) (rest_more x s at end e h)
        ∙ ap (λ (n : ℕ). or_else (or_else (last_of f n (cut x (drop (end + 1) s))) (shift at (f (take (end - at) (drop at s))))) found) z
        ∙ or_else_assoc (last_of f (end + 1) (cut x (drop (end + 1) s))) (shift at (f (take (end - at) (drop at s)))) found

-- a field as the code meets it
module _ (wn wv : Chars) (x : ℕ) (name s : List ℕ) where
  pub name_told : {i : ℕ} {t : List ℕ} {r b : Bool} → i ≡ place x s → t ≡ trim wn (take i s) → r ≡ same name t → r ≡ b → same name (trim wn (take (place x s) s)) ≡ b
  name_told e f g h = rw (← e, ← f, ← g) h

  pub value_told : {i a l : ℕ} → i ≡ place x s → i < length s → same name (trim wn (take (place x s) s)) ≡ true
      → a ≡ edge wv (take (length s - (i + 1)) (drop (i + 1) s)) → l ≡ length (trim wv (take (length s - (i + 1)) (drop (i + 1) s)))
      → Some (record { start = i + 1 + a; len = l }) ≡ named wn wv x name s
  value_told {i} {a} {l} e h n f g =
      let p : a ≡ edge wv (drop (i + 1) s) = f ∙ ap (edge wv) (part_from s (i + 1)) in
      let q : l ≡ length (trim wv (drop (i + 1) s)) = g ∙ ap (λ (t : List ℕ). length (trim wv t)) (part_from s (i + 1)) in
      rw (p, q, e) (this_name wn wv x name s (omega arith) n)

pub value_fits : (w : Chars) (s : List ℕ) (i a : ℕ) → i < length s → a ≡ edge w (take (length s - (i + 1)) (drop (i + 1) s)) → i + 1 + a ≤ length s
value_fits w s i a h e =
    let p : a ≡ edge w (drop (i + 1) s) = e ∙ ap (edge w) (part_from s (i + 1)) in
    omega (arith, trim_bound w (drop (i + 1) s), length-drop (i + 1) s)

-- a piece's answer can be moved to where the piece starts
pub piece_fits : (f : List ℕ → Option Stretch) → ((p : List ℕ) → end_of (f p) ≤ length p) → (s : List ℕ) (at end : ℕ) {r : Option Stretch} → r ≡ f (take (end - at) (drop at s))
    → at ≤ end → end ≤ length s → at + start_of r ≤ length s
piece_fits f g s at end {r} e l h =
    let p : end_of r ≤ length (take (end - at) (drop at s)) = rw e (g (take (end - at) (drop at s))) in
    omega (arith, start_end r, length-take (end - at) (drop at s))

-- what the code has found after a piece
pub found_so : (at : ℕ) (found : Option Stretch) {r p q m : Option Stretch} → p ≡ q → m ≡ shift at p → r ≡ or_else m found → r ≡ or_else (shift at q) found
found_so at found e f g = g ∙ ap (λ (x : Option Stretch). or_else x found) (f ∙ ap (shift at) e)

-- what `named_value` may use
pub ruleset named_cases = (not_field, other_name, name_told, value_told, value_fits)
