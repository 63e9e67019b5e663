-- The steps of the token reader, over plain values: each is one step of the definition of a text's tokens.
use Prim.Native.Nat.{ℕ, suc, ◌+◌, ◌-◌, ◌*◌, ◌<◌, ◌≤◌, ◌^◌, max}
use mathlib.Core.Path.{◌≡◌, refl, sym, ap, ◌∙◌}
use mathlib.Core.Bool.{Bool, true, false, false≢true}
use mathlib.Core.List.{List, [], ◌∷◌}
use mathlib.Core.Option.{Option, none, some}
use Rattle.std.specs.Prelude.{Some, None}
use native.Mathlib.Omega.{arith}
use native.Mathlib.Numerals.{add-one}
use lib.ListN.{length, drop, get_or, length-drop, drop_of_length-le}
use lib.Seq.{drop-cons, drop-drop, get_or-drop}
use lib.Dec.{eqb, leb}
use borrow.Author.Tests.{ne_eqb, leb-true, leb-false, lt-ltb, le-ltb}
use Rattle.text.specs.Bytes.{front}
use Rattle.text.proofs.Tests.{by_test}
use Rattle.text.proofs.Front.{Counted, front_in, front_out, front_least, counted_end, counted_stop, counted_more}
use Rattle.rules.specs.Tree.{Op}
use Rattle.rules.specs.Store.{node_code}
use Rattle.text_digits.specs.Digits.{digit_on}
use Rattle.text_digits.proofs.Digits.{on_whole, on_none}
use Rattle.reading_grammar.specs.Grammar.{Token, sign, number, mark}
use Rattle.reading_grammar.specs.Tokens.{tokens, lex, digits, second, digit, blank, two, find_one, ones}
use Rattle.reading_tokens.specs.declared.Next.{Next}
use Rattle.reading_tokens.specs.declared.Next.TheVariants as next
use Rattle.reading_tokens.specs.declared.Next.TheVariants.{End, Sign, Huge, Mark}
use Rattle.reading_tokens.specs.Scan.{skipped, width, after, first, next}
use Rattle.reading_tokens.specs.Private.{code_of, sign_code, pair_code, single_code, ran}
use Rattle.reading_grammar.proofs.Choice.{taken_if, left_if}

-- the byte after those in front that pass a test does not
stands : (f : ℕ → Bool) (s : List ℕ) → front f s < length s → f (get_or s (front f s) 0) ≡ false
stands f s h =
    by_test (f (get_or s (front f s) 0) ≡ false) (f (get_or s (front f s) 0))
    (λ e. absurd (omega (arith, front_least f s (front f s) h e (omega arith))))
    (λ e. e)

-- skip
module _ (s : List ℕ) (at i : ℕ) (e : Counted blank s at i) where
  pub skip_on : i < length s → blank (get_or s i 0) ≡ true → Counted blank s at (i + 1)
  skip_on h b = counted_more blank s at i h b e

  pub skip_stop : i < length s → blank (get_or s i 0) ≡ false → i ≡ skipped s at
  unfolding skipped
  skip_stop h b = counted_stop blank s at i h b e

  pub skip_end : length s ≤ i → (at ≤ length s → i ≤ length s) → max at (length s) ≡ skipped s at
  unfolding skipped
  skip_end h l = go (leb at (length s)) refl
    where
      go : (x : Bool) → leb at (length s) ≡ x → max at (length s) ≡ at + front blank (drop at s)
      go true b = let k = l (leb-true _ _ b) in omega (arith, leb-true _ _ b, counted_end blank s at i h e)
      go false b = let k = leb-false _ _ b in omega (arith, counted_end blank s at at (omega arith) refl)

-- run
first_small : (v e : ℕ) → v < 2 ^ 64 → first (number v ∷ []) e ≡ next.Number v e
first_small v e h = taken_if _ _ (lt-ltb _ _ h)

first_huge : (v e : ℕ) → 2 ^ 64 ≤ v → first (number v ∷ []) e ≡ Huge
first_huge v e h = left_if _ _ (le-ltb _ _ h)

stop_head : (v b : ℕ) (r : List ℕ) → digit b ≡ false → lex (digits v) (b ∷ r) ≡ number v ∷ tokens (b ∷ r)
unfolding tokens
stop_head v b r e = left_if _ _ e

grow_head : (v b : ℕ) (r : List ℕ) → digit b ≡ true → lex (digits v) (b ∷ r) ≡ lex (digits (10 * v + (b - 48))) r
unfolding lex
grow_head v b r e = taken_if _ _ e

-- the whole integer that begins with the digits of v, and the tokens after it
pub record Run (v : ℕ) (s : List ℕ) : Type 0 where
  pub w : ℕ
  pub is : lex (digits v) s ≡ number w ∷ tokens (drop (front digit s) s)
  pub grows : v ≤ w

pub whole : (v : ℕ) (s : List ℕ) → Run v s
unfolding tokens front
whole v [] = record { w = v; is = refl; grows = omega arith }
whole v (b ∷ s) = go (digit b) refl (whole (10 * v + (b - 48)) s)
  where
    go : (d : Bool) → digit b ≡ d → Run (10 * v + (b - 48)) s → Run v (b ∷ s)
    go true e g = record { w = g.w; is = grow_head v b s e ∙ (g.is ∙ rw (front_in digit b s e) refl); grows = omega (arith, g.grows) }
    go false e g = record { w = v; is = stop_head v b s e ∙ rw (front_out digit b s e) refl; grows = omega arith }

module _ (v : ℕ) (s : List ℕ) (at : ℕ) where
  ran_is : (ts : List Token) (e : ℕ) → lex (digits v) (drop at s) ≡ ts → at + front digit (drop at s) ≡ e → ran v s at ≡ first ts e
  unfolding ran
  ran_is ts e i j = rw (i, j) refl

  pub run_end : v < 2 ^ 64 → at ≡ length s → next.Number v (length s) ≡ ran v s at
  unfolding lex
  run_end b e =
      let h : length s ≤ at = omega arith in
      rw (← e) (sym (ran_is (number v ∷ []) at (rw (drop_of_length-le s h) refl) (sym (counted_end digit s at at h refl)) ∙ first_small v at b))

  pub run_stop : v < 2 ^ 64 → at < length s → digit (get_or s at 0) ≡ false → next.Number v at ≡ ran v s at
  run_stop b h e =
      sym (ran_is (number v ∷ tokens (get_or s at 0 ∷ drop (suc at) s)) at (rw (drop-cons s at 0 h) (stop_head v _ _ e)) (sym (counted_stop digit s at at h e refl)) ∙ first_small v at b)

  grow_at : at < length s → digit (get_or s at 0) ≡ true → lex (digits v) (drop at s) ≡ lex (digits (10 * v + (get_or s at 0 - 48))) (drop (at + 1) s)
  grow_at h e = rw (drop-cons s at 0 h, add-one at) (grow_head v _ _ e)

  module _ (h : at < length s) (e : digit (get_or s at 0) ≡ true) where
    pub run_on : {w : ℕ} → Some w ≡ digit_on v (get_or s at 0) → ran v s at ≡ ran w s (at + 1)
    unfolding ran
    run_on {w} f =
        let k = on_whole v (get_or s at 0) e (sym f) in
        ran_is (lex (digits w) (drop (at + 1) s)) (at + 1 + front digit (drop (at + 1) s)) (rw k (grow_at h e)) (counted_more digit s at at h e refl)

    pub run_huge : None ≡ digit_on v (get_or s at 0) → Huge ≡ ran v s at
    run_huge f =
        let k = on_none v (get_or s at 0) e (sym f) in
        let w = whole (10 * v + (get_or s at 0 - 48)) (drop (at + 1) s) in
        sym (ran_is _ _ (grow_at h e ∙ w.is) refl ∙ first_huge w.w _ (omega (arith, w.grows)))

-- past the blanks
blank_head : (b : ℕ) (s : List ℕ) → blank b ≡ true → digit b ≡ false → tokens (b ∷ s) ≡ tokens s
unfolding tokens
blank_head b s e f = left_if _ _ f ∙ taken_if _ _ e

no_digit : (b : ℕ) → blank b ≡ true → digit b ≡ false
no_digit b e = go (leb 48 b) refl
  where
    go : (x : Bool) → leb 48 b ≡ x → digit b ≡ false
    go true h =
        let z = leb-true 48 b h in
        absurd (false≢true (sym (rw (ne_eqb b 32 (λ i. omega arith), ne_eqb b 9 (λ i. omega arith)) refl) ∙ e))
    go false h = rw h refl

blanks : (s : List ℕ) → tokens s ≡ tokens (drop (front blank s) s)
unfolding front
blanks [] = refl
blanks (b ∷ s) = go (blank b) refl (blanks s)
  where
    go : (x : Bool) → blank b ≡ x → tokens s ≡ tokens (drop (front blank s) s) → tokens (b ∷ s) ≡ tokens (drop (front blank (b ∷ s)) (b ∷ s))
    go true e k = blank_head b s e (no_digit b e) ∙ (k ∙ rw (front_in blank b s e) refl)
    go false e k = rw (front_out blank b s e) refl

pub same : (s : List ℕ) (at : ℕ) → tokens (drop at s) ≡ tokens (drop (skipped s at) s)
unfolding skipped
same s at = blanks (drop at s) ∙ ap tokens (drop-drop (front blank (drop at s)) at s)

pub skips : (s : List ℕ) (at : ℕ) → at ≤ skipped s at
unfolding skipped
skips s at = omega arith

pub none_left : (s : List ℕ) (i : ℕ) → length s ≤ i → tokens (drop i s) ≡ []
unfolding tokens
none_left s i h = rw (drop_of_length-le s h) refl

-- and the byte there is none
pub no_blank : (s : List ℕ) (at : ℕ) → skipped s at < length s → blank (get_or s (skipped s at) 0) ≡ false
unfolding skipped
no_blank s at h = rw (← get_or-drop at s (front blank (drop at s)) 0) (stands blank (drop at s) (omega (arith, length-drop at s)))

-- the tokens from a byte that begins one, and its width
module _ (b : ℕ) (r : List ℕ) where
  pub of_digit : digit b ≡ true → (tokens (b ∷ r) ≡ lex (digits (b - 48)) r) × (width (b ∷ r) ≡ suc (front digit r))
  unfolding tokens width
  of_digit e = (taken_if _ _ e, taken_if _ _ e)

  pub of_two : {op : Op} → digit b ≡ false → blank b ≡ false → two b r ≡ some op → (tokens (b ∷ r) ≡ sign op ∷ lex second r) × (width (b ∷ r) ≡ 2)
  unfolding tokens width
  of_two e f t = (left_if _ _ e ∙ (left_if _ _ f ∙ rw t refl), left_if _ _ e ∙ rw t refl)

  pub of_one : digit b ≡ false → blank b ≡ false → two b r ≡ none → (tokens (b ∷ r) ≡ find_one ones b ∷ tokens r) × (width (b ∷ r) ≡ 1)
  unfolding tokens width
  of_one e f t = (left_if _ _ e ∙ (left_if _ _ f ∙ rw t refl), left_if _ _ e ∙ rw t refl)

-- a token
first_sign : (x : Token) (r : List Token) {o : ℕ} (e : ℕ) → Some o ≡ sign_code x → Sign o e ≡ first (x ∷ r) e
first_sign (sign op) r {o} e t = let z : o ≡ node_code op = cc in rw z
first_sign (number v) r e t = absurd (let z : ◌≡◌ {A = ℕ} 0 1 = cc in omega arith)
first_sign (mark b) r e t = absurd (let z : ◌≡◌ {A = ℕ} 0 1 = cc in omega arith)

lost_one : (rs : List (ℕ × Op)) (b : ℕ) → None ≡ sign_code (find_one rs b) → find_one rs b ≡ mark b
lost_one [] b t = refl
lost_one (x ∷ rs) b t = go (eqb b x.0) refl (lost_one rs b)
  where
    go : (y : Bool) → eqb b x.0 ≡ y → (None ≡ sign_code (find_one rs b) → find_one rs b ≡ mark b) → find_one (x ∷ rs) b ≡ mark b
    go true e k =
        let z : None ≡ Some (node_code x.1) = t ∙ ap sign_code (taken_if _ _ e) in
        let y : ◌≡◌ {A = ℕ} 0 1 = cc in
        absurd (omega arith)
    go false e k = left_if _ _ e ∙ k (t ∙ ap sign_code (left_if _ _ e))

module _ (s : List ℕ) (at : ℕ) {i : ℕ} (k : i ≡ skipped s at) where
  here : next s at ≡ first (tokens (drop i s)) (i + width (drop i s))
  unfolding next after
  here = rw (same s at, ← k) refl

  pub at_end : length s ≤ i → End ≡ next s at
  at_end h = rw (here, none_left s i h) refl

  at_byte : (ts : List Token) (e : ℕ) → i < length s → tokens (get_or s i 0 ∷ drop (suc i) s) ≡ ts → i + width (get_or s i 0 ∷ drop (suc i) s) ≡ e → next s at ≡ first ts e
  at_byte ts e h p q = here ∙ rw (drop-cons s i 0 h, p, q) refl

  pub at_digit : {x : Next} → i < length s → digit (get_or s i 0) ≡ true → x ≡ ran 0 s i → x ≡ next s at
  unfolding ran
  at_digit h e r =
      let z = of_digit (get_or s i 0) (drop (suc i) s) e in
      let n : get_or s i 0 - 48 ≡ 10 * 0 + (get_or s i 0 - 48) = omega arith in
      let g = z.0 ∙ ap (λ (v : ℕ). lex (digits v) (drop (suc i) s)) n ∙ sym (grow_head 0 (get_or s i 0) (drop (suc i) s) e) in
      r ∙ rw (drop-cons s i 0 h) (sym (at_byte _ _ h g (omega (arith, z.1, front_in digit (get_or s i 0) (drop (suc i) s) e))))

  module _ {b : ℕ} (h : i < length s) (eb : b ≡ get_or s i 0) (e : digit b ≡ false) where
    quiet : blank b ≡ false
    quiet = rw (eb, k) (no_blank s at (omega arith))

    pub at_two : {w : ℕ} → Some w ≡ pair_code b (drop (i + 1) s) → Sign w (i + 2) ≡ next s at
    at_two {w} t = go (two b (drop (suc i) s)) refl (rw add-one at t)
      where
        go : (o : Option Op) → two b (drop (suc i) s) ≡ o → Some w ≡ pair_code b (drop (suc i) s) → Sign w (i + 2) ≡ next s at
        go none f t = let z : Some w ≡ None = t ∙ ap code_of f in let y : ◌≡◌ {A = ℕ} 0 1 = cc in absurd (omega arith)
        go (some op) f t =
            let y : Some w ≡ Some (node_code op) = t ∙ ap code_of f in
            let v : w ≡ node_code op = cc in
            let z = of_two b (drop (suc i) s) e quiet f in
            rw v (sym (at_byte (sign op ∷ lex second (drop (suc i) s)) (i + 2) h (rw (← eb) z.0) (rw (← eb, z.1) refl)))

    alone : None ≡ pair_code b (drop (i + 1) s) → next s at ≡ first (find_one ones b ∷ tokens (drop (suc i) s)) (i + 1)
    alone t = go (two b (drop (suc i) s)) refl (rw add-one at t)
      where
        go : (o : Option Op) → two b (drop (suc i) s) ≡ o → None ≡ pair_code b (drop (suc i) s)
            → next s at ≡ first (find_one ones b ∷ tokens (drop (suc i) s)) (i + 1)
        go none f t = let z = of_one b (drop (suc i) s) e quiet f in at_byte (find_one ones b ∷ tokens (drop (suc i) s)) (i + 1) h (rw (← eb) z.0) (rw (← eb, z.1) refl)
        go (some op) f t =
            let z : None ≡ Some (node_code op) = t ∙ ap code_of f in
            let y : ◌≡◌ {A = ℕ} 0 1 = cc in
            absurd (omega arith)

    module _ (t : None ≡ pair_code b (drop (i + 1) s)) where
      pub at_one : {o : ℕ} → Some o ≡ single_code b → Sign o (i + 1) ≡ next s at
      at_one u = first_sign (find_one ones b) (tokens (drop (suc i) s)) (i + 1) u ∙ sym (alone t)

      pub at_mark : None ≡ single_code b → Mark b (i + 1) ≡ next s at
      at_mark u = sym (alone t ∙ rw (lost_one ones b u) refl)
