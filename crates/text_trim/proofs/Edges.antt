-- The characters at the front of a text, one by one: how many bytes they have, and what stands behind them. Assumes nothing.
use Prim.Native.Nat.{ℕ, zero, suc, ◌+◌, ◌<◌, ◌≤◌}
use mathlib.Core.Path.{◌≡◌, refl, sym, ap, ◌∙◌}
use mathlib.Core.Bool.{false}
use mathlib.Core.List.{List, [], ◌∷◌, ◌++◌, append_assoc, append-nil}
use native.Mathlib.Omega.{arith}
use lib.ListN.{length, drop, length-append}
use lib.Seq.{drop-append_seam, drop-append-add, drop-length}
use Rattle.text.specs.Bytes.{begins}
use Rattle.text.proofs.Tests.{never, taken, left, by_test}
use Rattle.text_trim.specs.Trim.{Chars, In, here, there, Run, end, char, Starts, lead, edge_after, edge, trim_start}
use Rattle.text_trim.proofs.Encodings.{begins_first, begins_split, Code, solid, prefix}

-- what stands at the front, and how long it is
pub data Led (cs : Chars) (s : List ℕ) (n : ℕ) : Type 0 where
  some : (e t : List ℕ) → In e cs → s ≡ e ++ t → n ≡ length e → Led cs s n
  none : Starts cs s → n ≡ 0 → Led cs s n

pub led : (cs : Chars) (s : List ℕ) → Led cs s (lead cs s)
unfolding lead
led [] s = none (λ e t i. absurd (nowhere i)) refl
  where
    nowhere : {e : List ℕ} → In e [] → ⊥
    nowhere i = elim i [ ]
led (e ∷ cs) s =
    by_test (Led (e ∷ cs) s (lead (e ∷ cs) s)) (begins e s)
    (λ h. some e (drop (length e) s) (here refl) (begins_split e s h) (taken _ _ h))
    (λ h. later h (led cs s))
  where
    not_first : {d : List ℕ} (t : List ℕ) → begins e s ≡ false → Starts cs s → In d (e ∷ cs) → s ≡ d ++ t → ⊥
    not_first t h f (here p) q = never (sym h ∙ rw (q, p) (begins_first e t))
    not_first t h f (there i) q = f _ t i q

    later : begins e s ≡ false → Led cs s (lead cs s) → Led (e ∷ cs) s (lead (e ∷ cs) s)
    later h (some d t i q n) = some d t (there i) q (left _ _ h ∙ n)
    later h (none f n) = none (λ d t i q. not_first t h f i q) (left _ _ h ∙ n)

pub lead_none : (cs : Chars) (s : List ℕ) → Starts cs s → lead cs s ≡ 0
lead_none cs s f = go (led cs s)
  where
    go : Led cs s (lead cs s) → lead cs s ≡ 0
    go (some e t i q n) = absurd (f e t i q)
    go (none g n) = n

-- the front is counted by its characters
edge_length : (cs : Chars) (k : ℕ) (s : List ℕ) → edge_after cs k s ≤ length s
unfolding edge_after
edge_length cs k [] = omega arith
edge_length cs (suc k) (b ∷ s) = omega (arith, edge_length cs k s)
edge_length cs zero (b ∷ s) = go (lead cs (b ∷ s)) (λ k. edge_length cs k s)
  where
    go : (n : ℕ) → ((k : ℕ) → edge_after cs k s ≤ length s) → elim n [ zero ↦ 0 | suc k ↦ suc (edge_after cs k s) ] ≤ suc (length s)
    go zero f = omega arith
    go (suc k) f = omega (arith, f k)

pub edge_le : (cs : Chars) (s : List ℕ) → edge cs s ≤ length s
edge_le cs s = edge_length cs 0 s

edge_skip : (cs : Chars) (k : ℕ) (s : List ℕ) → k ≤ length s → edge_after cs k s ≡ k + edge cs (drop k s)
unfolding edge_after
edge_skip cs zero s h = omega arith
edge_skip cs (suc k) [] h = absurd (omega arith)
edge_skip cs (suc k) (b ∷ s) h = omega (arith, edge_skip cs k s (omega arith))

pub edge_stop : (cs : Chars) (s : List ℕ) → lead cs s ≡ 0 → edge cs s ≡ 0
unfolding edge_after
edge_stop cs [] h = refl
edge_stop cs (b ∷ s) h = rw (edge_after, h)

pub edge_step : (cs : Chars) (s : List ℕ) (k : ℕ) → lead cs s ≡ k → k ≤ length s → edge cs s ≡ k + edge cs (drop k s)
unfolding edge_after
edge_step cs s zero e h = omega arith
edge_step cs [] (suc k) e h = absurd (omega arith)
edge_step cs (b ∷ s) (suc k) e h = rw (edge_after, e) (omega (arith, edge_skip cs k s (omega arith)))

module _ {cs : Chars} (k : Code cs) where
  pub lead_char : {e : List ℕ} (t : List ℕ) → In e cs → lead cs (e ++ t) ≡ length e
  lead_char {e} t i = go (led cs (e ++ t))
    where
      go : Led cs (e ++ t) (lead cs (e ++ t)) → lead cs (e ++ t) ≡ length e
      go (some d u j q n) = n ∙ ap length (prefix k u t j i (sym q))
      go (none f n) = absurd (f e t i refl)

  edge_char : {e : List ℕ} (t : List ℕ) → In e cs → edge cs (e ++ t) ≡ length e + edge cs t
  edge_char {e} t i =
      edge_step cs (e ++ t) (length e) (lead_char t i) (omega (arith, length-append e t)) ∙ ap (λ (l : List ℕ). length e + edge cs l) (drop-append_seam e t)

  pub start_char : {e : List ℕ} (t : List ℕ) → In e cs → trim_start cs (e ++ t) ≡ trim_start cs t
  unfolding trim_start
  start_char {e} t i = ap (λ (n : ℕ). drop n (e ++ t)) (edge_char t i) ∙ drop-append-add e t (edge cs t)

  pub start_none : (s : List ℕ) → Starts cs s → trim_start cs s ≡ s
  unfolding trim_start
  start_none s f = ap (λ (n : ℕ). drop n s) (edge_stop cs s (lead_none cs s f))

  pub start_run : {a : List ℕ} (s : List ℕ) → Run cs a → trim_start cs (a ++ s) ≡ trim_start cs s
  start_run s end = refl
  start_run s (char e a i q r) = rw q (ap (trim_start cs) (append_assoc e a s) ∙ start_char (a ++ s) i ∙ start_run s r)

  -- the front: white, and then a text that does not begin with white
  pub record Fronted (s : List ℕ) : Type 0 where
    pub before : List ℕ
    pub is : s ≡ before ++ trim_start cs s
    pub white : Run cs before
    pub starts : Starts cs (trim_start cs s)

  fronted_in : (n : ℕ) (s : List ℕ) → length s < n → Fronted s
  fronted_in zero s h = absurd (omega arith)
  fronted_in (suc n) s h = go (led cs s) (λ t l. fronted_in n t l)
    where
      go : Led cs s (lead cs s) → ((t : List ℕ) → length t < n → Fronted t) → Fronted s
      go (some e t i q m) g =
          let f = g t (omega (arith, ap length q, length-append e t, solid k i)) in
          let z : trim_start cs s ≡ trim_start cs t = rw q (start_char t i) in
          record {
            before = e ++ f.before;
            is = q ∙ ap (λ (l : List ℕ). e ++ l) f.is ∙ sym (append_assoc e f.before (trim_start cs t)) ∙ ap (λ (l : List ℕ). (e ++ f.before) ++ l) (sym z);
            white = char e f.before i refl f.white;
            starts = λ d u j p. f.starts d u j (sym z ∙ p);
          }
      go (none f m) g =
          let z : trim_start cs s ≡ s = start_none s f in
          record { before = []; is = sym z; white = end; starts = λ d u j p. f d u j (sym z ∙ p) }

  pub fronted : (s : List ℕ) → Fronted s
  fronted s = fronted_in (suc (length s)) s (omega arith)

  -- all of a text is white exactly if it is a run
  pub white_edge : {s : List ℕ} → Run cs s → edge cs s ≡ length s
  unfolding edge_after
  white_edge end = refl
  white_edge (char e s i q r) = rw q (edge_char s i ∙ omega (arith, length-append e s, white_edge r))

  pub edge_white : (s : List ℕ) → edge cs s ≡ length s → Run cs s
  unfolding trim_start
  edge_white s h =
      let f = fronted s in
      let z : trim_start cs s ≡ [] = ap (λ (n : ℕ). drop n s) h ∙ drop-length s in
      let p : s ≡ f.before = f.is ∙ ap (λ (l : List ℕ). f.before ++ l) z ∙ append-nil f.before in
      rw p f.white
