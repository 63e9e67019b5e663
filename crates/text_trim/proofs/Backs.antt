-- The characters at the end of a text: what stands before them. Assumes nothing.
use Prim.Native.Nat.{ℕ, suc, ◌<◌, ◌≤◌}
use mathlib.Core.Path.{◌≡◌, refl, sym, ap, ◌∙◌}
use mathlib.Core.List.{List, [], ◌∷◌, ◌++◌, append_assoc, append-nil}
use native.Mathlib.Omega.{arith}
use lib.ListN.{length, take, drop, length-append, take-append-drop}
use lib.Seq.{take-append_seam, take-append-le, drop-append-le, drop-append_seam}
use lib.Dec.{leb, eqb}
use borrow.Author.Tests.{eqb-true, eqb-false, eq-eqb, leb-true, leb-false}
use Rattle.text.proofs.Tests.{taken, left, by_test}
use Rattle.text_trim.specs.Trim.{Chars, In, Run, end, char, Ends, edge, trim_end}
use Rattle.text_trim.proofs.Encodings.{Code, solid, apart}
use Rattle.text_trim.proofs.Edges.{white_edge, edge_white}

-- of two beginnings of one text, the shorter begins the longer
pub cut_off : (d u s t : List ℕ) → d ++ s ≡ u ++ t → length d ≤ length u → u ≡ d ++ drop (length d) u
cut_off d u s t q h =
    let p : take (length d) u ≡ d = sym (take-append-le (length d) u t h) ∙ ap (take (length d)) (sym q) ∙ take-append_seam d s in
    sym (take-append-drop (length d) u) ∙ ap (λ (l : List ℕ). l ++ drop (length d) u) p

rest_off : (d u s t : List ℕ) → d ++ s ≡ u ++ t → length d ≤ length u → s ≡ drop (length d) u ++ t
rest_off d u s t q h = sym (drop-append_seam d s) ∙ ap (drop (length d)) q ∙ drop-append-le (length d) u t h

pub join : {cs : Chars} {a b : List ℕ} → Run cs a → Run cs b → Run cs (a ++ b)
join end r = r
join {b = b} (char e s i q l) r = char e (s ++ b) i (ap (λ (l : List ℕ). l ++ b) q ∙ append_assoc e s b) (join l r)

pub single : {cs : Chars} {e : List ℕ} → In e cs → Run cs e
single {e = e} i = char e [] i (sym (append-nil e)) end

-- a run that is not empty ends with one of its characters
pub record Final (cs : Chars) (s : List ℕ) : Type 0 where
  pub e : List ℕ
  pub t : List ℕ
  pub one : In e cs
  pub is : s ≡ t ++ e

pub final : {cs : Chars} {s : List ℕ} → Run cs s → (0 < length s) → Final cs s
final end h = absurd (omega arith)
final {cs} {s} (char e a i q end) h = record { e = e; t = []; one = i; is = q ∙ append-nil e }
final {cs} {s} (char e a i q (char d b j p r)) h =
    by_test (Final cs s) (leb (length a) 0)
    (λ k. record { e = e; t = []; one = i; is = q ∙ ap (λ (l : List ℕ). e ++ l) (empty a (leb-true (length a) 0 k)) ∙ append-nil e })
    (λ k. let f = final (char d b j p r) (leb-false (length a) 0 k) in
    record { e = f.e; t = e ++ f.t; one = f.one; is = q ∙ ap (λ (l : List ℕ). e ++ l) f.is ∙ sym (append_assoc e f.t f.e) })
  where
    empty : (l : List ℕ) → length l ≤ 0 → l ≡ []
    empty [] h = refl
    empty (b ∷ l) h = absurd (omega arith)

module _ {cs : Chars} (k : Code cs) where
  -- the last character of a run can be taken off
  pub run_back : {e s : List ℕ} → In e cs → Run cs s → (u : List ℕ) → s ≡ u ++ e → Run cs u
  run_back {e} i end u q = absurd (omega (arith, ap length q, length-append u e, solid k i))
  run_back {e} i (char d s j p r) [] q = end
  run_back {e} i (char d s j p r) (b ∷ u) q =
      let w : d ++ s ≡ (b ∷ u) ++ e = sym p ∙ q in
      by_test (Run cs (b ∷ u)) (leb (length d) (length (b ∷ u)))
      (λ h.
      let l = leb-true (length d) (length (b ∷ u)) h in
      char d (drop (length d) (b ∷ u)) j (cut_off d (b ∷ u) s e w l) (run_back i r (drop (length d) (b ∷ u)) (rest_off d (b ∷ u) s e w l)))
      (λ h. absurd (apart k s [] (b ∷ u) j i (w ∙ ap (λ (l : List ℕ). (b ∷ u) ++ l) (sym (append-nil e))) (omega arith) (leb-false (length d) (length (b ∷ u)) h)))

  end_gone : (b : ℕ) (s : List ℕ) → Run cs (b ∷ s) → trim_end cs (b ∷ s) ≡ []
  unfolding trim_end
  end_gone b s r = taken _ _ (eq-eqb _ _ (white_edge k r))

  end_kept : (b : ℕ) (s : List ℕ) → (Run cs (b ∷ s) → ⊥) → trim_end cs (b ∷ s) ≡ b ∷ trim_end cs s
  unfolding trim_end
  end_kept b s f =
      by_test (trim_end cs (b ∷ s) ≡ b ∷ trim_end cs s) (eqb (edge cs (b ∷ s)) (suc (length s)))
      (λ h. absurd (f (edge_white k (b ∷ s) (eqb-true (edge cs (b ∷ s)) (suc (length s)) h))))
      (λ h. left _ _ h)

  -- whether a text is white can be asked
  pub ask {ℓ} : (P : Type ℓ) (s : List ℕ) → (Run cs s → P) → ((Run cs s → ⊥) → P) → P
  ask P s f g =
      by_test P (eqb (edge cs s) (length s))
      (λ h. f (edge_white k s (eqb-true (edge cs s) (length s) h)))
      (λ h. g (λ r. eqb-false (edge cs s) (length s) h (white_edge k r)))

  -- a last character falls off
  pub end_char : {e : List ℕ} (t : List ℕ) → In e cs → trim_end cs (t ++ e) ≡ trim_end cs t
  unfolding trim_end
  end_char {e} [] i = all_gone e (single i)
    where
      all_gone : (s : List ℕ) → Run cs s → trim_end cs s ≡ []
      all_gone [] r = refl
      all_gone (b ∷ s) r = end_gone b s r
  end_char {e} (b ∷ t) i =
      ask (trim_end cs (b ∷ (t ++ e)) ≡ trim_end cs (b ∷ t)) (b ∷ t)
      (λ r. end_gone b (t ++ e) (join r (single i)) ∙ sym (end_gone b t r))
      (λ f. end_kept b (t ++ e) (λ r. f (run_back i r (b ∷ t) refl)) ∙ ap (λ (l : List ℕ). b ∷ l) (end_char t i) ∙ sym (end_kept b t f))

  pub end_run : {a : List ℕ} (t : List ℕ) → Run cs a → trim_end cs (t ++ a) ≡ trim_end cs t
  end_run t end = ap (trim_end cs) (append-nil t)
  end_run t (char e a i q r) = rw q (ap (trim_end cs) (sym (append_assoc t e a)) ∙ end_run (t ++ e) r ∙ end_char t i)

  -- a text that ends with none stays
  pub end_none : (s : List ℕ) → Ends cs s → trim_end cs s ≡ s
  unfolding trim_end
  end_none [] f = refl
  end_none (b ∷ s) f =
      end_kept b s (λ r. let x = final r (omega arith) in f x.e x.t x.one x.is)
      ∙ ap (λ (l : List ℕ). b ∷ l) (end_none s (λ e t i q. f e (b ∷ t) i (ap (λ (l : List ℕ). b ∷ l) q)))

  -- the end: a text that does not end with white, and then white
  pub record Backed (s : List ℕ) : Type 0 where
    pub after : List ℕ
    pub is : s ≡ trim_end cs s ++ after
    pub white : Run cs after
    pub ends : Ends cs (trim_end cs s)

  nothing_ends : Ends cs []
  nothing_ends e t i q = omega (arith, ap length q, length-append t e, solid k i)

  pub backed : (s : List ℕ) → Backed s
  unfolding trim_end
  backed [] = record { after = []; is = refl; white = end; ends = nothing_ends }
  backed (b ∷ s) =
      let g = backed s in
      ask (Backed (b ∷ s)) (b ∷ s)
      (λ r.
      let z = end_gone b s r in
      record { after = b ∷ s; is = ap (λ (l : List ℕ). l ++ b ∷ s) (sym z); white = r; ends = λ e t i q. nothing_ends e t i (sym z ∙ q) })
      (λ f.
      let z = end_kept b s f in
      record {
        after = g.after;
        is = ap (λ (l : List ℕ). b ∷ l) g.is ∙ ap (λ (l : List ℕ). l ++ g.after) (sym z);
        white = g.white;
        ends = λ e t i q. stays f g e t i (sym z ∙ q);
      })
    where
      stays : (Run cs (b ∷ s) → ⊥) → Backed s → (e t : List ℕ) → In e cs → b ∷ trim_end cs s ≡ t ++ e → ⊥
      stays f g e [] i q = f (char e g.after i (ap (λ (l : List ℕ). b ∷ l) g.is ∙ ap (λ (l : List ℕ). l ++ g.after) q) g.white)
      stays f g e (c ∷ t) i q = g.ends e t i (cc)
