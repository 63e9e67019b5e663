-- What `trim` gives is the middle of the text between its white ends, and there is no other. Assumes nothing.
use Prim.Native.Nat.{ℕ, ◌<◌}
use mathlib.Core.Path.{◌≡◌, sym, ap, ◌∙◌}
use mathlib.Core.List.{List, [], ◌∷◌, ◌++◌, append_assoc, append-nil}
use native.Mathlib.Omega.{arith}
use lib.ListN.{length, drop}
use lib.Dec.{leb}
use borrow.Author.Tests.{leb-true, leb-false}
use Rattle.text.proofs.Tests.{by_test}
use Rattle.text_trim.specs.Trim.{Chars, chars_of, Run, end, char, Starts, Ends, Trimmed, trim, trim_start, trim_end}
use Rattle.text_trim.specs.declared.Set.{Set}
use Rattle.text_trim.proofs.Encodings.{Code, code, apart}
use Rattle.text_trim.proofs.Edges.{start_run, start_none, fronted}
use Rattle.text_trim.proofs.Backs.{cut_off, end_run, end_none, backed}

module _ {cs : Chars} (k : Code cs) where
  middle : (s : List ℕ) → Trimmed cs s (trim cs s)
  unfolding trim
  middle s =
      let f = fronted k s in
      let g = backed k (trim_start cs s) in
      record {
        before = f.before;
        after = g.after;
        is = f.is ∙ ap (λ (l : List ℕ). f.before ++ l) g.is ∙ sym (append_assoc f.before (trim cs s) g.after);
        white_before = f.white;
        white_after = g.white;
        starts = λ e t i q. f.starts e (t ++ g.after) i (g.is ∙ ap (λ (l : List ℕ). l ++ g.after) q ∙ append_assoc e t g.after);
        ends = g.ends;
      }

  -- white after a text adds no character to its front
  starts_on : (b : ℕ) (m : List ℕ) {a : List ℕ} → Run cs a → Starts cs (b ∷ m) → Starts cs (b ∷ (m ++ a))
  starts_on b m {a} r f e t i q =
      by_test ⊥ (leb (length e) (length (b ∷ m)))
      (λ h. f e (drop (length e) (b ∷ m)) i (cut_off e (b ∷ m) t a (sym q) (leb-true (length e) (length (b ∷ m)) h)))
      (λ h. across r q (leb-false (length e) (length (b ∷ m)) h))
    where
      across : {a : List ℕ} → Run cs a → b ∷ (m ++ a) ≡ e ++ t → length (b ∷ m) < length e → ⊥
      across end q h = f e t i (ap (λ (l : List ℕ). b ∷ l) (sym (append-nil m)) ∙ q)
      across (char d s j p r) q h =
          apart k t s (b ∷ m) i j (sym q ∙ ap (λ (l : List ℕ). b ∷ (m ++ l)) p) (omega arith) h

  unique : (m : List ℕ) {a : List ℕ} → Run cs a → Starts cs m → Ends cs m → trim cs (m ++ a) ≡ m
  unfolding trim trim_end
  unique [] {a} r f g = ap (trim_end cs) (ap (trim_start cs) (sym (append-nil a)) ∙ start_run k [] r ∙ start_none k [] f)
  unique (b ∷ m) {a} r f g = ap (trim_end cs) (start_none k (b ∷ (m ++ a)) (starts_on b m r f)) ∙ end_run k (b ∷ m) r ∙ end_none k (b ∷ m) g

module _ (set : Set) where
  pub trim_trimmed : (s : List ℕ) → Trimmed (chars_of set) s (trim (chars_of set) s)
  trim_trimmed s = middle (code set) s

  -- the middle is unique
  pub one_middle : {s m : List ℕ} → Trimmed (chars_of set) s m → m ≡ trim (chars_of set) s
  unfolding trim
  one_middle {s} {m} t =
      sym (ap (trim (chars_of set)) (t.is ∙ append_assoc t.before m t.after) ∙ ap (trim_end (chars_of set)) (start_run (code set) (m ++ t.after) t.white_before)
      ∙ unique (code set) m t.white_after t.starts t.ends)
