-- The key is context, byte 4 and id, or the id only, and it lies in one stretch of the file. Assumes nothing.
use Prim.Native.Nat.{ℕ, suc, ◌+◌, ◌-◌, ◌<◌, ◌≤◌}
use mathlib.Core.Path.{◌≡◌, refl, sym, ap, ◌∙◌}
use mathlib.Core.Bool.{Bool, true, false, not}
use mathlib.Core.List.{List, ◌∷◌, ◌++◌}
use native.Mathlib.Omega.{arith}
use lib.ListN.{length, take, drop, get_or}
use lib.Seq.{take-take, take-add}
use lib.Dec.{eqb}
use borrow.Author.Tests.{ltb-true, eqb-true}
use Rattle.text.specs.Bytes.{place}
use Rattle.text.proofs.Tests.{taken, left, by_test}
use Rattle.text.proofs.Walk.{rest_at}
use Rattle.container_layout.specs.Mo.{string, original, has_context, context_end, id_start, id_end, context, id, key, ended, keyed, translated, entry}
use Rattle.container_layout.specs.declared.Tables.{Tables}
use Rattle.text.specs.declared.Stretch.{Stretch}
use Rattle.container_layout.specs.declared.Entry.{Entry}
use Rattle.std.specs.Prelude.{Option, Some, None}
use Rattle.container_layout.proofs.Marks.{stops}
use Rattle.container_layout.proofs.Cells.{string_told}
use Rattle.container_layout.proofs.Entries.{original_length}

-- the byte that was sought stands at its place
at_place : (x : ℕ) (o : List ℕ) → place x o < length o → get_or o (place x o) 0 ≡ x
at_place x o h = by_test (get_or o (place x o) 0 ≡ x) (eqb (get_or o (place x o) 0) x) (λ t. eqb-true _ _ t) (λ t. absurd (never t (stops (λ b. not (eqb b x)) o h)))
  where
    never : {b : Bool} → b ≡ false → not b ≡ false → ⊥
    never e f = let y : true ≡ false = sym (ap not e) ∙ f in let z : ◌≡◌ {A = ℕ} 0 1 = cc in omega arith

-- up to p, the element there, and m more
taken_at : (o : List ℕ) (p m : ℕ) → p < length o → take (p + 1 + m) o ≡ take p o ++ get_or o p 0 ∷ take m (drop (p + 1) o)
taken_at o p m h =
    let z : p + 1 + m ≡ p + suc m = omega arith in
    rw z (take-add p (suc m) o ∙ ap (λ (l : List ℕ). take p o ++ take (suc m) l) (rest_at o p h))

module _ (o : List ℕ) where
  pub key_with_context : has_context o ≡ true → key o ≡ context o ++ 4 ∷ id o
  unfolding key context id context_end id_start id_end
  key_with_context t =
      let h : place 4 o < length o = ltb-true (place 4 o) (length o) t in
      let c : context_end o ≡ place 4 o = taken _ _ t in
      let i : id_start o ≡ place 4 o + 1 = taken _ _ t in
      let m : id_end o ≡ place 4 o + 1 + place 0 (drop (place 4 o + 1) o) = ap (λ (n : ℕ). n + place 0 (drop n o)) i in
      let n : id_end o - id_start o ≡ place 0 (drop (place 4 o + 1) o) = omega arith in
      ap (λ (k : ℕ). take k o) m
      ∙ taken_at o (place 4 o) (place 0 (drop (place 4 o + 1) o)) h
      ∙ ap (λ (b : ℕ). take (place 4 o) o ++ b ∷ take (place 0 (drop (place 4 o + 1) o)) (drop (place 4 o + 1) o)) (at_place 4 o h)
      ∙ sym (ap (λ (k : ℕ). take k o ++ 4 ∷ take (id_end o - id_start o) (drop (id_start o) o)) c
      ∙ ap (λ (k : ℕ). take (place 4 o) o ++ 4 ∷ take k (drop (id_start o) o)) n
      ∙ ap (λ (k : ℕ). take (place 4 o) o ++ 4 ∷ take (place 0 (drop (place 4 o + 1) o)) (drop k o)) i)

  pub key_alone : has_context o ≡ false → key o ≡ id o
  unfolding key id id_start id_end
  key_alone t =
      let i : id_start o ≡ 0 = left _ _ t in
      let n : id_end o - id_start o ≡ id_end o = omega arith in
      sym (ap (λ (k : ℕ). take k (drop (id_start o) o)) n ∙ ap (λ (k : ℕ). take (id_end o) (drop k o)) i)

-- what stands at the key's place of an entry is the key of its original
pub record Keyed (s : List ℕ) (start len : ℕ) : Type 0 where
  pub size : ℕ
  pub inside : start + size + 1 ≤ length s
  pub is : take len (drop start s) ≡ key (original s start size)

key_part : (s : List ℕ) (a l : ℕ) → a + l + 1 ≤ length s → ended (original s a l) ≡ true → take (id_end (original s a l)) (drop a s) ≡ key (original s a l)
unfolding key
key_part s a l h e = sym (take-take (id_end (original s a l)) (l + 1) (drop a s) (omega (arith, ltb-true (id_end (original s a l)) (length (original s a l)) e, original_length s a l h)))

never_entry : {r : Entry} → None ≡ Some r → ⊥
never_entry e = let z : ◌≡◌ {A = ℕ} 0 1 = cc in omega arith

of_key : (s : List ℕ) (x y : Option Stretch) {r : Entry} → ((o : Stretch) → x ≡ Some o → o.start + o.len + 1 ≤ length s) → keyed s x y ≡ Some r → Keyed s r.key r.key_len
of_key s (Some o) y {r} n e =
    by_test (Keyed s r.key r.key_len) (ended (original s o.start o.len))
    (λ t. told y (sym (taken _ _ t) ∙ e) t)
    (λ t. absurd (never_entry (sym (left _ _ t) ∙ e)))
  where
    told : (y : Option Stretch) → translated y o.start (id_end (original s o.start o.len)) ≡ Some r → ended (original s o.start o.len) ≡ true → Keyed s r.key r.key_len
    told (Some d) f t =
        let q : record { key = o.start; key_len = id_end (original s o.start o.len); start = d.start; len = d.len } ≡ r = cc in
        rw (← q) (record { size = o.len; inside = n o refl; is = key_part s o.start o.len (n o refl) t })
    told None f t = absurd (never_entry f)
of_key s None y n e = absurd (never_entry e)

pub entry_key : (s : List ℕ) (t : Tables) (i : ℕ) {r : Entry} → entry s t i ≡ Some r → Keyed s r.key r.key_len
unfolding entry
entry_key s t i e =
    of_key s (string t.big s t.originals i) (string t.big s t.translations i) (λ o f. string_told t.big s t.originals i f) e
