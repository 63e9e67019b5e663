-- Entries as they were read: only entry 0 is a header, and one that is not refused is an entry with UTF-8 segments. Assumes nothing.
use Prim.Native.Nat.{ℕ, ◌+◌, ◌≤◌}
use mathlib.Core.Path.{◌≡◌, refl, sym, ap, ap₂, ◌∙◌}
use mathlib.Core.Bool.{true}
use mathlib.Core.List.{List, [], ◌∷◌}
use native.Mathlib.Omega.{arith}
use lib.ListN.{length}
use lib.Dec.{eqb}
use borrow.Author.Tests.{eqb-true}
use Rattle.text_utf8.specs.Utf8.{utf8}
use Rattle.text.specs.Cut.{every}
use Rattle.text.proofs.Tests.{taken, left, by_test}
use Rattle.container_layout.specs.Mo.{string, original, context, id, id_end, ended, segments, translated, keyed, entry}
use Rattle.container_layout.specs.declared.Tables.{Tables}
use Rattle.text.specs.declared.Stretch.{Stretch}
use Rattle.std.specs.Prelude.{Option, Some, None, Result, Ok, Err}
use Rattle.container_layout.specs.declared.Entry.{Entry}
use Rattle.container_layout.proofs.Cells.{string_told}
use Rattle.container_messages.specs.Messages.{identified, original_of, original_in, translation_in, refused_on, joined, read_at}
use Rattle.refusal.specs.declared.Refusal.{Refusal}
use Rattle.refusal.specs.declared.Side.TheVariants as side
use Rattle.refusal.specs.declared.Error.{Error}
use Rattle.refusal.specs.declared.Error.TheVariants.{Eof, DecodingError, MisplacedMetadata}
use Rattle.container_messages.specs.declared.Original.{Original}
use Rattle.container_messages.specs.declared.Original.TheVariants as original
use Rattle.container_messages.specs.declared.Read.TheVariants as read

-- what a header's parts are
joined_header : (i : ℕ) (o : Result Original Error) (t : Result Stretch Error) {p : Stretch} → joined i o t ≡ Ok (read.Header p) → (o ≡ Ok original.Empty) × (t ≡ Ok p)
joined_header i (Err x) t e = absurd (let z : ◌≡◌ {A = ℕ} 0 1 = cc in omega arith)
joined_header i (Ok original.Named) (Ok q) e = absurd (let z : ◌≡◌ {A = ℕ} 0 1 = cc in omega arith)
joined_header i (Ok original.Named) (Err x) e = absurd (let z : ◌≡◌ {A = ℕ} 0 1 = cc in omega arith)
joined_header i (Ok original.Empty) (Ok q) e = (refl, cc)
joined_header i (Ok original.Empty) (Err x) e = absurd (let z : ◌≡◌ {A = ℕ} 0 1 = cc in omega arith)

pub translation_at_lem : (s : List ℕ) (z : Option Stretch) {p : Stretch} → translation_in s z ≡ Ok p → z ≡ Some p
translation_at_lem s (Some q) {p} e =
    by_test (Some q ≡ Some p) (every utf8 (segments s q.start q.len))
    (λ t. let f : ◌≡◌ {A = Result Stretch Error} (Ok q) (Ok p) = sym (taken _ _ t) ∙ e in cc)
    (λ t. let f : ◌≡◌ {A = Result Stretch Error} (Err DecodingError) (Ok p) = sym (left _ _ t) ∙ e in absurd (let z : ◌≡◌ {A = ℕ} 0 1 = cc in omega arith))
translation_at_lem s None e = absurd (let z : ◌≡◌ {A = ℕ} 0 1 = cc in omega arith)

identified_empty : (i : ℕ) (l : List ℕ) → identified i l ≡ Ok original.Empty → i ≡ 0
identified_empty i [] e =
    by_test (i ≡ 0) (eqb i 0)
    (λ t. eqb-true i 0 t)
    (λ t. let q : ◌≡◌ {A = Result Original Error} (Err MisplacedMetadata) (Ok original.Empty) = sym (left _ _ t) ∙ e in absurd (let z : ◌≡◌ {A = ℕ} 0 1 = cc in omega arith))
identified_empty i (b ∷ l) e = absurd (let z : ◌≡◌ {A = ℕ} 0 1 = cc in omega arith)

-- an original that is not refused has an id that ends
pub record Passed (i : ℕ) (o : List ℕ) (r : Result Original Error) : Type 0 where
  pub ends : ended o ≡ true
  pub is : identified i (id o) ≡ r

pub original_passed : (i : ℕ) (o : List ℕ) {r : Result Original Error} → original_of i o ≡ r → ((x : Error) → r ≡ Err x → ⊥) → Passed i o r
unfolding original_of
original_passed i o {r} e n =
    by_test (Passed i o r) (utf8 (context o))
    (λ t.
    by_test (Passed i o r) (ended o)
    (λ u.
    by_test (Passed i o r) (utf8 (id o))
    (λ v. record { ends = u; is = sym (taken _ _ t ∙ taken _ _ u ∙ taken _ _ v) ∙ e })
    (λ v. absurd (n DecodingError (sym e ∙ taken _ _ t ∙ taken _ _ u ∙ left _ _ v))))
    (λ u. absurd (n Eof (sym e ∙ taken _ _ t ∙ left _ _ u))))
    (λ t. absurd (n DecodingError (sym e ∙ left _ _ t)))

empty_first : (s : List ℕ) (i : ℕ) (z : Option Stretch) → original_in s i z ≡ Ok original.Empty → i ≡ 0
empty_first s i (Some o) e =
    identified_empty i (id (original s o.start o.len))
    (original_passed i (original s o.start o.len) e (λ x q. let z : ◌≡◌ {A = ℕ} 0 1 = cc in omega arith)).is
empty_first s i None e = absurd (let z : ◌≡◌ {A = ℕ} 0 1 = cc in omega arith)

module _ (s : List ℕ) (t : Tables) where
  pub header_inside : (i : ℕ) {p : Stretch} → read_at s t i ≡ Ok (read.Header p) → p.start + p.len + 1 ≤ length s
  unfolding read_at
  header_inside i e =
      string_told t.big s t.translations i
      (translation_at_lem s (string t.big s t.translations i)
      (joined_header i (original_in s i (string t.big s t.originals i)) (translation_in s (string t.big s t.translations i)) e).1)

  pub header_first : (i : ℕ) {p : Stretch} → read_at s t i ≡ Ok (read.Header p) → i ≡ 0
  unfolding read_at
  header_first i e =
      empty_first s i (string t.big s t.originals i)
      (joined_header i (original_in s i (string t.big s t.originals i)) (translation_in s (string t.big s t.translations i)) e).0

  -- an original, then a translation
  module _ (i : ℕ) {q : Result Original Error} (e : q ≡ original_in s i (string t.big s t.originals i)) where
    pub read_refused : {x : Error} → q ≡ Err x → refused_on i side.Original x ≡ read_at s t i
    unfolding read_at
    read_refused f = sym (ap (λ (p : Result Original Error). joined i p (translation_in s (string t.big s t.translations i))) (sym e ∙ f))

    pub read_joined : {p : Original} {u v : Result Stretch Error} → q ≡ Ok p → u ≡ translation_in s (string t.big s t.translations i) → u ≡ v → joined i (Ok p) v ≡ read_at s t i
    unfolding read_at
    read_joined f g h = sym (ap₂ (joined i) (sym e ∙ f) (sym g ∙ h))

    pub read_wrong : {p : Original} {u : Result Stretch Error} {x : Error} → q ≡ Ok p → u ≡ translation_in s (string t.big s t.translations i) → u ≡ Err x → refused_on i side.Translation x ≡ read_at s t i
    read_wrong {p} {u} {x} f g h = by_original p ∙ read_joined f g h
      where
        by_original : (p : Original) → refused_on i side.Translation x ≡ joined i (Ok p) (Err x)
        by_original original.Named = refl
        by_original original.Empty = refl

-- an entry that was read has an original and a translation
record Both (o : Result Original Error) (t : Result Stretch Error) : Type 0 where
  kept : (x : Error) → o ≡ Err x → ⊥
  text : Stretch
  at : t ≡ Ok text

both : (i : ℕ) (o : Result Original Error) (t : Result Stretch Error) → ((x : Refusal) → joined i o t ≡ Err x → ⊥) → Both o t
both i (Err x) t n = absurd (n _ refl)
both i (Ok original.Named) (Ok p) n = record { kept = λ x q. let z : ◌≡◌ {A = ℕ} 0 1 = cc in omega arith; text = p; at = refl }
both i (Ok original.Named) (Err x) n = absurd (n _ refl)
both i (Ok original.Empty) (Ok p) n = record { kept = λ x q. let z : ◌≡◌ {A = ℕ} 0 1 = cc in omega arith; text = p; at = refl }
both i (Ok original.Empty) (Err x) n = absurd (n _ refl)

-- an entry, with its places
pub record IsEntry (e : Option Entry) : Type 0 where
  pub entry : Entry
  pub is : e ≡ Some entry

keyed_entry : (s : List ℕ) (i : ℕ) (u v : Option Stretch) → Both (original_in s i u) (translation_in s v) → IsEntry (keyed s u v)
keyed_entry s i (Some o) v h =
    let p = original_passed i (original s o.start o.len) refl h.kept in
    record {
      entry = record { key = o.start; key_len = id_end (original s o.start o.len); start = h.text.start; len = h.text.len };
      is = taken _ _ p.ends ∙ ap (λ (z : Option Stretch). translated z o.start (id_end (original s o.start o.len))) (translation_at_lem s v h.at);
    }
keyed_entry s i None v h = absurd (h.kept Eof refl)

pub read_entry : (s : List ℕ) (t : Tables) (i : ℕ) → ((z : Refusal) → read_at s t i ≡ Err z → ⊥) → IsEntry (entry s t i)
unfolding read_at entry
read_entry s t i e =
    keyed_entry s i (string t.big s t.originals i) (string t.big s t.translations i) (both i (original_in s i (string t.big s t.originals i)) (translation_in s (string t.big s t.translations i)) e)

-- an entry that was read has a translation whose segments are all UTF-8
record Right (s : List ℕ) (z : Option Stretch) : Type 0 where
  text : Stretch
  at : z ≡ Some text
  right : every utf8 (segments s text.start text.len) ≡ true

right_in : (i : ℕ) (o : Result Original Error) (s : List ℕ) (z : Option Stretch) → ((x : Refusal) → joined i o (translation_in s z) ≡ Err x → ⊥) → Right s z
right_in i o s z n =
    let h = both i o (translation_in s z) n in
    let e = translation_at_lem s z h.at in
    record { text = h.text; at = e; right = all_right h.text (sym (ap (translation_in s) e) ∙ h.at) }
  where
    all_right : (p : Stretch) → translation_in s (Some p) ≡ Ok p → every utf8 (segments s p.start p.len) ≡ true
    all_right p f =
        by_test (every utf8 (segments s p.start p.len) ≡ true) (every utf8 (segments s p.start p.len))
        (λ t. t)
        (λ t. let q : ◌≡◌ {A = Result Stretch Error} (Err DecodingError) (Ok p) = sym (left _ _ t) ∙ f in absurd (let z : ◌≡◌ {A = ℕ} 0 1 = cc in omega arith))

keyed_right : (s : List ℕ) (u v : Option Stretch) → Right s v → {r : Entry} → keyed s u v ≡ Some r → every utf8 (segments s r.start r.len) ≡ true
keyed_right s (Some o) v h {r} e =
    by_test (every utf8 (segments s r.start r.len) ≡ true) (ended (original s o.start o.len))
    (λ t.
    let q : record { key = o.start; key_len = id_end (original s o.start o.len); start = h.text.start; len = h.text.len } ≡ r =
    cc (sym (taken _ _ t ∙ ap (λ (z : Option Stretch). translated z o.start (id_end (original s o.start o.len))) h.at) ∙ e) in
    rw (← q) h.right)
    (λ t.
    let q : ◌≡◌ {A = Option Entry} None (Some r) = sym (left (translated v o.start (id_end (original s o.start o.len))) None t) ∙ e in
    absurd (let z : ◌≡◌ {A = ℕ} 0 1 = cc in omega arith))
keyed_right s None v h e = absurd (let z : ◌≡◌ {A = ℕ} 0 1 = cc in omega arith)

pub read_right : (s : List ℕ) (t : Tables) (i : ℕ) → ((z : Refusal) → read_at s t i ≡ Err z → ⊥) → {r : Entry}
    → entry s t i ≡ Some r → every utf8 (segments s r.start r.len) ≡ true
unfolding read_at entry
read_right s t i n e =
    keyed_right s (string t.big s t.originals i) (string t.big s t.translations i) (right_in i (original_in s i (string t.big s t.originals i)) s (string t.big s t.translations i) n) e
