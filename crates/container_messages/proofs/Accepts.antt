-- An entry as loading reads it, and the facts that it states: each way. Assumes nothing.
use Prim.Native.Nat.{ℕ}
use mathlib.Core.Path.{◌≡◌, refl, sym, ap, ap₂, ◌∙◌}
use mathlib.Core.Bool.{Bool, true, false}
use mathlib.Core.List.{List, [], ◌∷◌}
use native.Mathlib.Omega.{arith}
use lib.Dec.{eqb}
use borrow.Author.Tests.{eqb-true, eq-eqb}
use Rattle.text.specs.Cut.{every}
use Rattle.text.proofs.Tests.{taken, left, by_test}
use Rattle.text_utf8.specs.Utf8.{utf8}
use Rattle.refusal.specs.declared.Refusal.{Refusal}
use Rattle.refusal.specs.declared.Error.{Error}
use Rattle.refusal.specs.declared.Error.TheVariants.{Eof, DecodingError, MisplacedMetadata}
use Rattle.container_layout.specs.Mo.{string, original, context, id, ended, segments}
use Rattle.container_layout.specs.declared.Tables.{Tables}
use Rattle.text.specs.declared.Stretch.{Stretch}
use Rattle.std.specs.Prelude.{Option, Some, None, Result, Ok, Err}
use Rattle.container_messages.specs.Messages.{identified, original_of, original_in, translation_in, joined, read_at}
use Rattle.container_messages.specs.declared.Original.{Original}
use Rattle.container_messages.specs.declared.Original.TheVariants as original
use Rattle.container_messages.specs.declared.Read.TheVariants as read
use Rattle.container_messages.specs.Good.{Good}

-- the three tests of an original, in their order
ladder : Bool → Bool → Bool → Result Original Error → Result Original Error
ladder a b c q = elim a [
  | false ↦ Err DecodingError
  | true ↦ elim b [ false ↦ Err Eof | true ↦ elim c [ false ↦ Err DecodingError | true ↦ q ] ]
]

abbrev Kept : Result Original Error → Type 0
Kept q = (x : Error) → q ≡ Err x → ⊥

record Passed (a b c : Bool) (q : Result Original Error) : Type 0 where
  first : a ≡ true
  second : b ≡ true
  third : c ≡ true
  last : Kept q

passed : (a b c : Bool) (q : Result Original Error) → Kept (ladder a b c q) → Passed a b c q
unfolding ladder
passed true true true q n = record { first = refl; second = refl; third = refl; last = n }
passed true true false q n = absurd (n DecodingError refl)
passed true false c q n = absurd (n Eof refl)
passed false b c q n = absurd (n DecodingError refl)

-- an original that is not refused, by its id
kept_named : (i : ℕ) (l : List ℕ) → Kept (identified i l) → l ≡ [] → i ≡ 0
kept_named i [] n e =
    by_test (i ≡ 0) (eqb i 0) (λ t. eqb-true i 0 t)
    (λ t. absurd (n MisplacedMetadata (left (Ok original.Empty) (Err MisplacedMetadata) t)))
kept_named i (b ∷ l) n e = absurd (let z : ◌≡◌ {A = ℕ} 0 1 = cc in omega arith)

at_zero : (i : ℕ) → i ≡ 0 → identified i [] ≡ Ok original.Empty
at_zero i e = taken (Ok original.Empty) (Err MisplacedMetadata) (eq-eqb i 0 e)

kept_translation : (i : ℕ) (s : List ℕ) (v : Option Stretch) (o : Result Original Error) → ((x : Refusal) → joined i o (translation_in s v) ≡ Err x → ⊥) → (x : Error) → translation_in s v ≡ Err x → ⊥
kept_translation i s v o n x e = by_original o n
  where
    by_original : (o : Result Original Error) → ((y : Refusal) → joined i o (translation_in s v) ≡ Err y → ⊥) → ⊥
    by_original (Err y) m = m _ refl
    by_original (Ok original.Named) m = m _ (ap (joined i (Ok original.Named)) e)
    by_original (Ok original.Empty) m = m _ (ap (joined i (Ok original.Empty)) e)

kept_original : (i : ℕ) (o : Result Original Error) (t : Result Stretch Error) → ((x : Refusal) → joined i o t ≡ Err x → ⊥) → Kept o
kept_original i o t n x e = n _ (ap (λ (q : Result Original Error). joined i q t) e)

is_ladder : (i : ℕ) (o : List ℕ) → original_of i o ≡ ladder (utf8 (context o)) (ended o) (utf8 (id o)) (identified i (id o))
unfolding original_of ladder
is_ladder i o = refl

through : {a b c : Bool} {q : Result Original Error} → a ≡ true → b ≡ true → c ≡ true → ladder a b c q ≡ q
unfolding ladder
through e f g = rw (e, f, g)

as_ladder : (i : ℕ) (o : List ℕ) → Kept (original_of i o) → Kept (ladder (utf8 (context o)) (ended o) (utf8 (id o)) (identified i (id o)))
as_ladder i o h x e = h x (is_ladder i o ∙ e)

module _ (s : List ℕ) (t : Tables) (i : ℕ) where
  -- the facts, from an entry that is not refused
  by_strings : (u v : Option Stretch) → string t.big s t.originals i ≡ u → string t.big s t.translations i ≡ v
      → ((x : Refusal) → joined i (original_in s i u) (translation_in s v) ≡ Err x → ⊥) → Good s t i
  by_strings None v e f n = absurd (n _ refl)
  by_strings (Some o) None e f n = absurd (kept_translation i s None (original_in s i (Some o)) n Eof refl)
  by_strings (Some o) (Some r) e f n =
      let p = passed (utf8 (context (original s o.start o.len))) (ended (original s o.start o.len)) (utf8 (id (original s o.start o.len))) (identified i (id (original s o.start o.len)))
      (as_ladder i (original s o.start o.len) (kept_original i (original_of i (original s o.start o.len)) (translation_in s (Some r)) n)) in
      record {
        at = o.start;
        len = o.len;
        original_lies = e;
        context_right = p.first;
        id_ends = p.second;
        id_right = p.third;
        named = kept_named i (id (original s o.start o.len)) p.last;
        start = r.start;
        size = r.len;
        translation_lies = f;
        segments_right =
            by_test (every utf8 (segments s r.start r.len) ≡ true) (every utf8 (segments s r.start r.len)) (λ g. g)
            (λ g. absurd (kept_translation i s (Some r) (original_of i (original s o.start o.len)) n DecodingError (left (Ok r) (Err DecodingError) g)));
      }

  pub read_good : ((x : Refusal) → read_at s t i ≡ Err x → ⊥) → Good s t i
  unfolding read_at
  read_good n = by_strings (string t.big s t.originals i) (string t.big s t.translations i) refl refl n

  -- and back: an entry with these facts is a message, or with an empty id the header
  module _ (g : Good s t i) where
    by_id : original_of i (original s g.at g.len) ≡ identified i (id (original s g.at g.len))
    by_id = is_ladder i (original s g.at g.len) ∙ through g.context_right g.id_ends g.id_right

    right_translation : translation_in s (string t.big s t.translations i) ≡ Ok (record { start = g.start; len = g.size })
    right_translation = ap (translation_in s) g.translation_lies ∙ taken (Ok (record { start = g.start; len = g.size })) (Err DecodingError) g.segments_right

    as_read : {q : Result Original Error} → identified i (id (original s g.at g.len)) ≡ q → read_at s t i ≡ joined i q (Ok (record { start = g.start; len = g.size }))
    unfolding read_at
    as_read e = ap₂ (joined i) (ap (original_in s i) g.original_lies ∙ by_id ∙ e) right_translation

    pub good_header : id (original s g.at g.len) ≡ [] → read_at s t i ≡ Ok (read.Header (record { start = g.start; len = g.size }))
    good_header e = as_read (ap (identified i) e ∙ at_zero i (g.named e))

    pub good_message : (id (original s g.at g.len) ≡ [] → ⊥) → read_at s t i ≡ Ok read.Message
    good_message n = as_read (by_list (id (original s g.at g.len)) n)
      where
        by_list : (l : List ℕ) → (l ≡ [] → ⊥) → identified i l ≡ Ok original.Named
        by_list [] m = absurd (m refl)
        by_list (b ∷ l) m = refl

    -- which of the two it is can be told
    pub good_either : {C : Type 0} → (id (original s g.at g.len) ≡ [] → C) → ((id (original s g.at g.len) ≡ [] → ⊥) → C) → C
    good_either {C} x y = by_list (id (original s g.at g.len)) refl
      where
        by_list : (l : List ℕ) → id (original s g.at g.len) ≡ l → C
        by_list [] e = x e
        by_list (b ∷ l) e = y (λ f. let d : ◌≡◌ {A = List ℕ} (b ∷ l) [] = sym e ∙ f in let z : ◌≡◌ {A = ℕ} 0 1 = cc in omega arith)
