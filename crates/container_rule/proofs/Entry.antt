-- Entry 0. Assumes nothing.
use Prim.Native.Nat.{ℕ, zero, suc, ◌+◌, ◌≤◌}
use mathlib.Core.Path.{◌≡◌, refl, sym, ap, ◌∙◌}
use mathlib.Core.Bool.{Bool, true, false, ◌||◌}
use mathlib.Core.List.{List}
use native.Mathlib.Omega.{arith}
use lib.ListN.{length}
use Rattle.std.specs.Prelude.{Option, Some, None, Result, Ok, Err}
use Rattle.text.specs.declared.Stretch.{Stretch}
use Rattle.header_fields.specs.Fields.{shift}
use Rattle.header.specs.Header.{metadata}
use Rattle.header.specs.declared.Metadata.{Metadata}
use Rattle.container_layout.specs.Mo.{segments}
use Rattle.container_layout.specs.declared.Tables.{Tables}
use Rattle.container_messages.specs.Messages.{read_at}
use Rattle.container_messages.specs.declared.Read.{Read}
use Rattle.container_messages.specs.declared.Read.TheVariants as read
use Rattle.container_messages.proofs.Entries.{header_inside}
use Rattle.container_rule.specs.Rule.{label_ok, headed, rule_at, segment0, shifted, no_header, first_of, first_from, first_rule, count_of, forms_read, forms_from, file_forms}
use Rattle.container_rule.specs.Promise.{end_of_rule}
use Rattle.container_rule.specs.declared.First.{First}
use Rattle.text.proofs.Tests.{taken, left, by_test}
use Rattle.refusal.specs.Places.{at, in_header}
use Rattle.refusal.specs.declared.Refusal.{Refusal}
use Rattle.refusal.specs.declared.Error.TheVariants.{UnknownEncoding}
use Rattle.container_rule.proofs.Headers.{at_end}

-- entry 0 as the code meets it
module _ (forced utf8 : Bool) (s : List ℕ) (t : Tables) where
  pub none_first : t.count ≡ 0 → Ok no_header ≡ first_rule forced utf8 s t
  unfolding first_rule
  none_first e = rw e

  some_first : (k : ℕ) → (k ≡ 0 → ⊥) → first_from forced utf8 s t k ≡ first_of forced utf8 s (read_at s t 0)
  some_first zero n = absurd (n refl)
  some_first (suc k) n = refl

  module _ (n : t.count ≡ 0 → ⊥) {q : Result Read Refusal} (e : q ≡ read_at s t 0) where
    pub first_told : {p : Result Read Refusal} → q ≡ p → first_of forced utf8 s p ≡ first_rule forced utf8 s t
    unfolding first_rule
    first_told f = sym (some_first t.count n ∙ ap (first_of forced utf8 s) (sym e ∙ f))

  -- its rule lies in the file
  from_end : (k : ℕ) → end_of_rule (first_from forced utf8 s t k) ≤ length s
  from_end zero = omega arith
  from_end (suc k) = ends (read_at s t 0) (λ p e. header_inside s t 0 e)
    where
      ends : (q : Result Read Refusal) → ((p : Stretch) → q ≡ Ok (read.Header p) → p.start + p.len + 1 ≤ length s) → end_of_rule (first_of forced utf8 s q) ≤ length s
      ends (Err e) n = omega arith
      ends (Ok read.Message) n = omega arith
      ends (Ok (read.Header p)) n = at_end s p.start p.len (omega (arith, n p refl)) forced utf8

  pub first_end : end_of_rule (first_rule forced utf8 s t) ≤ length s
  unfolding first_rule
  first_end = from_end t.count

pub header_fits : (s : List ℕ) (t : Tables) {q : Result Read Refusal} {p : Stretch} → q ≡ read_at s t 0 → q ≡ Ok (read.Header p) → p.start + p.len ≤ length s
header_fits s t e f = omega (arith, header_inside s t 0 (sym e ∙ f))

-- where entry 0 goes on, the count beside its rule is the file's
gone : {e : Refusal} {f : First} {A : Type 0} → Err e ≡ Ok f → A
gone e = absurd (let z : ◌≡◌ {A = ℕ} 0 1 = cc in omega arith)

module _ (forced utf8 : Bool) (s : List ℕ) (t : Tables) {f : First} where
  headed_forms : (k : ℕ) (h : List ℕ) (x : Option Metadata) → shifted k (headed forced utf8 h x) ≡ Ok f → f.forms ≡ count_of x
  headed_forms k h None e = gone e
  headed_forms k h (Some m) e =
      by_test (f.forms ≡ m.forms) (utf8 || label_ok h m.charset)
      (λ b. let z : record { rule = shift k (elim forced [ true ↦ None | false ↦ m.rule ]); forms = m.forms } ≡ f = cc (sym (ap (shifted k) (taken _ _ b)) ∙ e) in rw (← z))
      (λ b. gone (sym (ap (shifted k) (left (Ok (record { rule = elim forced [ true ↦ None | false ↦ m.rule ]; forms = m.forms })) (Err (at in_header UnknownEncoding)) b)) ∙ e))

  read_forms : (q : Result Read Refusal) → first_of forced utf8 s q ≡ Ok f → f.forms ≡ forms_read s q
  unfolding rule_at
  read_forms (Err x) e = gone e
  read_forms (Ok read.Message) e = let z : no_header ≡ f = cc in rw (← z)
  read_forms (Ok (read.Header p)) e = let h = segment0 (segments s p.start p.len) in headed_forms p.start h (metadata h) e

  from_forms : (k : ℕ) → first_from forced utf8 s t k ≡ Ok f → f.forms ≡ forms_from s t k
  from_forms zero e = let z : no_header ≡ f = cc in rw (← z)
  from_forms (suc k) e = read_forms (read_at s t 0) e

  pub first_forms : first_rule forced utf8 s t ≡ Ok f → f.forms ≡ file_forms s t
  unfolding first_rule file_forms
  first_forms e = from_forms t.count e
