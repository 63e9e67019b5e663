-- THE THEOREM: the lookup's own reason is a function of why, so its number and its text are. And what is told beside: how many segments are
-- stored decides whether a form has one. Assumes nothing.
use Prim.Native.Nat.{ℕ, zero, suc, ◌+◌, ◌<◌, ◌≤◌}
use mathlib.Core.Path.{◌≡◌, refl, sym, ap, ◌∙◌}
use mathlib.Core.Bool.{Bool, true, false}
use mathlib.Core.List.{List, [], ◌∷◌}
use native.Mathlib.Omega.{arith}
use lib.ListN.{length}
use lib.Dec.{eqb, leb}
use borrow.Author.Tests.{leb-true}
use Rattle.rules.specs.Pool.{Pool}
use Rattle.rules.specs.Answer.{resolved_of}
use Rattle.rules.specs.declared.NoForm.{NoForm}
use Rattle.rules.specs.declared.NoForm.TheVariants as no_form
use Rattle.rules_zero.specs.Zero.{zero_at, traced, traced_of}
use Rattle.container_layout.specs.Mo.{piece_at, segment, segments}
use Rattle.container_layout.proofs.Forms.{segment_holds, segment_is}
use Rattle.container_layout.specs.declared.Tables.{Tables}
use Rattle.text.specs.declared.Stretch.{Stretch}
use Rattle.lookup_scan.specs.declared.Hit.{Hit}
use Rattle.std.specs.Prelude.{Option, Some, None, Result, Ok, Err}
use Rattle.lookup.specs.Lookup as lookup
use Rattle.lookup.specs.Lookup.{plural, number}
use Rattle.lookup.specs.Text.{plural_text}
use Rattle.lookup.specs.declared.Reason.{Reason}
use Rattle.lookup.specs.declared.Reason.TheVariants as reason
use Rattle.lookup_why.specs.Why.{stored, by_segment, by_entry, by_rule, why, reason_of}
use Rattle.lookup_why.specs.declared.Why.{Why}
use Rattle.lookup_why.specs.declared.Why.TheVariants.{StaleLength}

same_segment : (i k form : ℕ) (x : Option Stretch) → reason_of (by_segment i k form x) ≡ lookup.by_segment i form x
same_segment i k form (Some p) = refl
same_segment i k form None = refl

same_entry : (s : List ℕ) (form : ℕ) (h : Option Hit) → reason_of (by_entry s form h) ≡ lookup.by_entry s form h
same_entry s form (Some h) = same_segment h.entry (stored s h.start h.len) form (segment s h.start h.len form)
same_entry s form None = refl

same_rule : (s : List ℕ) (v : Result ℕ NoForm) (q : ℕ) (h : Option Hit) → reason_of (by_rule s (traced v q) h) ≡ lookup.by_rule s v h
same_rule s (Ok form) q h = same_entry s form h
same_rule s (Err no_form.ZeroModulus) q h = refl
same_rule s (Err no_form.NoTree) q h = refl

module _ (s : List ℕ) (t : Tables) (P : Pool) (nodes root n : ℕ) (h : Option Hit) where
  -- the reason of the lookup
  abbrev pub theirs : Reason
  theirs = plural s t (resolved_of P nodes root n) h

  -- and why
  abbrev pub ours : Why
  ours = why s t (traced_of P nodes root n) h

  pub why_true : theirs ≡ reason_of ours
  unfolding plural why traced_of
  why_true = go (eqb (length s) t.length)
    where
      go : (b : Bool)
          → ◌≡◌ {A = Reason}
          (elim b [ true ↦ lookup.by_rule s (resolved_of P nodes root n) h | false ↦ reason.StaleLength ])
          (reason_of (elim b [ true ↦ by_rule s (traced (resolved_of P nodes root n) (zero_at P n root)) h | false ↦ StaleLength ]))
      go true = sym (same_rule s (resolved_of P nodes root n) (zero_at P n root) h)
      go false = refl

  -- number and text
  pub why_number : number theirs ≡ number (reason_of ours)
  why_number = ap number why_true

  pub why_text : plural_text n theirs ≡ plural_text n (reason_of ours)
  why_text = ap (plural_text n) why_true

-- How many segments an entry stores: exactly the forms below have one.
none_past : (at k : ℕ) (ps : List (List ℕ)) → length ps ≤ k → piece_at at k ps ≡ None
unfolding piece_at
none_past at k [] h = refl
none_past at zero (p ∷ ps) h = absurd (omega arith)
none_past at (suc k) (p ∷ ps) h = none_past (at + length p + 1) k ps (omega arith)

module _ (s : List ℕ) (start len form : ℕ) where
  pub record Segment : Type 0 where
    pub at : ℕ
    pub size : ℕ
    pub is : segment s start len form ≡ Some (record { start = at; len = size })

  pub below_stored : form < stored s start len → Segment
  unfolding stored
  below_stored h = go (leb (start + len) (length s)) refl h
    where
      go : (b : Bool) → leb (start + len) (length s) ≡ b → form < elim b [ true ↦ length (segments s start len) | false ↦ 0 ] → Segment
      go true e l =
          let d = leb-true (start + len) (length s) e in
          let w = segment_holds s start len d form l in
          record { at = w.start; size = w.len; is = segment_is s start len d form ∙ w.is }
      go false e l = absurd (omega arith)

  pub past_stored : stored s start len ≤ form → segment s start len form ≡ None
  unfolding stored segment
  past_stored h = go (leb (start + len) (length s)) h
    where
      go : (b : Bool) → elim b [ true ↦ length (segments s start len) | false ↦ 0 ] ≤ form
          → ◌≡◌ {A = Option Stretch} (elim b [ true ↦ piece_at start form (segments s start len) | false ↦ None ]) None
      go true l = none_past start form (segments s start len) l
      go false l = refl
