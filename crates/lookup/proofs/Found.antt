-- Where an answer comes from, however its entry was found, in any record and any file: the file's length is the record's, the form is the
-- rule's value, and the segment is the one that this form names in an entry below the count that has the key. So it lies in the file, and
-- a host may take it from there. Assumes nothing.
use Prim.Native.Nat.{ℕ, zero, suc, ◌+◌, ◌≤◌}
use mathlib.Core.Path.{◌≡◌, refl, sym, ap, ◌∙◌}
use mathlib.Core.List.{List, [], ◌∷◌}
use native.Mathlib.Omega.{arith}
use lib.ListN.{length, get_or, take, drop}
use lib.Dec.{eqb, leb, ltb}
use borrow.Author.Tests.{eqb-true, leb-true, ltb-true, ltb-false}
use Rattle.text.proofs.Tests.{taken, left, by_test}
use Rattle.rules.specs.declared.NoForm.{NoForm}
use Rattle.rules.specs.declared.NoForm.TheVariants as no_form
use Rattle.container_layout.specs.Mo.{piece_at, segment, segments}
use Rattle.container_layout.specs.declared.Tables.{Tables}
use Rattle.text.specs.declared.Stretch.{Stretch}
use Rattle.container_layout.proofs.Forms.{segment_holds, segment_is}
use Rattle.lookup_scan.specs.Keys.{last_with}
use Rattle.lookup_scan.specs.declared.Hit.{Hit}
use Rattle.std.specs.Prelude.{Option, Some, None, Result, Ok, Err}
use Rattle.lookup_scan.proofs.Last.{Entered, Sound, last_sound}
use Rattle.lookup.specs.Lookup.{by_segment, by_rule, plural}
use Rattle.lookup.specs.declared.Reason.TheVariants.{StaleLength, Answered}

-- an answer names the hit and the rule's value
pub record Answer (s : List ℕ) (t : Tables) (v : Result ℕ NoForm) (h : Option Hit) (i form at size : ℕ) : Type 0 where
  pub long : length s ≡ t.length
  pub value : v ≡ Ok form
  pub start : ℕ
  pub len : ℕ
  pub hit : h ≡ Some (record { entry = i; start = start; len = len })
  pub segment : segment s start len form ≡ Some (record { start = at; len = size })

module _ (s : List ℕ) (t : Tables) {i form at size : ℕ} where
  by_segment_lem : (g : ℕ) (h : Hit) (x : Option Stretch) → length s ≡ t.length → segment s h.start h.len g ≡ x → by_segment h.entry g x ≡ Answered i form at size
      → Answer s t (Ok g) (Some h) i form at size
  by_segment_lem g h None l e f = let z : ◌≡◌ {A = ℕ} 0 1 = cc in absurd (omega arith)
  by_segment_lem g h (Some p) l e f =
      let j : h.entry ≡ i = cc in
      let q : g ≡ form = cc in
      let x : p.start ≡ at = cc in
      let y : p.len ≡ size = cc in
      record {
        long = l;
        value = ap Ok q;
        start = h.start;
        len = h.len;
        hit = ap (λ (k : ℕ). Some (record { entry = k; start = h.start; len = h.len })) j;
        segment = rw (← q, ← x, ← y) e;
      }

  by_rule_lem : (v : Result ℕ NoForm) (h : Option Hit) → length s ≡ t.length → by_rule s v h ≡ Answered i form at size → Answer s t v h i form at size
  by_rule_lem (Ok g) (Some h) l f = by_segment_lem g h (segment s h.start h.len g) l refl f
  by_rule_lem (Ok g) None l f = let z : ◌≡◌ {A = ℕ} 0 1 = cc in absurd (omega arith)
  by_rule_lem (Err no_form.ZeroModulus) h l f = let z : ◌≡◌ {A = ℕ} 0 1 = cc in absurd (omega arith)
  by_rule_lem (Err no_form.NoTree) h l f = let z : ◌≡◌ {A = ℕ} 0 1 = cc in absurd (omega arith)

  pub answered : (v : Result ℕ NoForm) (h : Option Hit) → plural s t v h ≡ Answered i form at size → Answer s t v h i form at size
  unfolding plural
  answered v h f =
      by_test (Answer s t v h i form at size) (eqb (length s) t.length)
      (λ e. by_rule_lem v h (eqb-true _ _ e) (sym (taken _ _ e) ∙ f))
      (λ e. let w = sym (left (by_rule s v h) StaleLength e) ∙ f in let z : ◌≡◌ {A = ℕ} 0 1 = cc in absurd (omega arith))

-- the entry of a segment, and its translation
pub record Found (s : List ℕ) (t : Tables) (key : List ℕ) (v : Result ℕ NoForm) (i form at size : ℕ) : Type 0 where
  pub value : v ≡ Ok form
  pub start : ℕ
  pub len : ℕ
  pub entered : Entered s t key (record { entry = i; start = start; len = len })
  pub segment : segment s start len form ≡ Some (record { start = at; len = size })

module _ (s : List ℕ) (t : Tables) (key : List ℕ) (v : Result ℕ NoForm) {i form at size : ℕ} where
  pub found : {h : Option Hit} → Sound s t key h → plural s t v h ≡ Answered i form at size → Found s t key v i form at size
  found {h} w f =
      let a = answered s t v h f in
      record { value = a.value; start = a.start; len = a.len; entered = w.told (record { entry = i; start = a.start; len = a.len }) a.hit; segment = a.segment }

  -- by the scan
  pub last_found : plural s t v (last_with s t key) ≡ Answered i form at size → Found s t key v i form at size
  last_found f = found (last_sound s t key) f

-- there is no piece past the last
no_piece : (at k : ℕ) (ps : List (List ℕ)) → length ps ≤ k → piece_at at k ps ≡ None
unfolding piece_at
no_piece at k [] h = refl
no_piece at zero (p ∷ ps) h = absurd (omega arith)
no_piece at (suc k) (p ∷ ps) h = no_piece (at + length p + 1) k ps (omega arith)

-- a segment that was found lies in the file, and is the one that the form names
pub record Told (s : List ℕ) (start len form at size : ℕ) : Type 0 where
  pub inside : at + size ≤ length s
  pub text : take size (drop at s) ≡ get_or (segments s start len) form []

pub segment_told : (s : List ℕ) (start len form : ℕ) {at size : ℕ} → segment s start len form ≡ Some (record { start = at; len = size }) → Told s start len form at size
unfolding segment
segment_told s start len form {at} {size} f =
    by_test (Told s start len form at size) (leb (start + len) (length s))
    (λ e.
    by_test (Told s start len form at size) (ltb form (length (segments s start len)))
    (λ g.
    let h = segment_holds s start len (leb-true _ _ e) form (ltb-true _ _ g) in
    let w : ◌≡◌ {A = Option Stretch} (Some (record { start = h.start; len = h.len })) (Some (record { start = at; len = size })) = sym (segment_is s start len (leb-true _ _ e) form ∙ h.is) ∙ f in
    let z : ◌≡◌ {A = Stretch} (record { start = h.start; len = h.len }) (record { start = at; len = size }) = cc in
    let x : h.start ≡ at = ap (λ (p : Stretch). p.start) z in
    let y : h.len ≡ size = ap (λ (p : Stretch). p.len) z in
    record { inside = omega (arith, h.inside); text = rw (← x, ← y) h.text })
    (λ g.
    let w : ◌≡◌ {A = Option Stretch} None (Some (record { start = at; len = size })) = sym (taken _ _ e ∙ no_piece start form (segments s start len) (ltb-false _ _ g)) ∙ f in
    absurd (let z : ◌≡◌ {A = ℕ} 0 1 = cc in omega arith)))
    (λ e. let w : ◌≡◌ {A = Option Stretch} None (Some (record { start = at; len = size })) = sym (left _ _ e) ∙ f in absurd (let z : ◌≡◌ {A = ℕ} 0 1 = cc in omega arith))
