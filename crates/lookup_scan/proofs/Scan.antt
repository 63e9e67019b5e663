-- The last entry with a key, as the scan from the last one down meets it. Assumes nothing.
use Prim.Native.Nat.{ℕ, suc, ◌+◌, ◌*◌, ◌<◌, ◌≤◌}
use mathlib.Core.Path.{◌≡◌, refl, sym, ap, subst, ◌∙◌}
use mathlib.Core.Bool.{Bool, true, false}
use mathlib.Core.List.{List}
use native.Mathlib.Omega.{arith}
use lib.ListN.{length, take, drop}
use lib.Dec.{eqb}
use borrow.Author.Tests.{leb-false, eqb-true, eqb-false}
use Rattle.text.specs.Bytes.{same}
use Rattle.text.proofs.Tests.{never, taken, left, by_test}
use Rattle.container_layout.specs.Mo.{entry}
use Rattle.container_layout.specs.declared.Entry.{Entry}
use Rattle.container_layout.proofs.Cells.{no_cell}
use Rattle.lookup_scan.specs.Keys.{is_key, hit_of, last_in, last_with}
use Rattle.lookup_scan.specs.Promise.{hit_if}
use Rattle.lookup_scan.specs.Private.{MayBe, LastMaybe, after, ScanFrom}
use Rattle.container_layout.specs.declared.Tables.{Tables}
use Rattle.lookup_scan.specs.declared.Hit.{Hit}
use Rattle.std.specs.Prelude.{Option, Some, None}
use Rattle.lookup_scan.proofs.Entries.{shorter, no_string}
use Rattle.lookup_scan.proofs.Last.{last_here, last_before, last_from, none_missing}

-- the entries from i on have not the key
pub record Passed (s : List ℕ) (t : Tables) (key : List ℕ) (i : ℕ) : Type 0 where
  pub is : last_with s t key ≡ last_in (entry s t) (is_key s key) i

module _ (s : List ℕ) (t : Tables) (key : List ℕ) where
  -- a key that is as long as the file has no entry
  pub too_long : length s ≤ length key → None ≡ last_with s t key
  too_long h = sym (none_missing s t key (λ i b. none i (is_key s key (entry s t i)) refl))
    where
      none : (i : ℕ) (b : Bool) → is_key s key (entry s t i) ≡ b → b ≡ false
      none i true e = absurd (omega (arith, shorter s t key i e))
      none i false e = refl

  pub passed_first : {r i : ℕ} → i ≡ r → ScanFrom s t r → Passed s t key i
  unfolding last_with
  passed_first {r} z q = record {
    is =
        last_from (entry s t) (is_key s key) r t.count q.few
        (λ i a b. no_string s t key i (sym (no_cell t.big s t.originals i (leb-false (t.originals + 8 * i + 8) (length s) (q.outside i a b)))))
        ∙ ap (last_in (entry s t) (is_key s key)) (sym z);
  }

  pub passed_end : {i : ℕ} → i ≡ 0 → Passed s t key i → None ≡ last_with s t key
  unfolding last_in
  passed_end z p = sym (p.is ∙ rw z)

  not_hit : (x : Option Entry) (i : ℕ) → is_key s key x ≡ true → hit_of i x ≡ None → ⊥
  not_hit (Some x) i e f = let z : ◌≡◌ {A = ℕ} 0 1 = cc in omega arith
  not_hit None i e f = never e

  -- entry i has the key, or it has not
  module _ (i : ℕ) where
    hit_true : is_key s key (entry s t i) ≡ true → hit_if s t key i ≡ hit_of i (entry s t i)
    unfolding hit_if
    hit_true e = taken _ _ e

    pub hit_false : is_key s key (entry s t i) ≡ false → None ≡ hit_if s t key i
    unfolding hit_if
    hit_false e = sym (left _ _ e)

    step_hit : {h : Hit} → hit_if s t key i ≡ Some h → last_in (entry s t) (is_key s key) (suc i) ≡ Some h
    step_hit {h} f =
        by_test (last_in (entry s t) (is_key s key) (suc i) ≡ Some h) (is_key s key (entry s t i))
        (λ e. last_here (entry s t) (is_key s key) i e ∙ sym (hit_true e) ∙ f)
        (λ e. let g = hit_false e ∙ f in let z : ◌≡◌ {A = ℕ} 0 1 = cc in absurd (omega arith))

    step_miss : hit_if s t key i ≡ None → last_in (entry s t) (is_key s key) (suc i) ≡ last_in (entry s t) (is_key s key) i
    step_miss f =
        by_test (last_in (entry s t) (is_key s key) (suc i) ≡ last_in (entry s t) (is_key s key) i) (is_key s key (entry s t i))
        (λ e. absurd (not_hit (entry s t i) i e (sym (hit_true e) ∙ f)))
        (λ e. last_before (entry s t) (is_key s key) i e)

  -- entry j is the last that is not passed
  module _ {i j : ℕ} {r : Option Hit} (z : i ≡ suc j) (e : r ≡ hit_if s t key j) (p : Passed s t key i) where
    pub passed_hit : {h : Hit} → r ≡ Some h → Some h ≡ last_with s t key
    passed_hit f = sym (p.is ∙ ap (last_in (entry s t) (is_key s key)) z ∙ step_hit j (sym e ∙ f))

    pub passed_miss : r ≡ None → Passed s t key j
    passed_miss f = record { is = p.is ∙ ap (last_in (entry s t) (is_key s key)) z ∙ step_miss j (sym e ∙ f) }

  -- what the quick test has passed, down to an entry that may have the key, or all
  module _ {i n : ℕ} {r : Option ℕ} (m : LastMaybe s t i n r) (l : length key ≡ n) (p : Passed s t key i) where
    passed_after : Passed s t key (after r)
    passed_after = record { is = p.is ∙ last_from (entry s t) (is_key s key) (after r) i m.within (λ j a b. m.no key l j a b) }

    pub passed_down : {j : ℕ} → r ≡ Some j → Passed s t key (suc j)
    passed_down e = subst (λ (k : ℕ). Passed s t key k) (ap after e) passed_after

    pub passed_all : r ≡ None → None ≡ last_with s t key
    passed_all e = passed_end (ap after e) passed_after

  -- the entry as the code has it
  pub told_key : (i : ℕ) {x : Entry} → entry s t i ≡ Some x → same key (take x.key_len (drop x.key s)) ≡ true
      → Some (record { entry = i; start = x.start; len = x.len }) ≡ hit_if s t key i
  told_key i e h =
      let q : is_key s key (entry s t i) ≡ true = ap (is_key s key) e ∙ h in
      sym (hit_true i q ∙ ap (hit_of i) e)

-- the entries from i on, below a place, have no key of n bytes
pub record Down (s : List ℕ) (t : Tables) (below n i : ℕ) : Type 0 where
  pub within : i ≤ below
  pub no : (key : List ℕ) → length key ≡ n → (j : ℕ) → i ≤ j → j < below → is_key s key (entry s t j) ≡ false

module _ (s : List ℕ) (t : Tables) (below n : ℕ) where
  pub down_first : {i : ℕ} → i ≡ below → Down s t below n i
  down_first z = record { within = omega (arith, z); no = λ key l j a b. absurd (omega (arith, z)) }

  -- what the quick test rules out is passed
  pub down_quick : {i j : ℕ} {r : Bool} → i ≡ suc j → MayBe s t j n r → r ≡ false → Down s t below n i → Down s t below n j
  down_quick {i} {j} z m f d = record {
    within = omega (arith, d.within);
    no = λ key l k a b. by_eq key l k a b;
  }
    where
      by_eq : (key : List ℕ) → length key ≡ n → (k : ℕ) → j ≤ k → k < below → is_key s key (entry s t k) ≡ false
      by_eq key l k a b =
          by_test (is_key s key (entry s t k) ≡ false) (eqb j k)
          (λ e. let q : j ≡ k = eqb-true j k e in ap (λ (x : ℕ). is_key s key (entry s t x)) (sym q) ∙ m.no f key l)
          (λ e. d.no key l k (let q = eqb-false j k e in omega arith) b)

  pub down_end : {i : ℕ} → i ≡ 0 → Down s t below n i → LastMaybe s t below n None
  down_end z d = record { within = omega arith; no = λ key l j a b. d.no key l j (omega arith) b }

  pub down_found : {i j : ℕ} → i ≡ suc j → Down s t below n i → LastMaybe s t below n (Some j)
  down_found z d = record { within = omega (arith, d.within); no = λ key l k a b. d.no key l k (omega arith) b }
