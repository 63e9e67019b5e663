-- What a host may rely on when it takes a segment from the file. `answer_inside`: for any record and any file, the segment that a lookup
-- names lies in the file. `answer_right`: with the record that the load of that very file returned, it is UTF-8. `empty_absent`: the
-- empty record has none. `plural_inside` and so on say the same of a lookup with a count, and `slots_inside` and so on of one in any lent
-- slots. All are over the answer as the host gets it; that the four lookups return it is in their contracts. Assumes nothing.
use Prim.Native.Nat.{ℕ, zero, suc, ◌+◌, ◌≤◌}
use mathlib.Core.Path.{◌≡◌, refl, ap, ◌∙◌}
use mathlib.Core.Bool.{true}
use mathlib.Core.List.{List, [], ◌∷◌}
use native.Mathlib.Omega.{arith}
use lib.ListN.{length, take, drop, get_or}
use Rattle.std.specs.Prelude.{Result, Ok}
use Rattle.text_utf8.specs.Utf8.{utf8}
use Rattle.text_utf8.proofs.Texts.{empty_right}
use Rattle.text.specs.Cut.{every}
use Rattle.text.proofs.Tests.{and_left, and_right}
use Rattle.rules.specs.Pool.{Pool}
use Rattle.rules.specs.Answer.{resolved_of}
use Rattle.rules.specs.declared.NoForm.{NoForm}
use Rattle.container_layout.specs.declared.Tables.{Tables}
use Rattle.lookup_scan.specs.Keys.{last_with}
use Rattle.lookup_index.specs.Index.{sought_in}
use Rattle.lookup.specs.Lookup.{plural, plural_in}
use Rattle.lookup.specs.declared.Reason.{Reason}
use Rattle.lookup.specs.declared.Reason.TheVariants as reason
use Rattle.lookup.proofs.Found.{Found, last_found, segment_told}
use Rattle.lookup.proofs.Indexed.{any_slots}
use Rattle.container.specs.Catalog.{load}
use Rattle.container.specs.declared.Options.{Options}
use Rattle.container.proofs.Accepted.{every_right}
use Rattle.host.specs.Host.{tables_in, nodes_in, root_in, answer_of}
use Rattle.host.specs.declared.Loaded.{Loaded}
use Rattle.gettext_c.specs.Record.{Loads, IsEmpty, found, counted}
use Rattle.gettext_c.proofs.Fresh.{was_accepted}

-- the caller's own text is 1 or 2
pub data Own : ℕ → Type 0 where
  id : Own 1
  plural_id : Own 2

-- an answer with which 0 is a segment
record IsSegment (own : ℕ) (a : Reason) : Type 0 where
  i : ℕ
  form : ℕ
  is : a ≡ reason.Answered i form (answer_of own a).start (answer_of own a).len

own_not_0 : {own : ℕ} → Own own → own ≡ 0 → ⊥
own_not_0 id e = omega arith
own_not_0 plural_id e = omega arith

segment_0 : {own : ℕ} → Own own → (a : Reason) → (answer_of own a).which ≡ 0 → IsSegment own a
segment_0 w (reason.Answered i form start len) e = record { i = i; form = form; is = refl }
segment_0 w reason.StaleLength e = absurd (own_not_0 w e)
segment_0 w reason.NoTree e = absurd (own_not_0 w e)
segment_0 w reason.IndexRoom e = absurd (own_not_0 w e)
segment_0 w reason.ZeroModulus e = absurd (own_not_0 w e)
segment_0 w reason.NoEntry e = absurd (own_not_0 w e)
segment_0 w (reason.TooFewSegments i) e = absurd (own_not_0 w e)

one_right : (ps : List (List ℕ)) (k : ℕ) → every utf8 ps ≡ true → utf8 (get_or ps k []) ≡ true
unfolding every
one_right [] k e = empty_right
one_right (p ∷ ps) zero e = and_left (utf8 p) (every utf8 ps) e
one_right (p ∷ ps) (suc k) e = one_right ps k (and_right (utf8 p) (every utf8 ps) e)

-- a is the answer of a lookup by a search that finds only entries with the key; the rule's value is v, form 0 without a count
record Founded (s h key : List ℕ) (v : Result ℕ NoForm) (a : Reason) : Type 0 where
  told : (i form at size : ℕ) → a ≡ reason.Answered i form at size → Found s (tables_in h) key v i form at size

-- any record
module _ (s h key : List ℕ) (v : Result ℕ NoForm) (a : Reason) (sound : Founded s h key v a) {own : ℕ} (w : Own own) where
  by_search : (e : (answer_of own a).which ≡ 0) → Found s (tables_in h) key v (segment_0 w a e).i (segment_0 w a e).form (answer_of own a).start (answer_of own a).len
  by_search e = sound.told _ _ _ _ (segment_0 w a e).is

  inside : (answer_of own a).which ≡ 0 → (answer_of own a).start + (answer_of own a).len ≤ length s
  inside e = let x = by_search e in (segment_told s x.start x.len (segment_0 w a e).form x.segment).inside

  none : (tables_in h).count ≡ 0 → (answer_of own a).which ≡ 0 → ⊥
  none z e = omega (arith, (by_search e).entered.below)

-- by the scan, and by any slots
abbrev scanned : List ℕ → List ℕ → List ℕ → Result ℕ NoForm → Reason
scanned s h key v = plural s (tables_in h) v (last_with s (tables_in h) key)

abbrev pub in_slots : List ℕ → List ℕ → List ℕ → List ℕ → Result ℕ NoForm → Reason
in_slots s h slots key v = plural_in s (tables_in h) v (sought_in s (tables_in h) slots key)

by_scan : (s h key : List ℕ) (v : Result ℕ NoForm) → Founded s h key v (scanned s h key v)
by_scan s h key v = record { told = λ i form at size e. last_found s (tables_in h) key v e }

by_slots_lem : (s h slots key : List ℕ) (v : Result ℕ NoForm) → Founded s h key v (in_slots s h slots key v)
by_slots_lem s h slots key v = record { told = λ i form at size e. any_slots s (tables_in h) v slots key e }

pub answer_inside : (s h key : List ℕ) → (answer_of 1 (found s h key)).which ≡ 0 → (answer_of 1 (found s h key)).start + (answer_of 1 (found s h key)).len ≤ length s
answer_inside s h key e = inside s h key (Ok 0) (found s h key) (by_scan s h key (Ok 0)) id e

pub plural_inside : (s h : List ℕ) (P : Pool) (key : List ℕ) (n : ℕ) {own : ℕ} → Own own → (answer_of own (counted s h P key n)).which ≡ 0
    → (answer_of own (counted s h P key n)).start + (answer_of own (counted s h P key n)).len ≤ length s
plural_inside s h P key n w e =
    let v = resolved_of P (nodes_in h) (root_in h) n in
    inside s h key v (scanned s h key v) (by_scan s h key v) w e

pub slots_inside : (s h slots key : List ℕ) (v : Result ℕ NoForm) {own : ℕ} → Own own → (answer_of own (in_slots s h slots key v)).which ≡ 0
    → (answer_of own (in_slots s h slots key v)).start + (answer_of own (in_slots s h slots key v)).len ≤ length s
slots_inside s h slots key v w e = inside s h key v (in_slots s h slots key v) (by_slots_lem s h slots key v) w e

-- the empty record: no segment, whatever the file
module _ (s : List ℕ) {Q : Pool} {r : Loaded} (empty : IsEmpty Q r) (key : List ℕ) where
  no_entry : (tables_in r.head).count ≡ 0
  no_entry = ap (λ (t : Tables). t.count) empty.tables_are

  pub empty_absent : (answer_of 1 (found s r.head key)).which ≡ 0 → ⊥
  empty_absent e = none s r.head key (Ok 0) (found s r.head key) (by_scan s r.head key (Ok 0)) id no_entry e

  pub empty_plural : (P : Pool) (n : ℕ) {own : ℕ} → Own own → (answer_of own (counted s r.head P key n)).which ≡ 0 → ⊥
  empty_plural P n w e =
      let v = resolved_of P (nodes_in r.head) (root_in r.head) n in
      none s r.head key v (scanned s r.head key v) (by_scan s r.head key v) w no_entry e

  pub slots_absent : (slots : List ℕ) (v : Result ℕ NoForm) {own : ℕ} → Own own → (answer_of own (in_slots s r.head slots key v)).which ≡ 0 → ⊥
  slots_absent slots v w e = none s r.head key v (in_slots s r.head slots key v) (by_slots_lem s r.head slots key v) w no_entry e

-- the record of this very file
module _ (o : Options) (f s : List ℕ) {Q : Pool} {r : Loaded} (loads : Loads (load o f s) Q r) (number_0 : r.number ≡ 0) (key : List ℕ) where
  right : {own : ℕ} (v : Result ℕ NoForm) (a : Reason) → Founded s r.head key v a → Own own → (answer_of own a).which ≡ 0 → utf8 (take (answer_of own a).len (drop (answer_of own a).start s)) ≡ true
  right v a sound w e =
      let x = by_search s r.head key v a sound w e in
      let i = segment_0 w a e in
      let z = every_right o f s (was_accepted o f s loads number_0) i.i x.entered.below x.entered.has.entry in
      ap utf8 (segment_told s x.start x.len i.form x.segment).text ∙ one_right _ i.form z

  pub answer_right : (answer_of 1 (found s r.head key)).which ≡ 0
      → utf8 (take (answer_of 1 (found s r.head key)).len (drop (answer_of 1 (found s r.head key)).start s)) ≡ true
  answer_right e = right (Ok 0) (found s r.head key) (by_scan s r.head key (Ok 0)) id e

  pub plural_right : (P : Pool) (n : ℕ) {own : ℕ} → Own own → (answer_of own (counted s r.head P key n)).which ≡ 0
      → utf8 (take (answer_of own (counted s r.head P key n)).len (drop (answer_of own (counted s r.head P key n)).start s)) ≡ true
  plural_right P n w e =
      let v = resolved_of P (nodes_in r.head) (root_in r.head) n in
      right v (scanned s r.head key v) (by_scan s r.head key v) w e

  pub slots_right : (slots : List ℕ) (v : Result ℕ NoForm) {own : ℕ} → Own own → (answer_of own (in_slots s r.head slots key v)).which ≡ 0
      → utf8 (take (answer_of own (in_slots s r.head slots key v)).len (drop (answer_of own (in_slots s r.head slots key v)).start s)) ≡ true
  slots_right slots v w e = right v (in_slots s r.head slots key v) (by_slots_lem s r.head slots key v) w e
