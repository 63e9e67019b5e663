-- The stages of the load put together. Assumes nothing.
use Prim.Native.Nat.{ℕ, zero, suc, ◌+◌, ◌-◌, ◌<◌, ◌≤◌}
use mathlib.Core.Path.{◌≡◌, refl, sym, ap, ◌∙◌}
use mathlib.Core.List.{List}
use native.Mathlib.Omega.{arith}
use lib.ListN.{length}
use Rattle.refusal.specs.Places.{at, in_rule}
use Rattle.refusal.specs.declared.Error.{Error}
use Rattle.refusal.specs.declared.Refusal.{Refusal}
use Rattle.refusal.specs.declared.Where.TheVariants.{File}
use Rattle.rules.specs.Tree.{Tree}
use Rattle.rules.specs.Pool.{Pool}
use Rattle.rules.specs.Pack.{packed_size}
use Rattle.rules.proofs.Stored.{packed_pos}
use Rattle.reading_rule.specs.Plurals as plurals
use Rattle.reading_rule.specs.Plurals.{Parse, rule, norule, parsed, Parses}
use Rattle.std.specs.Prelude.{Option, Some, None, Result, Ok, Err}
use Rattle.text.specs.declared.Stretch.{Stretch}
use Rattle.header_fields.specs.Fields.{shift}
use Rattle.header_fields.specs.Promise.{end_of}
use Rattle.container_layout.specs.Mo.{segments}
use Rattle.container_layout.specs.declared.Tables.{Tables}
use Rattle.container_messages.specs.Messages.{read_at}
use Rattle.container_messages.specs.declared.Read.{Read}
use Rattle.container_messages.specs.declared.Read.TheVariants as read
use Rattle.container_messages.proofs.Entries.{header_inside, header_first}
use Rattle.container_head.specs.Head.{head_of}
use Rattle.container_rule.specs.Rule.{forced_rule, rule_at, segment0, shifted, header_at, first_of, first_from, first_rule, rule_by, rule_in, file_forms}
use Rattle.container_rule.specs.Promise.{end_of_rule, forms_of, Chooses}
use Rattle.container_rule.specs.declared.First.{First}
use Rattle.container_rule.proofs.Headers.{rule_ends, same_part}
use Rattle.container_rule.proofs.Entry.{first_end, first_forms}
use Rattle.container_rule.proofs.Rules.{choosing}
use Rattle.container.specs.Catalog.{and_then, header, entry_step, entries_from, Answer, refused, answered, catalog, load_with, opened, accepted}
use Rattle.container.specs.Promise.{Empties, Loads}
use Rattle.container.specs.Private.{read_outcome, go_on, rest_from, Gives}
use Rattle.container.specs.declared.Options.{Options}
use Rattle.container.specs.declared.Loading.{Loading}
use Rattle.container.specs.declared.Opened.{Opened}

-- a refusal, as an answer
pub refusing : (a : Answer) {x : Refusal} {Q : Pool} {r : Result Opened Refusal} → a ≡ refused x → r ≡ Err x → Gives a Q r
refusing a e f = rw e (record { given_is = f; stored = tt })

-- a stage that handed on its rule, and one that did not
went_on : (a : Parse) {k : ℕ} → plurals.outcome_of a ≡ Ok k → (a ≡ rule (plurals.tree_in a)) × (k ≡ packed_size (plurals.tree_in a))
went_on (rule t) e = (refl, cc)
went_on (norule x) e = absurd (let z : ◌≡◌ {A = ℕ} 0 1 = cc in omega arith)

stopped : (a : Parse) {x : Refusal} → plurals.outcome_of a ≡ Err x → a ≡ norule x
stopped (rule t) e = absurd (let z : ◌≡◌ {A = ℕ} 0 1 = cc in omega arith)
stopped (norule y) {x} e = let q : y ≡ x = cc in rw q

-- how the rest stands, as a stage
abbrev pub step_of : Result Unit Refusal → Tree → Parse
step_of (Ok u) t = rule t
step_of (Err x) t = norule x

-- the header's rule is the same part of the header and of the file
module _ (o : Options) (s : List ℕ) (start len : ℕ) (i : start + len ≤ length s) where
  same_rule : (r : Tree) (f : Result First Refusal) → end_of_rule f ≤ length (segment0 (segments s start len))
      → rule_in o.reading s r (shifted start f) ≡ rule_in o.reading (segment0 (segments s start len)) r f
  same_rule r (Ok f) h = by_place f.rule h
    where
      by_place : (p : Option Stretch) → end_of p ≤ length (segment0 (segments s start len)) → rule_by o.reading s r (shift start p) ≡ rule_by o.reading (segment0 (segments s start len)) r p
      by_place (Some p) j = ap (parsed in_rule o.reading) (same_part s start len i p.start p.len j)
      by_place None j = refl
  same_rule r (Err e) h = refl

  header_rule : (r : Tree) → rule_in o.reading s r (header_at o.forced o.utf8 s start len) ≡ header o (segment0 (segments s start len)) r
  unfolding header
  header_rule r = same_rule r (rule_at o.forced o.utf8 (segment0 (segments s start len))) (rule_ends o.forced o.utf8 (segment0 (segments s start len)))

module _ (o : Options) (s : List ℕ) (t : Tables) where
  -- one entry after entry 0 hands on the rule as it is
  passed : (i : ℕ) (r : Tree) (q : Result Read Refusal) (rest : Result Unit Refusal) (f : Tree → Parse) → ((p : Stretch) → q ≡ Ok (read.Header p) → ⊥) → f r ≡ step_of rest r
      → and_then (entry_step o s r q) f ≡ step_of (go_on (read_outcome q) rest) r
  unfolding entry_step
  passed i r (Err e) rest f n g = refl
  passed i r (Ok read.Message) rest f n g = g
  passed i r (Ok (read.Header p)) rest f n g = absurd (n p refl)

  pub rest_steps : (k i : ℕ) (r : Tree) → 1 ≤ i → entries_from o s t k i r ≡ step_of (rest_from s t k i) r
  unfolding entries_from rest_from
  rest_steps zero i r h = refl
  rest_steps (suc k) i r h =
      passed i r (read_at s t i) (rest_from s t k (suc i)) (entries_from o s t k (suc i)) (λ p e. omega (arith, header_first s t i e)) (rest_steps k (suc i) r (omega arith))

  -- entry 0
  first_step : (r : Tree) (q : Result Read Refusal) → ((p : Stretch) → q ≡ Ok (read.Header p) → p.start + p.len + 1 ≤ length s) → rule_in o.reading s r (first_of o.forced o.utf8 s q) ≡ entry_step o s r q
  unfolding entry_step
  first_step r (Err e) n = refl
  first_step r (Ok read.Message) n = refl
  first_step r (Ok (read.Header p)) n = header_rule o s p.start p.len (omega (arith, n p refl)) r

  onwards : (a : Parse) (rest : Result Unit Refusal) (f : Tree → Parse) → ((r : Tree) → f r ≡ step_of rest r) → and_then a f ≡ and_then a (step_of rest)
  onwards (rule r) rest f g = g r
  onwards (norule e) rest f g = refl

  -- all entries: the rule of entry 0, then the rest
  all_from : (k : ℕ) (r : Tree) → entries_from o s t k 0 r ≡ and_then (rule_in o.reading s r (first_from o.forced o.utf8 s t k)) (step_of (rest_from s t (k - 1) 1))
  unfolding entries_from rest_from
  all_from zero r = refl
  all_from (suc k) r =
      let z : suc k - 1 ≡ k = omega arith in
      ap (λ (a : Parse). and_then a (entries_from o s t k 1)) (sym (first_step r (read_at s t 0) (λ p e. header_inside s t 0 e)))
      ∙ onwards (rule_in o.reading s r (first_of o.forced o.utf8 s (read_at s t 0))) (rest_from s t k 1) (entries_from o s t k 1) (λ u. rest_steps k 1 u (omega arith))
      ∙ rw z

  pub all_entries : (r : Tree) → entries_from o s t t.count 0 r ≡ and_then (rule_in o.reading s r (first_rule o.forced o.utf8 s t)) (step_of (rest_from s t (t.count - 1) 1))
  unfolding first_rule
  all_entries r = all_from t.count r

-- the rule of entry 0 lies in the file
pub rule_lies : (o : Options) (s : List ℕ) (t : Tables) {at_first : Result First Refusal} → at_first ≡ first_rule o.forced o.utf8 s t → end_of_rule at_first ≤ length s
rule_lies o s t e = rw (sym e) at (first_end o.forced o.utf8 s t)

-- where the load goes on, the count beside the rule is the file's
counted : (o : Options) (s : List ℕ) (t : Tables) (r : Tree) (x : Result First Refusal) {k : ℕ} → x ≡ first_rule o.forced o.utf8 s t
    → plurals.outcome_of (rule_in o.reading s r x) ≡ Ok k → forms_of x ≡ file_forms s t
counted o s t r (Ok f) u i = first_forms o.forced o.utf8 s t (sym u)
counted o s t r (Err e) {k} u i = absurd (let h : Err e ≡ Ok k = i in let z : ◌≡◌ {A = ℕ} 0 1 = cc in omega arith)

-- the load, stage by stage: P are the arrays after the forced rule
module _ (o : Options) (f s : List ℕ) {forced : Result ℕ Refusal} {P : Pool} (g : Parses (forced_rule o.forced o.reading f) P forced) where
  pub forced_refused : {e : Refusal} {Q : Pool} {r : Result Opened Refusal} → forced ≡ Err e → r ≡ Err e → Gives (opened o f s) Q r
  unfolding opened
  forced_refused q w = refusing (opened o f s) (ap (load_with o s) (stopped (forced_rule o.forced o.reading f) (sym g.outcome ∙ q))) w

  abbrev before : Tree
  before = plurals.tree_in (forced_rule o.forced o.reading f)

  module _ {k : ℕ} (p : forced ≡ Ok k) where
    so_far : (forced_rule o.forced o.reading f ≡ rule before) × (k ≡ packed_size before)
    so_far = went_on (forced_rule o.forced o.reading f) (sym g.outcome ∙ p)

    at_head : {h : Result Tables Error} → h ≡ head_of s → opened o f s ≡ catalog o s before h
    unfolding opened
    at_head e = ap (load_with o s) so_far.0 ∙ ap (catalog o s before) (sym e)

    pub head_refused : {h : Result Tables Error} {e : Error} {Q : Pool} {r : Result Opened Refusal} → h ≡ head_of s → h ≡ Err e → r ≡ Err (at File e) → Gives (opened o f s) Q r
    head_refused q w z = refusing (opened o f s) (at_head q ∙ ap (catalog o s before) w) z

    module _ {t : Tables} {h : Result Tables Error} (q : h ≡ head_of s) (w : h ≡ Ok t) {at_first : Result First Refusal} (u : at_first ≡ first_rule o.forced o.utf8 s t) where
      -- the answer, by what the rule of entry 0 and the rest come to
      abbrev with_rule : Parse → Answer
      with_rule a = answered t (file_forms s t) (and_then a (step_of (rest_from s t (t.count - 1) 1)))

      at_entries : opened o f s ≡ with_rule (rule_in o.reading s before at_first)
      at_entries =
          at_head q ∙ ap (catalog o s before) w ∙ ap (answered t (file_forms s t)) (all_entries o s t before)
          ∙ ap (λ (z : Result First Refusal). with_rule (rule_in o.reading s before z)) (sym u)

      module _ {ruled : Result ℕ Refusal} {Q : Pool} (c : Chooses o.reading s at_first k P Q ruled) where
        abbrev stage : Parse
        stage = rule_in o.reading s before at_first

        gives : Parses stage Q ruled
        gives = choosing o.reading s before (g.stored) (so_far.1) at_first c

        pub rule_stopped : {e : Refusal} {R : Pool} {r : Result Opened Refusal} → ruled ≡ Err e → r ≡ Err e → Gives (opened o f s) R r
        rule_stopped i j = refusing (opened o f s) (at_entries ∙ ap with_rule (stopped stage (sym gives.outcome ∙ i))) j

        module _ {m : ℕ} (i : ruled ≡ Ok m) {rest : Result Unit Refusal} (j : rest ≡ rest_from s t (t.count - 1) 1) where
          ruled_so : (stage ≡ rule (plurals.tree_in stage)) × (m ≡ packed_size (plurals.tree_in stage))
          ruled_so = went_on stage (sym gives.outcome ∙ i)

          at_rest : {y : Result Unit Refusal} → rest ≡ y → opened o f s ≡ answered t (file_forms s t) (step_of y (plurals.tree_in stage))
          at_rest z =
              at_entries ∙ ap with_rule ruled_so.0
              ∙ ap (λ (a : Result Unit Refusal). answered t (file_forms s t) (step_of a (plurals.tree_in stage))) (sym j ∙ z)

          pub rest_refused : {e : Refusal} {R : Pool} {r : Result Opened Refusal} → rest ≡ Err e → r ≡ Err e → Gives (opened o f s) R r
          rest_refused y z = refusing (opened o f s) (at_rest y) z

          pub is_loaded : {n : Option ℕ} {y : Unit} → n ≡ forms_of at_first → rest ≡ Ok y → Gives (opened o f s) Q (Ok (record { tables = t; nodes = m; forms = n }))
          is_loaded d y =
              let n = d ∙ counted o s t before at_first u (sym gives.outcome ∙ i) in
              rw (at_rest y, n, ruled_so.1) (record { given_is = refl; stored = gives.stored })

-- a rule has a node
pub some_nodes : (r : Tree) {k : ℕ} → k ≡ packed_size r → 0 < k
some_nodes r e = omega (arith, packed_pos r)

-- what the stages give, as a load
pub as_loading : (a : Answer) {Q : Pool} {r : Result Opened Refusal} {x : Opened} → Gives a Q r → r ≡ Ok x
    → Loads a Q (record { outcome = Ok tt; tables = x.tables; nodes = x.nodes; forms = x.forms })
as_loading (accepted t u n) {x = x} w e =
    let q : record { tables = t; nodes = packed_size u; forms = n } ≡ x = cc (sym w.given_is ∙ e) in
    rw (← q) (record { outcome_is = refl; tables_are = refl; nodes_are = refl; rule_is = w.stored; forms_are = refl })
as_loading (refused y) w e = absurd (let p = w.given_is in let z : ◌≡◌ {A = ℕ} 0 1 = cc in omega arith)

pub as_empty : (a : Answer) {P Q : Pool} {r : Result Opened Refusal} {x : Refusal} {l : Loading} → Gives a P r → r ≡ Err x → Empties (Err x) Q l → Loads a Q l
as_empty (accepted t u n) w e g = absurd (let p = w.given_is in let z : ◌≡◌ {A = ℕ} 0 1 = cc in omega arith)
as_empty (refused y) {x = x} w e g =
    let q : y ≡ x = cc (sym w.given_is ∙ e) in
    rw q (record { outcome_is = g.outcome_is; tables_are = g.tables_are; nodes_are = g.nodes_are; rule_is = g.rule_is; forms_are = g.forms_are })
