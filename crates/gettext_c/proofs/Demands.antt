-- The three demands, over the functions that a host links. Each function's promise is its contract in src/lib.rt; here the promises are put
-- together. In all of it s is the file, f the text of the forced rule, o the options; r and Q are what `gettext_c_load` left: its number,
-- where it failed, the count of forms and the head of the record, and the arrays of the rule. "Unaltered" is that the later calls get this very head and these arrays.
-- Assumes nothing.
use Prim.{tt}
use Prim.Native.Nat.{ℕ, ◌+◌, ◌^◌, ◌<◌, ◌≤◌}
use mathlib.Core.Path.{◌≡◌, refl, sym, ap, ap₂, ◌∙◌}
use mathlib.Core.Bool.{Bool, true, false}
use mathlib.Core.Logic.{◌↔◌}
use mathlib.Core.List.{List, []}
use native.Mathlib.Omega.{arith}
use lib.ListN.{length, get_or, take, drop}
use contract.Lifetimes.{Lfts}
use borrow.Fn.Kinds.{ParamKind, Dens, In}
use Rattle.std.specs.Prelude.{Option, Some, None, Result, Ok, Err}
use Rattle.text_trim.specs.Trim.{trim, white_space}
use Rattle.text_utf8.specs.Utf8.{utf8}
use Rattle.text_utf8.specs.Scalar.{Text}
use Rattle.text_utf8.proofs.Scalars.{utf8_is_text}
use Rattle.refusal.specs.Numbers.{number_of, outcome_number}
use Rattle.refusal.specs.Places.{index_of, side_of, side_number, named, index_or0}
use Rattle.refusal.specs.declared.Where.{Where}
use Rattle.refusal.specs.declared.Refusal.{Refusal}
use Rattle.refusal.specs.declared.Error.TheVariants as error
use Rattle.rules.specs.Tree.{Tree, default_tree}
use Rattle.rules.specs.Value.{eval_tree, truth}
use Rattle.rules.specs.Pool.{Pool}
use Rattle.rules.specs.Pack.{packed, packed_size}
use Rattle.rules.specs.Answer.{form_of, fitting, resolved_of, rated_of, fit_of}
use Rattle.rules.specs.declared.NoForm.{NoForm}
use Rattle.rules.specs.declared.NoTree.{NoTree}
use Rattle.rules.proofs.Forms.{rated_forms}
use Rattle.rules.proofs.Fits.{Ranged, fits_ranged}
use Rattle.reading_rule.specs.Plurals.{rule, parsed}
use Rattle.reading_rule.specs.declared.Reading.TheVariants.{Standard}
use Rattle.reading_rule.proofs.Meaning.{IsRule, standard_exactly}
use Rattle.container_layout.specs.Mo.{segment, segments}
use Rattle.text.specs.declared.Stretch.{Stretch}
use Rattle.container_layout.specs.declared.Tables.{Tables}
use Rattle.lookup_scan.specs.Keys.{last_with}
use Rattle.lookup_scan.specs.declared.Hit.{Hit}
use Rattle.lookup_scan.proofs.Last.{Last, last_hit_lem}
use Rattle.lookup.specs.Lookup.{by_segment, by_entry, plural, number}
use Rattle.lookup.specs.declared.Reason.{Reason}
use Rattle.lookup.specs.declared.Reason.TheVariants as reason
use Rattle.lookup.proofs.Rated.{Names, rated_lookup}
use Rattle.lookup.proofs.Reasons.{by_rule_lem}
use Rattle.lookup.proofs.Indexed.{never_12}
use Rattle.container.specs.Catalog.{Answer, accepted, refused, no_tables, load, fits, tree_in}
use Rattle.container.specs.Catalog as answer
use Rattle.container.specs.Accepts.{Accepts, Fails}
use Rattle.container.specs.Promise.{outcome_of}
use Rattle.container.specs.declared.Options.{Options}
use Rattle.container.proofs.Exactly.{accepted_exactly, facts_fit, refused_exactly}
use Rattle.container.specs.Before as before
use Rattle.container.proofs.Before.{number_in, same_number}
use Rattle.host.specs.Host.{side_of_load, entered_by, entry_of_load, counted_by, count_by, forms_in, head_of, tables_in, nodes_in, root_in, own_for, answer_of, rating_of, fits_of, value_of}
use Rattle.host.specs.declared.Loaded.{Loaded}
use Rattle.host.specs.declared.Answer as host-answer
use Rattle.host.specs.declared.Rating.{Rating}
use Rattle.host.specs.declared.Fits.{Fits}
use Rattle.gettext_c.specs.Record.{Loads, counted}
use Rattle.gettext_c.proofs.Fresh.{was_accepted, fresh_resolves, fresh_fits, fresh_length}
use Rattle.gettext_c.proofs.gettext_c_empty.Reads as empty
use Rattle.gettext_c.proofs.gettext_c_empty.Kinds as empty-kinds
use Rattle.gettext_c.proofs.gettext_c_load.Reads as load-reads
use Rattle.gettext_c.proofs.gettext_c_load.Kinds as load-kinds
use Rattle.gettext_c.proofs.gettext_c_gettext.Reads as gettext
use Rattle.gettext_c.proofs.gettext_c_gettext.Kinds as gettext-kinds
use Rattle.gettext_c.proofs.gettext_c_ngettext.Reads as ngettext
use Rattle.gettext_c.proofs.gettext_c_ngettext.Kinds as ngettext-kinds
use Rattle.gettext_c.proofs.gettext_c_rating.Reads as rating
use Rattle.gettext_c.proofs.gettext_c_rating.Kinds as rating-kinds
use Rattle.gettext_c.proofs.gettext_c_fits.Reads as fits
use Rattle.gettext_c.proofs.gettext_c_fits.Kinds as fits-kinds
use Rattle.gettext_c.proofs.gettext_c_resolve.Reads as resolve
use Rattle.gettext_c.proofs.gettext_c_resolve.Kinds as resolve-kinds
use Rattle.gettext_c.proofs.gettext_c_is_utf8.Reads as is-utf8
use Rattle.gettext_c.proofs.gettext_c_is_utf8.Kinds as is-utf8-kinds
use Rattle.gettext_c.proofs.gettext_c_cost.Reads as cost
use Rattle.gettext_c.proofs.gettext_c_cost.Kinds as cost-kinds
use Rattle.gettext_c.proofs.gettext_c_span.Reads as span
use Rattle.gettext_c.proofs.gettext_c_span.Kinds as span-kinds
use Rattle.gettext_c.proofs.gettext_c_text.Reads as text
use Rattle.gettext_c.proofs.gettext_c_text.Kinds as text-kinds
use Rattle.gettext_c.proofs.gettext_c_why_ngettext.Reads as why_ngettext
use Rattle.gettext_c.proofs.gettext_c_why_ngettext.Kinds as why-ngettext-kinds

-- 1. No input stops the host. No function asks anything of its caller: `Pre` is what it requires, as the check reads it from the source (those
-- that take slots: `nothing_asked_indexed`).
-- That it ends, and touches nothing outside what is lent to it, is what the check proves of every function.
abbrev pub AsksNothing : (n : ℕ) (ps : List (ParamKind n)) → In n ps → Type 0
AsksNothing n ps Pre = (κs : Lfts n) (a : Dens κs ps) → Pre κs a

pub nothing_asked : AsksNothing 3 empty-kinds.ps empty.Pre × AsksNothing 4 load-kinds.ps load-reads.Pre × AsksNothing 1 gettext-kinds.ps gettext.Pre × AsksNothing 1 ngettext-kinds.ps ngettext.Pre
    × AsksNothing 1 rating-kinds.ps rating.Pre × AsksNothing 1 fits-kinds.ps fits.Pre × AsksNothing 1 resolve-kinds.ps resolve.Pre
    × AsksNothing 1 is-utf8-kinds.ps is-utf8.Pre × AsksNothing 1 cost-kinds.ps cost.Pre × AsksNothing 2 span-kinds.ps span.Pre × AsksNothing 2 text-kinds.ps text.Pre
    × AsksNothing 1 why-ngettext-kinds.ps why_ngettext.Pre
nothing_asked = (λ κs a. tt, λ κs a. tt, λ κs a. tt, λ κs a. tt, λ κs a. tt, λ κs a. tt, λ κs a. tt, λ κs a. tt, λ κs a. tt, λ κs a. tt, λ κs a. tt, λ κs a. tt)

-- a refused load gives the empty catalog: its head to the last number, its rule, and no count
pub record EmptyLeft (Q : Pool) (r : Loaded) : Type 0 where
  pub head : r.head ≡ head_of no_tables (packed_size default_tree)
  pub tables : tables_in r.head ≡ no_tables
  pub rule : Q ≡ packed default_tree
  pub uncounted : (r.counted ≡ 0) × (r.forms ≡ 0)

refused_empty : (a : Answer) {Q : Pool} {r : Loaded} → Loads a Q r → (r.number ≡ 0 → ⊥) → EmptyLeft Q r
refused_empty (accepted t u x) h n = absurd (n h.number_is)
refused_empty (refused e) h n = record { head = h.head_is; tables = h.tables_are; rule = h.rule_is; uncounted = (h.counted_is, h.forms_are) }

pub refused_load : (o : Options) (f s : List ℕ) {Q : Pool} {r : Loaded} → Loads (load o f s) Q r → (r.number ≡ 0 → ⊥) → EmptyLeft Q r
refused_load o f s h n = refused_empty (load o f s) h n

-- a refused lookup gives the caller's own id or plural id, with 10 or 11
pub data Refused : ℕ → Type 0 where
  zero_modulus : Refused (number_of error.ZeroModulus)
  bad_record : Refused (number_of error.BadRecord)

refused_number : (own : ℕ) (a : Reason) → (number a ≡ number reason.IndexRoom → ⊥) → ((answer_of own a).number ≡ 0 → ⊥) → ((answer_of own a).which ≡ own) × Refused (answer_of own a).number
refused_number own reason.StaleLength i n = (refl, bad_record)
refused_number own reason.NoTree i n = (refl, bad_record)
refused_number own reason.IndexRoom i n = absurd (i refl)
refused_number own reason.ZeroModulus i n = (refl, zero_modulus)
refused_number own reason.NoEntry i n = absurd (n refl)
refused_number own (reason.TooFewSegments j) i n = absurd (n refl)
refused_number own (reason.Answered j form start len) i n = absurd (n refl)

-- the rule's value is v, form 0 for a lookup without a count
pub refused_lookup : (s h key : List ℕ) (v : Result ℕ NoForm) (own : ℕ) → ((answer_of own (plural s (tables_in h) v (last_with s (tables_in h) key))).number ≡ 0 → ⊥)
    → ((answer_of own (plural s (tables_in h) v (last_with s (tables_in h) key))).which ≡ own)
    × Refused (answer_of own (plural s (tables_in h) v (last_with s (tables_in h) key))).number
refused_lookup s h key v own n =
    refused_number own (plural s (tables_in h) v (last_with s (tables_in h) key)) (never_12 s (tables_in h) v (last_with s (tables_in h) key)) n

-- 2. The container, UTF-8 and the C reading of rules, by the public documents. A text is told to be UTF-8 exactly if it is a run of encodings of
-- character numbers (RFC 3629, section 3).
one_true : (b : Bool) → truth b ≡ 1 → b ≡ true
one_true true e = refl
one_true false e = absurd (omega arith)

pub demand_2_utf8 : (s : List ℕ) → (truth (utf8 s) ≡ 1) ↔ Text s
demand_2_utf8 s = (λ e. (utf8_is_text s).0 (one_true (utf8 s) e), λ t. ap truth ((utf8_is_text s).1 t))

-- a load has number 0 exactly if the file is a catalog (container/specs/Accepts.antt), with its tables, the tree of the rule that counts and the count
-- of forms; where the options ask for it, the rule fits that count
pub record IsCatalog (o : Options) (f s : List ℕ) (Q : Pool) (r : Loaded) : Type 0 where
  pub tree : Tree
  pub facts : Accepts o f s (tables_in r.head) tree (forms_in r.counted r.forms)
  pub stored : Q ≡ packed tree
  pub head : r.head ≡ head_of (tables_in r.head) (packed_size tree)

-- and the number and the place of a refusal exactly if they are those of the first test that fails, at the lowest index
pub record Tells (x : Refusal) (r : Loaded) : Type 0 where
  pub number : r.number ≡ number_of x.error
  pub side : r.side ≡ side_number (side_of x.place)
  pub entered : r.entered ≡ truth (named (index_of x.place))
  pub entry : r.entry ≡ index_or0 (index_of x.place)

pub record IsRefused (o : Options) (f s : List ℕ) (r : Loaded) : Type 0 where
  pub refusal : Refusal
  pub tells : Tells refusal r
  pub fails : Fails o f s refusal

module _ (o : Options) (f s : List ℕ) {Q : Pool} {r : Loaded} (loads : Loads (load o f s) Q r) where
  -- what the two numbers say of the count is the load's
  pub told_forms : forms_in r.counted r.forms ≡ answer.forms_in (load o f s)
  told_forms = ap₂ forms_in loads.counted_is loads.forms_are ∙ back (answer.forms_in (load o f s))
    where
      back : (n : Option ℕ) → forms_in (counted_by n) (count_by n) ≡ n
      back (Some k) = refl
      back None = refl

  pub demand_2_accepts : r.number ≡ 0 → IsCatalog o f s Q r
  demand_2_accepts e =
      record {
        tree = tree_in (load o f s);
        facts = rw told_forms ((accepted_exactly o f s _ _ _).0 (was_accepted o f s loads e));
        stored = loads.rule_is;
        head = loads.head_is ∙ ap (λ (t : Tables). head_of t (packed_size (tree_in (load o f s)))) (sym loads.tables_are);
      }

  pub demand_2_accepted : (t : Tables) (u : Tree) (n : Option ℕ) → Accepts o f s t u n
      → (r.number ≡ 0) × (tables_in r.head ≡ t) × (r.head ≡ head_of t (packed_size u)) × (Q ≡ packed u) × (forms_in r.counted r.forms ≡ n)
  demand_2_accepted t u n w =
      let e = (accepted_exactly o f s t u n).1 w in (
        loads.number_is ∙ ap (λ (a : Answer). outcome_number (outcome_of a)) e,
        loads.tables_are ∙ ap (λ (a : Answer). answer.tables_in a) e,
        loads.head_is ∙ ap (λ (a : Answer). head_of (answer.tables_in a) (packed_size (tree_in a))) e,
        loads.rule_is ∙ ap (λ (a : Answer). packed (tree_in a)) e,
        told_forms ∙ ap answer.forms_in e,
      )

  telling : {x : Refusal} → load o f s ≡ refused x → Tells x r
  telling e =
      record {
        number = loads.number_is ∙ ap (λ (a : Answer). outcome_number (outcome_of a)) e;
        side = loads.side_is ∙ ap (λ (a : Answer). side_of_load (outcome_of a)) e;
        entered = loads.entered_is ∙ ap (λ (a : Answer). entered_by (outcome_of a)) e;
        entry = loads.entry_is ∙ ap (λ (a : Answer). entry_of_load (outcome_of a)) e;
      }

  pub demand_2_fails : (x : Refusal) → Fails o f s x → Tells x r
  demand_2_fails x w = telling ((refused_exactly o f s x).1 w)

  pub demand_2_refused : (r.number ≡ 0 → ⊥) → IsRefused o f s r
  demand_2_refused n = by_answer (load o f s) refl
    where
      by_answer : (a : Answer) → load o f s ≡ a → IsRefused o f s r
      by_answer (accepted t u x) e = absurd (n (loads.number_is ∙ ap (λ (a : Answer). outcome_number (outcome_of a)) e))
      by_answer (refused x) e = record { refusal = x; tells = telling e; fails = (refused_exactly o f s x).0 e }

  -- with the option off the number is the one that the stages give without places and counts
  pub demand_2_as_before : o.fit ≡ false → r.number ≡ number_in (before.load o f s)
  demand_2_as_before e = loads.number_is ∙ same_number o e f s

-- a rule text, wherever it stands, is read as a tree, in the Standard reading, exactly if, trimmed, it means that tree in C's grammar (GNU gettext manual, 11.2.6)
pub demand_2_rule : (w : Where) (f : List ℕ) (t : Tree) → (parsed w Standard f ≡ rule t) ↔ IsRule (trim white_space f) t
demand_2_rule w f t = standard_exactly w f t

-- 3. The rule that was loaded, at a count: it takes no remainder by zero, and yields a form from lo to hi, so below k.
pub record Yields (t : Tree) (lo hi k n : ℕ) : Type 0 where
  pub form : ℕ
  pub value : eval_tree t n ≡ Some form
  pub low : lo ≤ form
  pub high : form ≤ hi
  pub below : form < k

-- An answer is the segment of an entry that a form names: the place in the file where that entry's translation has it, and its bytes.
pub record IsSegment (s : List ℕ) (h : Hit) (form : ℕ) (a : host-answer.Answer) : Type 0 where
  pub number_0 : a.number ≡ 0
  pub which_0 : a.which ≡ 0
  pub entry_is : a.entry ≡ h.entry
  pub form_is : a.form ≡ form
  pub place : segment s h.start h.len form ≡ Some (record { start = a.start; len = a.len })
  pub inside : a.start + a.len ≤ length s
  pub bytes : take a.len (drop a.start s) ≡ get_or (segments s h.start h.len) form []

formed : (v : Option ℕ) {x : ℕ} → form_of v ≡ Ok x → v ≡ Some x
formed (Some y) {x} e = let q : y ≡ x = cc in rw q
formed None e = absurd (let z : ◌≡◌ {A = ℕ} 0 1 = cc in omega arith)

-- what a host reads off a rating and off a fit
rated_1 : (x : Result (Option (ℕ × ℕ)) NoTree) → (rating_of x).rated ≡ 1 → x ≡ Ok (Some ((rating_of x).lowest, (rating_of x).highest))
rated_1 (Ok (Some (l, h))) e = refl
rated_1 (Ok None) e = absurd (omega arith)
rated_1 (Err x) e = absurd (omega arith)

fits_1 : (x : Result Bool NoTree) → (fits_of x).fits ≡ 1 → x ≡ Ok true
fits_1 (Ok true) e = refl
fits_1 (Ok false) e = absurd (omega arith)
fits_1 (Err x) e = absurd (omega arith)

-- an accepted load, and the record unaltered
module _ (o : Options) (f s : List ℕ) {Q : Pool} {r : Loaded} (loads : Loads (load o f s) Q r) (number_0 : r.number ≡ 0) where
  -- For a rule rated lo to hi and a k above hi, at a count: what the rule yields, as `gettext_c_resolve` tells it; and every plural lookup in the very bytes that were loaded,
  -- whose last entry with the key stores at least k segments, answers the segment that this form names.
  pub record Kept (lo hi k n : ℕ) : Type 0 where
    pub yields : Yields (tree_in (load o f s)) lo hi k n
    pub told : value_of (resolved_of Q (nodes_in r.head) (root_in r.head) n) ≡ record { number = 0; form = yields.form }
    pub answers : (key : List ℕ) (h : Hit) → Last s (tables_in r.head) key (tables_in r.head).count h → k ≤ length (segments s h.start h.len)
        → IsSegment s h yields.form (answer_of (own_for n) (counted s r.head Q key n))

  abbrev pub range : Result (Option (ℕ × ℕ)) NoTree
  range = rated_of Q (nodes_in r.head) (root_in r.head)

  kept : {lo hi : ℕ} → range ≡ Ok (Some (lo, hi)) → (k : ℕ) → hi < k → (n : ℕ) → n < 2 ^ 64 → Kept lo hi k n
  kept {lo} {hi} is k below n count =
      let v = rated_forms Q (nodes_in r.head) (root_in r.head) lo hi is n count in
      record {
        yields = record {
          form = v.form;
          value = formed (eval_tree (tree_in (load o f s)) n) (sym (fresh_resolves o f s loads n) ∙ v.is);
          low = v.low;
          high = v.high;
          below = omega (arith, v.high);
        };
        told = ap value_of v.is;
        answers = λ key h w m.
            let a = rated_lookup s (tables_in r.head) Q (nodes_in r.head) (root_in r.head) key lo hi k n is below count (fresh_length o f s loads number_0)
            (last_hit_lem s (tables_in r.head) key w) m in
            named v.is a (placed key v.is (last_hit_lem s (tables_in r.head) key w) a);
      }
    where
      same_form : {x y : ℕ} {u : Result ℕ NoForm} → u ≡ Ok x → u ≡ Ok y → y ≡ x
      same_form e g = cc

      -- the place is that of the entry's own translation
      by_stretch : {i form at size : ℕ} (y : Option Stretch) → by_segment i form y ≡ reason.Answered i form at size → y ≡ Some (record { start = at; len = size })
      by_stretch {at = at} {size = size} (Some p) e =
          let a : p.start ≡ at = cc in
          let b : p.len ≡ size = cc in
          ap₂ (λ (x y : ℕ). Some (record { start = x; len = y })) a b
      by_stretch None e = let z : ◌≡◌ {A = ℕ} 0 1 = cc in absurd (omega arith)

      placed : (key : List ℕ) {h : Hit} {x : ℕ} → resolved_of Q (nodes_in r.head) (root_in r.head) n ≡ Ok x → last_with s (tables_in r.head) key ≡ Some h
          → (a : Names s (resolved_of Q (nodes_in r.head) (root_in r.head) n) h.entry h.start h.len lo hi (counted s r.head Q key n)) → segment s h.start h.len x ≡ Some (record { start = a.at; len = a.size })
      placed key {h} {x} e g a =
          let q : a.form ≡ x = same_form e a.value in
          let y : by_entry s x (last_with s (tables_in r.head) key) ≡ counted s r.head Q key n =
          by_rule_lem s (tables_in r.head) (resolved_of Q (nodes_in r.head) (root_in r.head) n) (last_with s (tables_in r.head) key) (fresh_length o f s loads number_0) refl e refl in
          by_stretch (segment s h.start h.len x) (sym (ap (by_entry s x) g) ∙ y ∙ a.is ∙ ap (λ (m : ℕ). reason.Answered h.entry m a.at a.size) q)

      named : {h : Hit} {x : ℕ} {u : Result ℕ NoForm} {c : Reason} → u ≡ Ok x → (a : Names s u h.entry h.start h.len lo hi c) → segment s h.start h.len x ≡ Some (record { start = a.at; len = a.size })
          → IsSegment s h x (answer_of (own_for n) c)
      named {h} {x} {c = c} e a p =
          let q : a.form ≡ x = same_form e a.value in
          let z : c ≡ reason.Answered h.entry x a.at a.size = a.is ∙ ap (λ (m : ℕ). reason.Answered h.entry m a.at a.size) q in
          let t : take a.size (drop a.at s) ≡ get_or (segments s h.start h.len) x [] = a.text ∙ ap (λ (m : ℕ). get_or (segments s h.start h.len) m []) q in
          rw z (record { number_0 = refl; which_0 = refl; entry_is = refl; form_is = refl; place = p; inside = a.inside; bytes = t })

  -- by the rating: `rated` is 1 and the highest is below k
  pub demand_3 : (q : Rating) → q ≡ rating_of range → q.rated ≡ 1 → (k : ℕ) → q.highest < k → (n : ℕ) → n < 2 ^ 64 → Kept q.lowest q.highest k n
  demand_3 q e g k below n count =
      let x : range ≡ Ok (Some (q.lowest, q.highest)) = rw e (rated_1 range (rw e at g)) in
      kept x k below n count

  -- by `fits`, which is 1: the rule then has a range, whose highest is below k
  pub record Fitting (k n : ℕ) : Type 0 where
    pub range : Ranged Q (nodes_in r.head) (root_in r.head) k
    pub kept : Kept range.lowest range.highest k n

  pub demand_3_fits : (k : ℕ) (q : Fits) → q ≡ fits_of (fit_of Q (nodes_in r.head) (root_in r.head) k) → q.fits ≡ 1 → (n : ℕ) → n < 2 ^ 64 → Fitting k n
  demand_3_fits k q e g n count =
      let x : fit_of Q (nodes_in r.head) (root_in r.head) k ≡ Ok true = fits_1 _ (rw e at g) in
      let w = fits_ranged Q (nodes_in r.head) (root_in r.head) k x in
      record { range = w; kept = kept w.is k w.below n count }

  -- Loaded with the demand that the rule fit the header's count: whatever the count, a plural lookup whose last entry with the key stores at least as
  -- many segments as the header says answers one of these first segments, with number 0: the one that the rule's value names.
  pub record OneOf (n : ℕ) (h : Hit) (a : host-answer.Answer) : Type 0 where
    pub form : ℕ
    pub value : eval_tree (tree_in (load o f s)) n ≡ Some form
    pub below : form < r.forms
    pub among : form < length (segments s h.start h.len)
    pub is : IsSegment s h form a

  pub fit_answers : o.fit ≡ true → (n : ℕ) → n < 2 ^ 64 → (key : List ℕ) (h : Hit) → Last s (tables_in r.head) key (tables_in r.head).count h
      → r.forms ≤ length (segments s h.start h.len) → OneOf n h (answer_of (own_for n) (counted s r.head Q key n))
  fit_answers on n count key h w stored =
      let g = ((accepted_exactly o f s _ _ _).0 (was_accepted o f s loads number_0)).fitting on in
      let k : r.forms ≡ g.count = loads.forms_are ∙ ap count_by g.given in
      let y : fit_of Q (nodes_in r.head) (root_in r.head) g.count ≡ Ok true = fresh_fits o f s loads g.count ∙ ap fitting (sym (ap (fits (tree_in (load o f s))) g.given) ∙ facts_fit (tree_in (load o f s)) g) in
      let x = (demand_3_fits g.count (fits_of (fit_of Q (nodes_in r.head) (root_in r.head) g.count)) refl (ap (λ (z : Result Bool NoTree). (fits_of z).fits) y) n count).kept in
      record { form = x.yields.form; value = x.yields.value; below = omega (arith, x.yields.below); among = omega (arith, x.yields.below); is = x.answers key h w (omega arith) }
