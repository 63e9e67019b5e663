-- A load accepts a file exactly if the facts of specs/Accepts.antt hold, with those tables and that rule; and it is refused exactly for the
-- first test that fails. Assumes nothing.
use Prim.Native.Nat.{ℕ, zero, suc, ◌+◌, ◌-◌, ◌<◌, ◌≤◌}
use mathlib.Core.Path.{◌≡◌, refl, sym, ap, ap₂, ◌∙◌}
use mathlib.Core.Bool.{Bool, true, false, ◌||◌}
use mathlib.Core.Logic.{◌↔◌}
use mathlib.Core.List.{List, []}
use native.Mathlib.Omega.{arith}
use lib.ListN.{take, drop}
use borrow.Author.Tests.{lt-ltb, ltb-true}
use Rattle.text.proofs.Tests.{taken, left, by_test}
use Rattle.refusal.specs.Places.{at, in_header, in_rule}
use Rattle.refusal.specs.declared.Refusal.{Refusal}
use Rattle.refusal.specs.declared.Where.TheVariants.{File, Forced}
use Rattle.refusal.specs.declared.Error.TheVariants.{UnknownEncoding, NotFit}
use Rattle.rules.specs.Tree.{Tree, default_tree}
use Rattle.rules.specs.Range.{rate_tree, fits_range}
use Rattle.reading_rule.specs.Plurals.{Parse, rule, norule, parsed}
use Rattle.text.specs.declared.Stretch.{Stretch}
use Rattle.header.specs.Header.{metadata}
use Rattle.header.specs.declared.Metadata.{Metadata}
use Rattle.std.specs.Prelude.{Option, Some, None, Result, Ok, Err}
use Rattle.refusal.specs.declared.Error.{Error}
use Rattle.container_rule.specs.declared.First.{First}
use Rattle.container_layout.specs.Mo.{original, id, segments}
use Rattle.container_layout.specs.declared.Tables.{Tables}
use Rattle.container_messages.specs.Messages.{read_at}
use Rattle.container_messages.specs.Good.{Good}
use Rattle.container_messages.specs.declared.Read.TheVariants as read
use Rattle.container_messages.proofs.Accepts.{read_good, good_header, good_message, good_either}
use Rattle.container_head.specs.Head.{head_of}
use Rattle.container_head.proofs.Words.{head_words, words_head}
use Rattle.container_rule.specs.Rule.{forced_rule, label_ok, headed, rule_at, segment0, rule_by, rule_in, count_of, forms_read, forms_from, file_forms}
use Rattle.container.specs.Catalog.{and_then, header, entry_step, entries_from, Answer, accepted, refused, answered, catalog, load_with, opened, fits, fitted, load}
use Rattle.container.specs.Accepts.{IsHeader, Fine, Counts, forced, given, absent, headless, Carries, by_header, no_header, Sound, Fits, Accepts, Fails, by_forced, by_head, by_entry, by_fit}
use Rattle.container.specs.declared.Options.{Options}
use Rattle.container.proofs.Accepted.{Whole, accepted_whole, opened_passed, accepted_fitted}

never : {e : Refusal} {r : Tree} → norule e ≡ rule r → ⊥
never e = let z : ◌≡◌ {A = ℕ} 0 1 = cc in omega arith

no_truth : false ≡ true → ⊥
no_truth e = let z : ◌≡◌ {A = ℕ} 0 1 = cc in omega arith

was_refused : (b : Bool) (e : Refusal) → fitted b (refused e) ≡ refused e
was_refused true e = refl
was_refused false e = refl

same_rule : {u r : Tree} → rule u ≡ rule r → u ≡ r
same_rule e = cc

-- a stage that was passed, and those after it
record Then (a : Parse) (f : Tree → Parse) (b : Parse) : Type 0 where
  from : Tree
  is : a ≡ rule from
  rest : f from ≡ b

then_rule : (a : Parse) (f : Tree → Parse) {r : Tree} → and_then a f ≡ rule r → Then a f (rule r)
then_rule (rule u) f e = record { from = u; is = refl; rest = e }
then_rule (norule x) f e = absurd (never e)

-- the header's rule: where the header hands on a rule, it is fine, and the rule is the one before where one is forced or none is given
record HandsOn (o : Options) (h : List ℕ) (r u : Tree) : Type 0 where
  lies : Option Stretch
  fine : Fine o h lies
  if_forced : o.forced ≡ true → u ≡ r
  if_given : (q : Stretch) → o.forced ≡ false → lies ≡ Some q → parsed in_rule o.reading (take q.len (drop q.start h)) ≡ rule u
  if_absent : o.forced ≡ false → lies ≡ None → u ≡ r

module _ (o : Options) (h : List ℕ) (r u : Tree) where
  abbrev first_at : Metadata → First
  first_at m = record { rule = elim o.forced [ true ↦ None | false ↦ m.rule ]; forms = m.forms }

  by_fields : (x : Option Metadata) → metadata h ≡ x → rule_in o.reading h r (headed o.forced o.utf8 h x) ≡ rule u → HandsOn o h r u
  by_fields None e g = absurd (never g)
  by_fields (Some m) e g =
      by_test (HandsOn o h r u) (o.utf8 || label_ok h m.charset)
      (λ k. let w : rule_by o.reading h r (elim o.forced [ true ↦ None | false ↦ m.rule ]) ≡ rule u = sym (ap (rule_in o.reading h r) (taken (Ok (first_at m)) (Err (at in_header UnknownEncoding)) k)) ∙ g in
      record {
        lies = m.rule;
        fine = record { label = m.charset; forms = m.forms; fields = e; known = k };
        if_forced = λ t. same_rule (sym (sym (ap (rule_by o.reading h r) (taken None m.rule t)) ∙ w));
        if_given = λ q t y. sym (ap (rule_by o.reading h r) (left None m.rule t ∙ y)) ∙ w;
        if_absent = λ t y. same_rule (sym (sym (ap (rule_by o.reading h r) (left None m.rule t ∙ y)) ∙ w));
      })
      (λ k. absurd (never (sym (ap (rule_in o.reading h r) (left (Ok (first_at m)) (Err (at in_header UnknownEncoding)) k)) ∙ g)))

  hands_on : header o h r ≡ rule u → HandsOn o h r u
  unfolding header rule_at
  hands_on g = by_fields (metadata h) refl g

-- and back: a fine header hands on
module _ (o : Options) (h : List ℕ) (r : Tree) {p : Option Stretch} (w : Fine o h p) where
  at_rule : header o h r ≡ rule_by o.reading h r (elim o.forced [ true ↦ None | false ↦ p ])
  unfolding header rule_at
  at_rule =
      ap (λ (m : Option Metadata). rule_in o.reading h r (headed o.forced o.utf8 h m)) w.fields
      ∙ ap (rule_in o.reading h r) (taken (Ok (record { rule = elim o.forced [ true ↦ None | false ↦ p ]; forms = w.forms })) (Err (at in_header UnknownEncoding)) w.known)

  forced_on : o.forced ≡ true → header o h r ≡ rule r
  forced_on t = at_rule ∙ ap (rule_by o.reading h r) (taken None p t)

  given_on : o.forced ≡ false → {q : Option Stretch} → p ≡ q → header o h r ≡ rule_by o.reading h r q
  given_on t e = at_rule ∙ ap (rule_by o.reading h r) (left None p t ∙ e)

-- an entry has its facts in one way only, and a file one header
module _ (s : List ℕ) (t : Tables) where
  same_at : {p q : Stretch} → Some p ≡ Some q → (p.start ≡ q.start) × (p.len ≡ q.len)
  same_at {p} {q} e = let x : p ≡ q = cc in (ap (λ (y : Stretch). y.start) x, ap (λ (y : Stretch). y.len) x)

  same_id : {i : ℕ} (g k : Good s t i) → id (original s g.at g.len) ≡ id (original s k.at k.len)
  same_id g k =
      let e = same_at (sym g.original_lies ∙ k.original_lies) in
      ap₂ (λ (a l : ℕ). id (original s a l)) e.0 e.1

  same_header : {h k : List ℕ} → IsHeader s t h → IsHeader s t k → h ≡ k
  same_header a b =
      let e = same_at (sym a.good.translation_lies ∙ b.good.translation_lies) in
      a.is ∙ ap₂ (λ (x y : ℕ). segment0 (segments s x y)) e.0 e.1 ∙ sym b.is

  header_read : {h : List ℕ} (w : IsHeader s t h) → read_at s t 0 ≡ Ok (read.Header (record { start = w.good.start; len = w.good.size }))
  header_read w = good_header s t 0 w.good w.empty

  header_step : (o : Options) (r : Tree) {h : List ℕ} (w : IsHeader s t h) → entry_step o s r (read_at s t 0) ≡ header o h r
  unfolding entry_step
  header_step o r w = ap (entry_step o s r) (header_read w) ∙ ap (λ (h : List ℕ). header o h r) (sym w.is)

  message_step : (o : Options) (r : Tree) (i : ℕ) (g : Good s t i) → (id (original s g.at g.len) ≡ [] → ⊥) → entry_step o s r (read_at s t i) ≡ rule r
  unfolding entry_step
  message_step o r i g n = ap (entry_step o s r) (good_message s t i g n)

  -- entries after entry 0 that are good are messages
  rest_good : (o : Options) (k i : ℕ) (r : Tree) → 1 ≤ i → ((j : ℕ) → i ≤ j → j < i + k → Good s t j) → entries_from o s t k i r ≡ rule r
  unfolding entries_from
  rest_good o zero i r h g = refl
  rest_good o (suc k) i r h g =
      let e = g i (omega arith) (omega arith) in
      ap (λ (a : Parse). and_then a (entries_from o s t k (suc i))) (message_step o r i e (λ z. omega (arith, e.named z)))
      ∙ rest_good o k (suc i) r (omega arith) (λ j l m. g j (omega arith) (omega arith))

  -- the count of the file: that of its header, or none
  header_forms : {h : List ℕ} → IsHeader s t h → {label p : Option Stretch} {n : Option ℕ} → metadata h ≡ Some (record { charset = label; rule = p; forms = n }) → file_forms s t ≡ n
  unfolding file_forms
  header_forms {h} w {label} {p} {n} g = by_count t.count refl
    where
      by_count : (k : ℕ) → t.count ≡ k → forms_from s t k ≡ n
      by_count zero c = absurd (omega (arith, w.some))
      by_count (suc k) c = ap (forms_read s) (header_read w) ∙ ap (λ (x : List ℕ). count_of (metadata x)) (sym w.is) ∙ ap count_of g

  none_forms : t.count ≡ 0 → file_forms s t ≡ None
  unfolding file_forms
  none_forms c = ap (forms_from s t) c

  message_forms : 0 < t.count → (g : Good s t 0) → (id (original s g.at g.len) ≡ [] → ⊥) → file_forms s t ≡ None
  unfolding file_forms
  message_forms l g m = by_count t.count refl
    where
      by_count : (k : ℕ) → t.count ≡ k → forms_from s t k ≡ None
      by_count zero c = absurd (omega arith)
      by_count (suc k) c = ap (forms_read s) (good_message s t 0 g m)

module _ (o : Options) (f s : List ℕ) (t : Tables) (r : Tree) (n : Option ℕ) where
  -- from the load to the facts
  module _ (e : opened o f s ≡ accepted t r n) where
    whole : Whole o f s t r n
    whole = accepted_whole o f s e

    good : (i : ℕ) → i < t.count → Good s t i
    good i l = read_good s t i (opened_passed o f s e i l)

    not_forced : o.forced ≡ false → whole.before ≡ default_tree
    not_forced q = same_rule (sym whole.forced_is ∙ left (parsed Forced o.reading f) (rule default_tree) q)

    is_forced : o.forced ≡ true → parsed Forced o.reading f ≡ rule whole.before
    is_forced q = sym (taken (parsed Forced o.reading f) (rule default_tree) q) ∙ whole.forced_is

    -- entry 0 hands on the rule that is accepted
    zeroth_from : (k : ℕ) → t.count ≡ suc k → entries_from o s t (suc k) 0 whole.before ≡ rule r → entry_step o s whole.before (read_at s t 0) ≡ rule r
    unfolding entries_from
    zeroth_from k c g =
        let w = then_rule (entry_step o s whole.before (read_at s t 0)) (entries_from o s t k 1) g in
        let z : rule w.from ≡ rule r = sym (rest_good s t o k 1 w.from (omega arith) (λ j l m. good j (omega arith))) ∙ w.rest in
        w.is ∙ z

    count_is : (k : ℕ) → t.count ≡ k → entries_from o s t k 0 whole.before ≡ rule r
    count_is k c = ap (λ (n : ℕ). entries_from o s t n 0 whole.before) (sym c) ∙ whole.entries_are

    zeroth : 0 < t.count → entry_step o s whole.before (read_at s t 0) ≡ rule r
    zeroth l = by_count t.count refl
      where
        by_count : (k : ℕ) → t.count ≡ k → entry_step o s whole.before (read_at s t 0) ≡ rule r
        by_count zero c = absurd (omega arith)
        by_count (suc k) c = zeroth_from k c (count_is (suc k) c)

    handed : {h : List ℕ} → IsHeader s t h → HandsOn o h whole.before r
    handed {h} w = hands_on o h whole.before r (sym (header_step s t o whole.before w) ∙ zeroth w.some)

    none_left : t.count ≡ 0 → whole.before ≡ r
    unfolding entries_from
    none_left c = same_rule (count_is 0 c)

    message_left : (l : 0 < t.count) → (id (original s (good 0 l).at (good 0 l).len) ≡ [] → ⊥) → whole.before ≡ r
    message_left l n = same_rule (sym (message_step s t o whole.before 0 (good 0 l) n) ∙ zeroth l)

    -- a header, where entry 0 has an empty id
    abbrev its_header : (l : 0 < t.count) → List ℕ
    its_header l = segment0 (segments s (good 0 l).start (good 0 l).size)

    is_header : (l : 0 < t.count) → id (original s (good 0 l).at (good 0 l).len) ≡ [] → IsHeader s t (its_header l)
    is_header l z = record { some = l; good = good 0 l; empty = z; is = refl }

    forced_rule_lem : o.forced ≡ true → whole.before ≡ r
    forced_rule_lem q = by_count t.count refl
      where
        by_count : (k : ℕ) → t.count ≡ k → whole.before ≡ r
        by_count zero c = none_left c
        by_count (suc k) c =
            let l : 0 < t.count = omega arith in
            good_either s t 0 (good 0 l) (λ z. sym ((handed (is_header l z)).if_forced q)) (λ n. message_left l n)

    given_rule : o.forced ≡ false → (l : 0 < t.count) → id (original s (good 0 l).at (good 0 l).len) ≡ [] → Counts o f s t r
    given_rule q l z = by_place (handed (is_header l z)).lies refl
      where
        fine_at : {p : Option Stretch} → (handed (is_header l z)).lies ≡ p → Fine o (its_header l) p
        fine_at y = rw y at (handed (is_header l z)).fine

        by_place : (p : Option Stretch) → (handed (is_header l z)).lies ≡ p → Counts o f s t r
        by_place (Some p) x = given q (is_header l z) (fine_at x) ((handed (is_header l z)).if_given p q x)
        by_place None x = absent q (is_header l z) (fine_at x) ((handed (is_header l z)).if_absent q x ∙ not_forced q)

    counts : Counts o f s t r
    counts = by_test (Counts o f s t r) o.forced (λ q. forced q (is_forced q ∙ ap rule (forced_rule_lem q))) (λ q. by_count t.count refl q)
      where
        by_count : (k : ℕ) → t.count ≡ k → o.forced ≡ false → Counts o f s t r
        by_count zero c q = headless q (λ h w. omega (arith, w.some)) (sym (none_left c) ∙ not_forced q)
        by_count (suc k) c q =
            let l : 0 < t.count = omega arith in
            good_either s t 0 (good 0 l) (λ z. given_rule q l z)
            (λ n. headless q (λ h w. n (same_id s t (good 0 l) w.good ∙ w.empty)) (sym (message_left l n) ∙ not_forced q))

    carries : Carries s t n
    carries = by_count t.count refl
      where
        by_count : (k : ℕ) → t.count ≡ k → Carries s t n
        by_count zero c = no_header (λ h w. omega (arith, w.some)) (sym whole.forms_are ∙ none_forms s t c)
        by_count (suc k) c =
            let l : 0 < t.count = omega arith in
            good_either s t 0 (good 0 l)
            (λ z. let w = is_header l z in let g = (handed w).fine in by_header w (g.fields ∙ ap (λ (m : Option ℕ). Some (record { charset = g.label; rule = (handed w).lies; forms = m })) (sym (header_forms s t w g.fields) ∙ whole.forms_are)))
            (λ m. no_header (λ h w. m (same_id s t (good 0 l) w.good ∙ w.empty)) (sym whole.forms_are ∙ message_forms s t l (good 0 l) m))

    pub opened_facts : Sound o f s t r n
    opened_facts =
        let w = head_words s whole.head_is in
        record {
          headed = record { long = w.long; order = w.order; words = w.is; originals_in = w.inside.0; translations_in = w.inside.1 };
          entries = good;
          header = λ h x. record { place = (handed x).lies; fine = (handed x).fine };
          counts = counts;
          carries = carries;
        }

  -- from the facts to the load
  module _ (w : Sound o f s t r n) where
    head_is : head_of s ≡ Ok t
    head_is =
        let h = w.headed in
        words_head s (record { order = h.order; is = h.words; long = h.long; inside = (h.originals_in, h.translations_in) })

    -- the rule before the entries, and what entry 0 makes of it
    record Begins : Type 0 where
      from : Tree
      forced_is : forced_rule o.forced o.reading f ≡ rule from
      if_none : t.count ≡ 0 → from ≡ r
      if_some : (l : 0 < t.count) → entry_step o s from (read_at s t 0) ≡ rule r

    -- entry 0, by its id
    by_first : {u : Tree} → ((h : List ℕ) → IsHeader s t h → header o h u ≡ rule r) → ((l : 0 < t.count) → (id (original s (w.entries 0 l).at (w.entries 0 l).len) ≡ [] → ⊥) → u ≡ r)
        → (l : 0 < t.count) → entry_step o s u (read_at s t 0) ≡ rule r
    by_first {u} x y l =
        let g = w.entries 0 l in
        good_either s t 0 g
        (λ z. let q : IsHeader s t (segment0 (segments s g.start g.size)) = record { some = l; good = g; empty = z; is = refl } in header_step s t o u q ∙ x _ q)
        (λ n. message_step s t o u 0 g n ∙ ap rule (y l n))

    not_header : {h : List ℕ} → IsHeader s t h → (l : 0 < t.count) → (id (original s (w.entries 0 l).at (w.entries 0 l).len) ≡ [] → ⊥) → ⊥
    not_header q l n = n (same_id s t (w.entries 0 l) q.good ∙ q.empty)

    unforced : o.forced ≡ false → forced_rule o.forced o.reading f ≡ rule default_tree
    unforced q = left (parsed Forced o.reading f) (rule default_tree) q

    begins : Counts o f s t r → Begins
    begins (forced q p) = record {
      from = r;
      forced_is = taken (parsed Forced o.reading f) (rule default_tree) q ∙ p;
      if_none = λ c. refl;
      if_some = by_first (λ h x. forced_on o h r (w.header h x).fine q) (λ l n. refl);
    }
    begins (given q {h = h} x y p) = record {
      from = default_tree;
      forced_is = unforced q;
      if_none = λ c. absurd (omega (arith, x.some));
      if_some = by_first
          (λ k z. ap (λ (b : List ℕ). header o b default_tree) (same_header s t z x) ∙ given_on o h default_tree y q refl ∙ p)
          (λ l n. absurd (not_header x l n));
    }
    begins (absent q {h = h} x y p) = record {
      from = default_tree;
      forced_is = unforced q;
      if_none = λ c. absurd (omega (arith, x.some));
      if_some = by_first
          (λ k z. ap (λ (b : List ℕ). header o b default_tree) (same_header s t z x) ∙ given_on o h default_tree y q refl ∙ ap rule (sym p))
          (λ l n. absurd (not_header x l n));
    }
    begins (headless q n p) = record {
      from = default_tree;
      forced_is = unforced q;
      if_none = λ c. sym p;
      if_some = by_first (λ h x. absurd (n h x)) (λ l m. sym p);
    }

    entries_from_lem : (u : Tree) (k : ℕ) → t.count ≡ k → (k ≡ 0 → u ≡ r) → (0 < k → entry_step o s u (read_at s t 0) ≡ rule r) → entries_from o s t k 0 u ≡ rule r
    unfolding entries_from
    entries_from_lem u zero c x y = ap rule (x refl)
    entries_from_lem u (suc k) c x y =
        ap (λ (a : Parse). and_then a (entries_from o s t k 1)) (y (omega arith)) ∙ rest_good s t o k 1 r (omega arith) (λ j l m. w.entries j (omega arith))

    -- the count is the header's, or there is none
    its_forms : Carries s t n → file_forms s t ≡ n
    its_forms (by_header x g) = header_forms s t x g
    its_forms (no_header x e) = by_count t.count refl
      where
        by_count : (k : ℕ) → t.count ≡ k → file_forms s t ≡ n
        by_count zero c = none_forms s t c ∙ sym e
        by_count (suc k) c =
            let l : 0 < t.count = omega arith in
            let g = w.entries 0 l in
            good_either s t 0 g
            (λ z. absurd (x (segment0 (segments s g.start g.size)) (record { some = l; good = g; empty = z; is = refl })))
            (λ m. message_forms s t l g m ∙ sym e)

    pub facts_opened : opened o f s ≡ accepted t r n
    unfolding opened
    facts_opened =
        let b = begins w.counts in
        ap (load_with o s) b.forced_is ∙ ap (catalog o s b.from) head_is
        ∙ ap (answered t (file_forms s t)) (entries_from_lem b.from t.count refl b.if_none b.if_some) ∙ ap (accepted t r) (its_forms w.carries)

  pub opened_exactly : (opened o f s ≡ accepted t r n) ↔ Sound o f s t r n
  opened_exactly = (opened_facts, facts_opened)

-- the last test
module _ (r : Tree) where
  rated_fits : (q : Option (ℕ × ℕ)) (k : ℕ) → rate_tree r ≡ q → fits_range q k ≡ true → Fits r (Some k)
  unfolding fits_range
  rated_fits (Some (l, h)) k e g = record { count = k; given = refl; lowest = l; highest = h; rated = e; below = ltb-true h k g }
  rated_fits None k e g = absurd (no_truth g)

  pub fits_facts : (n : Option ℕ) → fits r n ≡ true → Fits r n
  fits_facts (Some k) e = rated_fits (rate_tree r) k refl e
  fits_facts None e = absurd (no_truth e)

  pub facts_fit : {n : Option ℕ} → Fits r n → fits r n ≡ true
  unfolding fits_range
  facts_fit w = ap (fits r) w.given ∙ ap (λ (q : Option (ℕ × ℕ)). fits_range q w.count) w.rated ∙ lt-ltb w.highest w.count w.below

module _ (o : Options) (f s : List ℕ) (t : Tables) (r : Tree) (n : Option ℕ) where
  accepted_facts : load o f s ≡ accepted t r n → Accepts o f s t r n
  accepted_facts e =
      let w = accepted_fitted o f s e in
      record { sound = opened_facts o f s t r n w.is; fitting = λ q. fits_facts r n (w.fitting q) }

  facts_accepted : Accepts o f s t r n → load o f s ≡ accepted t r n
  unfolding load
  facts_accepted w = ap (fitted o.fit) (facts_opened o f s t r n w.sound) ∙ by_option o.fit w.fitting
    where
      by_option : (b : Bool) → (b ≡ true → Fits r n) → fitted b (accepted t r n) ≡ accepted t r n
      by_option true x = taken _ _ (facts_fit r (x refl))
      by_option false x = refl

  pub accepted_exactly : (load o f s ≡ accepted t r n) ↔ Accepts o f s t r n
  accepted_exactly = (accepted_facts, facts_accepted)

-- The refusals. The first of k entries from i on that does not hand on its rule: those before it do.
record Stops (o : Options) (s : List ℕ) (t : Tables) (k i : ℕ) (r : Tree) (e : Refusal) : Type 0 where
  passed : ℕ
  below : passed < k
  rule_so_far : Tree
  before : entries_from o s t passed i r ≡ rule rule_so_far
  here : entry_step o s rule_so_far (read_at s t (i + passed)) ≡ norule e

module _ (o : Options) (s : List ℕ) (t : Tables) (e : Refusal) where
  stops_by : (k i : ℕ) (r : Tree) → ((u : Tree) → entries_from o s t k (suc i) u ≡ norule e → Stops o s t k (suc i) u e) → (a : Parse) → entry_step o s r (read_at s t i) ≡ a
      → and_then a (entries_from o s t k (suc i)) ≡ norule e → Stops o s t (suc k) i r e
  unfolding entries_from
  stops_by k i r after (rule u) p q =
      let w = after u q in
      let z : suc i + w.passed ≡ i + suc w.passed = omega arith in
      record {
        passed = suc w.passed;
        below = omega (arith, w.below);
        rule_so_far = w.rule_so_far;
        before = ap (λ (a : Parse). and_then a (entries_from o s t w.passed (suc i))) p ∙ w.before;
        here = ap (λ (j : ℕ). entry_step o s w.rule_so_far (read_at s t j)) (sym z) ∙ w.here;
      }
  stops_by k i r after (norule x) p q =
      let z : i + 0 ≡ i = omega arith in
      record { passed = 0; below = omega arith; rule_so_far = r; before = refl; here = ap (λ (j : ℕ). entry_step o s r (read_at s t j)) z ∙ p ∙ q }

  stops : (k i : ℕ) (r : Tree) → entries_from o s t k i r ≡ norule e → Stops o s t k i r e
  unfolding entries_from
  stops zero i r g = absurd (never (sym g))
  stops (suc k) i r g = stops_by k i r (λ u h. stops k (suc i) u h) (entry_step o s r (read_at s t i)) refl g

  -- and back: where the first j hand on, and the next does not, none after it is looked at
  stopped : (j m i : ℕ) (r u : Tree) → entries_from o s t j i r ≡ rule u → entry_step o s u (read_at s t (i + j)) ≡ norule e → entries_from o s t (j + suc m) i r ≡ norule e
  unfolding entries_from
  stopped zero m i r u p q =
      let z : i + 0 ≡ i = omega arith in
      let x : zero + suc m ≡ suc m = omega arith in
      let y : entry_step o s r (read_at s t i) ≡ norule e = ap₂ (λ (v : Tree) (k : ℕ). entry_step o s v (read_at s t k)) (same_rule p) (sym z) ∙ q in
      ap (λ (n : ℕ). entries_from o s t n i r) x ∙ ap (λ (a : Parse). and_then a (entries_from o s t m (suc i))) y
  stopped (suc j) m i r u p q =
      let w = then_rule (entry_step o s r (read_at s t i)) (entries_from o s t j (suc i)) p in
      let z : suc i + j ≡ i + suc j = omega arith in
      let x : suc j + suc m ≡ suc (j + suc m) = omega arith in
      ap (λ (n : ℕ). entries_from o s t n i r) x
      ∙ ap (λ (a : Parse). and_then a (entries_from o s t (j + suc m) (suc i))) w.is
      ∙ stopped j m (suc i) w.from u w.rest (ap (λ (k : ℕ). entry_step o s u (read_at s t k)) z ∙ q)

module _ (o : Options) (f s : List ℕ) (e : Refusal) where
  never_accepted : {t : Tables} {r : Tree} {n : Option ℕ} → accepted t r n ≡ refused e → ⊥
  never_accepted p = let z : ◌≡◌ {A = ℕ} 0 1 = cc in omega arith

  same_refusal : {x : Refusal} → refused x ≡ refused e → x ≡ e
  same_refusal p = cc

  by_entries : {w : Tree} → forced_rule o.forced o.reading f ≡ rule w → {t : Tables} → head_of s ≡ Ok t → (a : Parse) → entries_from o s t t.count 0 w ≡ a
      → answered t (file_forms s t) a ≡ refused e → Fails o f s e
  by_entries p h (rule u) g q = absurd (never_accepted q)
  by_entries {w} p {t} h (norule x) g q =
      let y = stops o s t e t.count 0 w (g ∙ ap norule (same_refusal q)) in
      let z : 0 + y.passed ≡ y.passed = omega arith in
      by_entry p h y.below y.before (ap (λ (k : ℕ). entry_step o s y.rule_so_far (read_at s t k)) (sym z) ∙ y.here)

  by_heads : {w : Tree} → forced_rule o.forced o.reading f ≡ rule w → (h : Result Tables Error) → head_of s ≡ h → catalog o s w h ≡ refused e → Fails o f s e
  by_heads {w} p (Ok t) h q = by_entries p h (entries_from o s t t.count 0 w) refl q
  by_heads p (Err x) h q = by_head p h (sym (same_refusal q))

  by_rules : (a : Parse) → forced_rule o.forced o.reading f ≡ a → load_with o s a ≡ refused e → Fails o f s e
  by_rules (rule w) p q = by_heads p (head_of s) refl q
  by_rules (norule x) p q = by_forced (p ∙ ap norule (same_refusal q))

  opened_fails : opened o f s ≡ refused e → Fails o f s e
  unfolding opened
  opened_fails q = by_rules (forced_rule o.forced o.reading f) refl q

  -- the last test
  by_fitted : (b : Bool) → o.fit ≡ b → (a : Answer) → opened o f s ≡ a → fitted b a ≡ refused e → Fails o f s e
  by_fitted b p (refused x) q g = opened_fails (q ∙ sym (was_refused b x) ∙ g)
  by_fitted false p (accepted t r n) q g = absurd (never_accepted g)
  by_fitted true p (accepted t r n) q g =
      by_test (Fails o f s e) (fits r n)
      (λ y. absurd (never_accepted (sym (taken _ _ y) ∙ g)))
      (λ y.
      let z : refused (at File NotFit) ≡ refused e = sym (left _ _ y) ∙ g in
      by_fit (opened_facts o f s t r n q) p (λ w. no_truth (sym y ∙ facts_fit r w)) (sym (same_refusal z)))

  refused_fails : load o f s ≡ refused e → Fails o f s e
  unfolding load
  refused_fails q = by_fitted o.fit refl (opened o f s) refl q

  refused_so : opened o f s ≡ refused e → load o f s ≡ refused e
  unfolding load
  refused_so q = ap (fitted o.fit) q ∙ was_refused o.fit e

  not_fitting : {t : Tables} {r : Tree} {n : Option ℕ} → opened o f s ≡ accepted t r n → o.fit ≡ true → (Fits r n → ⊥) → load o f s ≡ refused (at File NotFit)
  unfolding load
  not_fitting {t} {r} {n} q p x =
      rw (q, p)
      (by_test (fitted true (accepted t r n) ≡ refused (at File NotFit)) (fits r n) (λ y. absurd (x (fits_facts r n y))) (λ y. left _ _ y))

  fails_refused : Fails o f s e → load o f s ≡ refused e
  unfolding opened
  fails_refused (by_forced p) = refused_so (ap (load_with o s) p)
  fails_refused (by_head {w} p h q) = refused_so (ap (load_with o s) p ∙ ap (catalog o s w) h ∙ ap refused (sym q))
  fails_refused (by_entry {w} {u} {t} {i} p h l x y) =
      let z : t.count ≡ i + suc (t.count - suc i) = omega arith in
      let k : 0 + i ≡ i = omega arith in
      refused_so
      (ap (load_with o s) p ∙ ap (catalog o s w) h
      ∙ ap (answered t (file_forms s t))
      (ap (λ (n : ℕ). entries_from o s t n 0 w) z
      ∙ stopped o s t e i (t.count - suc i) 0 w u x (ap (λ (j : ℕ). entry_step o s u (read_at s t j)) k ∙ y)))
  fails_refused (by_fit {t} {r} {n} w p x q) = not_fitting (facts_opened o f s t r n w) p x ∙ ap refused (sym q)

  pub refused_exactly : (load o f s ≡ refused e) ↔ Fails o f s e
  refused_exactly = (refused_fails, fails_refused)
