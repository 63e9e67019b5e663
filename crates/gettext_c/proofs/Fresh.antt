-- A record as a load returned it, unaltered: its arrays hold a tree, the very tree of the load's answer, and answer as that tree does; so
-- 11 cannot come for it and the bytes that it was loaded from. Assumes nothing.
use Prim.Native.Nat.{ℕ, ◌-◌}
use mathlib.Core.Path.{◌≡◌, refl, sym, ap, ◌∙◌}
use mathlib.Core.Bool.{true}
use mathlib.Core.List.{List}
use native.Mathlib.Omega.{arith}
use lib.ListN.{length, get_or}
use borrow.Author.Tests.{eq-eqb}
use Rattle.std.specs.Prelude.{Option, Some, None, Result, Ok}
use Rattle.text.proofs.Tests.{taken}
use Rattle.refusal.specs.Numbers.{number_of, outcome_number}
use Rattle.refusal.specs.declared.Error.{Error}
use Rattle.refusal.specs.declared.Error.TheVariants as error
use Rattle.rules.specs.Value.{eval_tree}
use Rattle.rules.specs.Range.{rate_tree, fits_range}
use Rattle.rules.specs.Pool.{Pool, tree_of, is_tree}
use Rattle.rules.specs.Pack.{packed_size}
use Rattle.rules.specs.Answer.{form_of, range_of, fitting, resolved_of, rated_of, fit_of}
use Rattle.rules.specs.declared.NoForm.{NoForm}
use Rattle.reading_rule.proofs.Joined.{held_is_tree, held_tree, held_resolves, held_rates, held_fits}
use Rattle.container_layout.specs.declared.Tables.{Tables}
use Rattle.lookup_scan.specs.Keys.{last_with}
use Rattle.lookup_scan.specs.declared.Hit.{Hit}
use Rattle.lookup.specs.Lookup.{by_rule, plural, number}
use Rattle.lookup.specs.declared.Reason.TheVariants as reason
use Rattle.lookup.proofs.Reasons.{by_entry_0}
use Rattle.container.specs.Catalog.{Answer, accepted, refused, load, tables_in, tree_in, forms_in}
use Rattle.container.specs.Promise.{outcome_of}
use Rattle.container.specs.declared.Options.{Options}
use Rattle.container.proofs.Accepted.{accepted_length}
use Rattle.container.proofs.Few.{few}
use Rattle.host.specs.Host as host
use Rattle.host.specs.Host.{nodes_in, root_in}
use Rattle.host.specs.declared.Loaded.{Loaded}
use Rattle.gettext_c.specs.Record.{Loads, found, counted}

-- no refusal has number 0
never_0 : (e : Error) → number_of e ≡ 0 → ⊥
never_0 error.Eof e = omega arith
never_0 error.BadMagic e = omega arith
never_0 error.DecodingError e = omega arith
never_0 error.MalformedMetadata e = omega arith
never_0 error.MisplacedMetadata e = omega arith
never_0 error.PluralParsing e = omega arith
never_0 error.UnknownEncoding e = omega arith
never_0 error.RuleTooLong e = omega arith
never_0 error.ZeroModulus e = omega arith
never_0 error.BadRecord e = omega arith
never_0 error.IndexRoom e = omega arith
never_0 error.NotFit e = omega arith
never_0 error.BadSpan e = omega arith

-- so a load with number 0 was accepted
number_0_accepted : (a : Answer) → outcome_number (outcome_of a) ≡ 0 → a ≡ accepted (tables_in a) (tree_in a) (forms_in a)
number_0_accepted (accepted t r n) e = refl
number_0_accepted (refused x) e = absurd (never_0 x.error e)

-- 11 is not the number of what follows from a value
rule_reason : (s : List ℕ) (v : Option ℕ) (h : Option Hit) → number (by_rule s (form_of v) h) ≡ number_of error.BadRecord → ⊥
rule_reason s (Some x) h e = let z = by_entry_0 s x h in omega (arith, sym z ∙ e)
rule_reason s None h e = omega arith

-- with the length right, the number is that of what follows from the rule and the hit
long_number : (s : List ℕ) (t : Tables) (v : Result ℕ NoForm) (h : Option Hit) → length s ≡ t.length → number (plural s t v h) ≡ number (by_rule s v h)
unfolding plural
long_number s t v h e = ap number (taken (by_rule s v h) reason.StaleLength (eq-eqb (length s) t.length e))

module _ (o : Options) (f s : List ℕ) {Q : Pool} {r : Loaded} (loads : Loads (load o f s) Q r) where
  nodes_are : nodes_in r.head ≡ packed_size (tree_in (load o f s))
  nodes_are = ap (λ (h : List ℕ). get_or h 5 0) loads.head_is

  root_is : root_in r.head ≡ nodes_in r.head - 1
  root_is = ap (λ (h : List ℕ). get_or h 6 0) loads.head_is ∙ ap (λ (k : ℕ). k - 1) (sym nodes_are)

  pub fresh_is_tree : is_tree Q (nodes_in r.head) (root_in r.head) ≡ true
  fresh_is_tree = rw root_is (held_is_tree (tree_in (load o f s)) (few o f s) loads.rule_is nodes_are)

  pub fresh_tree : tree_of Q (root_in r.head) ≡ tree_in (load o f s)
  fresh_tree = rw root_is (held_tree (tree_in (load o f s)) (few o f s) loads.rule_is nodes_are)

  pub fresh_resolves : (n : ℕ) → resolved_of Q (nodes_in r.head) (root_in r.head) n ≡ form_of (eval_tree (tree_in (load o f s)) n)
  fresh_resolves n = rw root_is (held_resolves (tree_in (load o f s)) (few o f s) loads.rule_is nodes_are n)

  pub fresh_rates : rated_of Q (nodes_in r.head) (root_in r.head) ≡ range_of (rate_tree (tree_in (load o f s)))
  fresh_rates = rw root_is (held_rates (tree_in (load o f s)) (few o f s) loads.rule_is nodes_are)

  pub fresh_fits : (k : ℕ) → fit_of Q (nodes_in r.head) (root_in r.head) k ≡ fitting (fits_range (rate_tree (tree_in (load o f s))) k)
  fresh_fits k = rw root_is (held_fits (tree_in (load o f s)) (few o f s) loads.rule_is nodes_are k)

  module _ (number_0 : r.number ≡ 0) where
    pub was_accepted : load o f s ≡ accepted (host.tables_in r.head) (tree_in (load o f s)) (forms_in (load o f s))
    was_accepted =
        number_0_accepted (load o f s) (sym loads.number_is ∙ number_0) ∙ ap (λ (t : Tables). accepted t (tree_in (load o f s)) (forms_in (load o f s))) (sym loads.tables_are)

    pub fresh_length : length s ≡ (host.tables_in r.head).length
    fresh_length = sym (accepted_length o f s was_accepted)

    -- 11 comes neither to a lookup without a count nor to one with a count
    pub fresh_never_11 : (key : List ℕ) → number (found s r.head key) ≡ number_of error.BadRecord → ⊥
    fresh_never_11 key e =
        let w = last_with s (host.tables_in r.head) key in
        rule_reason s (Some 0) w (sym (long_number s (host.tables_in r.head) (Ok 0) w fresh_length) ∙ e)

    pub fresh_never_11_counted : (key : List ℕ) (n : ℕ) → number (counted s r.head Q key n) ≡ number_of error.BadRecord → ⊥
    fresh_never_11_counted key n e =
        let t = host.tables_in r.head in
        let w = last_with s t key in
        let v = form_of (eval_tree (tree_in (load o f s)) n) in
        let z : number (counted s r.head Q key n) ≡ number (by_rule s v w) = ap (λ (x : Result ℕ NoForm). number (plural s t x w)) (fresh_resolves n) ∙ long_number s t v w fresh_length in
        rule_reason s (eval_tree (tree_in (load o f s)) n) w (sym z ∙ e)
