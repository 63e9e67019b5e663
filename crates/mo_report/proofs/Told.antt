-- What a load leaves, as it is told. Assumes nothing.
use Prim.Native.Nat.{ℕ, ◌-◌, ◌<◌}
use mathlib.Core.Path.{◌≡◌, ap, ◌∙◌}
use mathlib.Core.List.{List}
use native.Mathlib.Omega.{arith}
use Rattle.std.specs.Prelude.{Option, Result, Ok, Err}
use Rattle.refusal.specs.declared.Refusal.{Refusal}
use Rattle.rules.specs.declared.NoTree.{NoTree}
use Rattle.rules.specs.Range.{rate_tree}
use Rattle.rules.specs.Pool.{Pool}
use Rattle.rules.specs.Answer.{range_of, rated_of}
use Rattle.reading_rule.proofs.Joined.{held_rates}
use Rattle.container_layout.specs.declared.Tables.{Tables}
use Rattle.container.specs.Catalog.{Answer, accepted, refused, load, tree_in}
use Rattle.container.specs.Promise.{Loads}
use Rattle.container.specs.declared.Loading.{Loading}
use Rattle.container.proofs.Few.{few}
use Rattle.container.proofs.Stages.{some_nodes}
use Rattle.mo_report.specs.Report as spec
use Rattle.mo_report.specs.Report.{options, report_of}
use Rattle.mo_report.specs.declared.Said.{Said}

abbrev told_by : ℕ → Result (Option (ℕ × ℕ)) NoTree → Result Said Refusal
told_by k x = Ok (record { entries = k; range = x })

-- any load leaves a node
pub some : (a : Answer) {Q : Pool} {r : Loading} → Loads a Q r → 0 < r.nodes
some a h = some_nodes (tree_in a) h.nodes_are

module _ (s : List ℕ) {Q : Pool} {r : Loading} (h : Loads (load options s s) Q r) where
  rates : {x : Result (Option (ℕ × ℕ)) NoTree} → x ≡ rated_of Q r.nodes (r.nodes - 1) → x ≡ range_of (rate_tree (tree_in (load options s s)))
  rates e = e ∙ held_rates (tree_in (load options s s)) (few options s s) h.rule_is h.nodes_are

  by_answer : (a : Answer) → Loads a Q r → r.outcome ≡ Ok tt → told_by r.tables.count (range_of (rate_tree (tree_in a))) ≡ spec.told a
  by_answer (accepted t u n) g e = ap (λ (x : Tables). told_by x.count (range_of (rate_tree u))) g.tables_are
  by_answer (refused x) g e = absurd (let p = g.outcome_is in let z : ◌≡◌ {A = ℕ} 0 1 = cc in omega arith)

  pub entries : {x : Result (Option (ℕ × ℕ)) NoTree} → r.outcome ≡ Ok tt → x ≡ rated_of Q r.nodes (r.nodes - 1) → told_by r.tables.count x ≡ report_of s
  unfolding report_of
  entries e g = ap (told_by r.tables.count) (rates g) ∙ by_answer (load options s s) h e

  by_refusal : (a : Answer) → Loads a Q r → {x : Refusal} → r.outcome ≡ Err x → Err x ≡ spec.told a
  by_refusal (accepted t u n) g e = absurd (let p = g.outcome_is in let z : ◌≡◌ {A = ℕ} 0 1 = cc in omega arith)
  by_refusal (refused y) g {x} e = let p = g.outcome_is in let q : x ≡ y = cc in ap Err q

  pub refusal : {x : Refusal} → r.outcome ≡ Err x → Err x ≡ report_of s
  unfolding report_of
  refusal e = by_refusal (load options s s) h e
