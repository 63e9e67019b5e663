-- Each public function's promise fixes its result: any two results that it allows on the same input are equal, what it leaves in the
-- arrays that are lent counted in. `Post` is the promise as the check reads it from the source. Assumes nothing.
use Prim.Native.Nat.{ℕ}
use mathlib.Core.Path.{◌≡◌, sym, ◌∙◌}
use mathlib.Core.List.{List}
use contract.Lifetimes.{Lfts}
use denote.Triple.Clauses.{AtExit}
use borrow.Fn.Kinds.{ended_of}
use Rattle.promise.proofs.One.{One, OneLeft}
use Rattle.rules.specs.Pool.{Pool}
use Rattle.rules.specs.Lent.{pool_left}
use Rattle.reading_rule.specs.declared.Reading.{Reading}
use Rattle.std.specs.Prelude.{Option, Some, None, Result, Ok, Err}
use Rattle.refusal.specs.declared.Refusal.{Refusal}
use Rattle.reading_rule.proofs.Unique.{parses_one}
use Rattle.text.specs.declared.Stretch.{Stretch}
use Rattle.container_rule.specs.Promise.{Taken, Chosen, Chooses}
use Rattle.container_rule.specs.declared.First.{First}
use Rattle.container_rule.proofs.parse_first.Reads as parse-first
use Rattle.container_rule.proofs.parse_first.Kinds as parse-first-kinds
use Rattle.container_rule.proofs.parse_forced.Reads as parse-forced
use Rattle.container_rule.proofs.parse_forced.Kinds as parse-forced-kinds
use Rattle.container_rule.proofs.forms_of.Reads as forms-of
use Rattle.container_rule.proofs.forms_of.Kinds as forms-of-kinds
use Rattle.container_rule.proofs.rule_of.Reads as rule-of
use Rattle.container_rule.proofs.rule_of.Kinds as rule-of-kinds

pub parse_first_one : One 1 parse-first-kinds.ps parse-first-kinds.r parse-first.Post
parse_first_one κs a u v x y p q = p ∙ sym q

abbrev forced_left : (κs : Lfts 3) → AtExit (ended_of 3 parse-forced-kinds.ps parse-forced-kinds.r) κs → Pool
forced_left κs x = pool_left x.1.1.1.0.now

pub parse_forced_one : OneLeft 3 parse-forced-kinds.ps parse-forced-kinds.r parse-forced.Post forced_left
parse_forced_one κs a u v x y p q = parses_one _ u v p.1 q.1

pub forms_of_one : One 0 forms-of-kinds.ps forms-of-kinds.r forms-of.Post
forms_of_one κs a u v x y p q = p ∙ sym q

module _ (reading : Reading) (s : List ℕ) (k : ℕ) (O P Q : Pool) (u v : Result ℕ Refusal) where
  taken_one : (p : Option Stretch) → Taken reading s p k O P u → Taken reading s p k O Q v → (u ≡ v) × (P ≡ Q)
  taken_one (Some p) a b = parses_one _ u v a b
  taken_one None a b = (a.0 ∙ sym b.0, a.1 ∙ sym b.1)

  chosen_one : (f : Result First Refusal) → Chosen reading s f k O P u → Chosen reading s f k O Q v → (u ≡ v) × (P ≡ Q)
  chosen_one (Ok f) a b = taken_one f.rule a b
  chosen_one (Err e) a b = parses_one _ u v a b

chooses_one : {reading : Reading} {s : List ℕ} {f : Result First Refusal} {k : ℕ} {O P Q : Pool} (u v : Result ℕ Refusal) → Chooses reading s f k O P u
    → Chooses reading s f k O Q v → (u ≡ v) × (P ≡ Q)
chooses_one {reading} {s} {f} {k} {O} {P} {Q} u v p q = chosen_one reading s k O P Q u v f p.chosen q.chosen

abbrev rule_left : (κs : Lfts 3) → AtExit (ended_of 3 rule-of-kinds.ps rule-of-kinds.r) κs → Pool
rule_left κs x = pool_left x.1.1.1.1.0.now

pub rule_of_one : OneLeft 3 rule-of-kinds.ps rule-of-kinds.r rule-of.Post rule_left
rule_of_one κs a u v x y p q = chooses_one u v p.1 q.1
