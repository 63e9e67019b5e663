-- The stages that read a rule. Assumes nothing.
use Prim.Native.Nat.{ℕ}
use mathlib.Core.Path.{◌≡◌, ap}
use mathlib.Core.List.{List}
use Rattle.std.specs.Prelude.{Option, Some, None, Result, Ok, Err}
use Rattle.refusal.specs.declared.Refusal.{Refusal}
use Rattle.rules.specs.Tree.{Tree}
use Rattle.rules.specs.Pool.{Pool}
use Rattle.rules.specs.Pack.{packed_size, packed}
use Rattle.reading_rule.specs.Plurals.{rule, Parses}
use Rattle.reading_rule.specs.declared.Reading.{Reading}
use Rattle.text.specs.declared.Stretch.{Stretch}
use Rattle.container_rule.specs.Rule.{rule_by, rule_in}
use Rattle.container_rule.specs.Promise.{Taken, Chosen, Chooses}
use Rattle.container_rule.specs.declared.First.{First}

-- a tree alone in the arrays, of k nodes, is a rule
pub a_rule : {t : Tree} {Q : Pool} {k : ℕ} → Q ≡ packed t → k ≡ packed_size t → Parses (rule t) Q (Ok k)
a_rule e f = record { outcome = ap Ok f; stored = e }

-- the stage's rule, whatever tree was there before
module _ (reading : Reading) (s : List ℕ) (t : Tree) {k : ℕ} {P Q : Pool} {r : Result ℕ Refusal} (stored : P ≡ packed t) (nodes : k ≡ packed_size t) where
  by_place : (p : Option Stretch) → Taken reading s p k P Q r → Parses (rule_by reading s t p) Q r
  by_place (Some p) c = c
  by_place None c = rw (c.0, c.1) (a_rule stored nodes)

  by_first : (f : Result First Refusal) → Chosen reading s f k P Q r → Parses (rule_in reading s t f) Q r
  by_first (Ok f) c = by_place f.rule c
  by_first (Err e) c = c

  pub choosing : (f : Result First Refusal) → Chooses reading s f k P Q r → Parses (rule_in reading s t f) Q r
  choosing f c = by_first f c.chosen
