-- What the functions of this crate ask and promise.
use Rattle.std.specs.Prelude.{ℕ, ◌≡◌, List, take, drop, Option, Some, None, Result, Ok, Err}
use Rattle.refusal.specs.Places.{in_rule}
use Rattle.refusal.specs.declared.Refusal.{Refusal}
use Rattle.rules.specs.Pool.{Pool}
use Rattle.reading_rule.specs.Plurals.{norule, parsed, Parses}
use Rattle.reading_rule.specs.declared.Reading.{Reading}
use Rattle.header_fields.specs.Promise.{end_of}
use Rattle.text.specs.declared.Stretch.{Stretch}
use Rattle.container_rule.specs.declared.First.{First}

-- where a rule ends
abbrev pub end_of_rule : Result First Refusal → ℕ
end_of_rule (Ok f) = end_of f.rule
end_of_rule (Err e) = 0

-- the count beside it
abbrev pub forms_of : Result First Refusal → Option ℕ
forms_of (Ok f) = f.forms
forms_of (Err e) = None

-- the rule at that place takes the place of the one before, of k nodes, and the default that of a refusal: P are the arrays before, Q after
abbrev pub Taken : Reading → List ℕ → Option Stretch → ℕ → Pool → Pool → Result ℕ Refusal → Type 0
Taken reading s (Some p) k P Q r = Parses (parsed in_rule reading (take p.len (drop p.start s))) Q r
Taken reading s None k P Q r = (r ≡ Ok k) × (Q ≡ P)

abbrev pub Chosen : Reading → List ℕ → Result First Refusal → ℕ → Pool → Pool → Result ℕ Refusal → Type 0
Chosen reading s (Ok f) k P Q r = Taken reading s f.rule k P Q r
Chosen reading s (Err e) k P Q r = Parses (norule e) Q r

pub record Chooses (reading : Reading) (s : List ℕ) (f : Result First Refusal) (k : ℕ) (P Q : Pool) (r : Result ℕ Refusal) : Type 0 where
  pub chosen : Chosen reading s f k P Q r
