-- What the functions behind the public ones promise.
use Rattle.std.specs.Prelude.{ℕ, zero, suc, ◌-◌, ◌≡◌, Bool, false, List, Option, Some, None, Result, Ok, Err}
use Rattle.refusal.specs.declared.Refusal.{Refusal}
use Rattle.rules.specs.Pool.{Pool}
use Rattle.rules.specs.Pack.{packed, packed_size}
use Rattle.rules.specs.Answer.{fit_of}
use Rattle.rules.specs.declared.NoTree.{NoTree}
use Rattle.container_layout.specs.declared.Tables.{Tables}
use Rattle.container_messages.specs.Messages.{read_at}
use Rattle.container_messages.specs.declared.Read.{Read}
use Rattle.container.specs.Catalog.{Answer, accepted, refused}
use Rattle.container.specs.declared.Opened.{Opened}

-- what a fit tells; the rule in the arrays, of k nodes, fits a count
abbrev pub is_yes : Result Bool NoTree → Bool
is_yes (Ok b) = b
is_yes (Err e) = false

abbrev pub fits_in : Pool → ℕ → Option ℕ → Bool
fits_in P k (Some n) = is_yes (fit_of P k (k - 1) n)
fits_in P k None = false

-- how the load stands after an entry
abbrev pub read_outcome : Result Read Refusal → Result Unit Refusal
read_outcome (Err e) = Err e
read_outcome (Ok q) = Ok tt

-- the entries from i on, k of them: the first that is refused
abbrev pub go_on : Result Unit Refusal → Result Unit Refusal → Result Unit Refusal
go_on (Ok u) q = q
go_on (Err e) q = Err e

unfoldable pub rest_from : List ℕ → Tables → ℕ → ℕ → Result Unit Refusal
rest_from s t zero i = Ok tt
rest_from s t (suc k) i = go_on (read_outcome (read_at s t i)) (rest_from s t k (suc i))

-- an answer, as the stages of a load give it
abbrev pub given : Answer → Result Opened Refusal
given (accepted t r n) = Ok (record { tables = t; nodes = packed_size r; forms = n })
given (refused e) = Err e

-- the rule alone in the arrays; where the load is refused, they may hold anything
abbrev pub Stored : Answer → Pool → Type 0
Stored (accepted t r n) Q = Q ≡ packed r
Stored (refused e) Q = Unit

pub record Gives (a : Answer) (Q : Pool) (r : Result Opened Refusal) : Type 0 where
  pub given_is : r ≡ given a
  pub stored : Stored a Q
