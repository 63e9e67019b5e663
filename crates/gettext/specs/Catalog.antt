-- What a record says to a lookup. SPEC 8: the tables and the rule as nodes; and what the four lookups answer.
use Rattle.std.specs.Prelude.{ℕ, List, Result}
use Rattle.rules.specs.Pool.{Pool, pool}
use Rattle.rules.specs.Answer.{resolved_of}
use Rattle.rules.specs.declared.NoForm.{NoForm}
use Rattle.lookup_scan.specs.Keys.{last_with}
use Rattle.lookup.specs.Lookup.{singular, plural}
use Rattle.lookup.specs.declared.Reason.{Reason}
use Rattle.container.specs.declared.Record.{Record}

abbrev pub pool_of : Record → Pool
pool_of c = pool c.codes c.places c.values

-- the rule's value at a count
abbrev pub value_at : Record → ℕ → Result ℕ NoForm
value_at c n = resolved_of (pool_of c) c.nodes c.root n

-- a lookup of a key in the file s, and one with a count
abbrev pub found : List ℕ → Record → List ℕ → Reason
found s c key = singular s c.tables (last_with s c.tables key)

abbrev pub counted : List ℕ → Record → List ℕ → ℕ → Reason
counted s c key n = plural s c.tables (value_at c n) (last_with s c.tables key)
