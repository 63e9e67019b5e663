-- Why a lookup with a count answers as it does, by the record as a host holds it: its head h and its rule P.
use Rattle.std.specs.Prelude.{ℕ, List}
use Rattle.rules.specs.Pool.{Pool}
use Rattle.rules_zero.specs.Zero.{traced_of}
use Rattle.lookup_scan.specs.Keys.{last_with}
use Rattle.lookup_why.specs.Why.{why}
use Rattle.lookup_why.specs.declared.Why.{Why}
use Rattle.host.specs.Host.{tables_in, nodes_in, root_in}

abbrev pub why_counted : List ℕ → List ℕ → Pool → List ℕ → ℕ → Why
why_counted s h P key n = why s (tables_in h) (traced_of P (nodes_in h) (root_in h) n) (last_with s (tables_in h) key)
