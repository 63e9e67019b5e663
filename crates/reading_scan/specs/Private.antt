-- What a function inside `index_of` promises: a step of its loop. SPEC 6.
use Rattle.std.specs.Prelude.{ℕ, ◌+◌, true, false, List}
use Rattle.reading_scan.specs.Scan.{stands}

-- how many signs of the pattern are matched after a byte, of which n were before: one that breaks a match starts no other
abbrev pub matched : List ℕ → ℕ → ℕ → ℕ
matched pat n ch = elim (stands pat n ch) [ true ↦ n + 1 | false ↦ 0 ]
