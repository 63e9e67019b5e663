use mathlib.Core.Path.{◌≡◌, sym, ◌∙◌}
use native.Mathlib.Omega.{arith}
use Rattle.reading_levels.proofs.Table.{stands_if, row_on, row_here, row_end}
use Rattle.reading_levels.proofs.row_of.Goals as goal

pub returns-then-is_some : goal.returns-then-is_some
returns-then-is_some c = row_here _ _ c.loop-row.invariant c.loop-row-test.true (sym (stands_if _ _ c.is_some.ensures c.place_of.ensures) ∙ c.if-is_some.true)

pub loop-row-preserved : goal.loop-row-preserved
loop-row-preserved c = row_on _ _ c.loop-row.invariant c.loop-row-test.true (sym (stands_if _ _ c.is_some.ensures c.place_of.ensures) ∙ c.if-is_some.false)

pub returns : goal.returns
returns c = let all : c.loop-row.row ≡ 10 = omega arith in row_end _ _ c.loop-row.invariant all
