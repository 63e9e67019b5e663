-- No head, nothing stated; else both tables' sums. Assumes nothing.
use mathlib.Core.Path.{◌∙◌}
use Rattle.container_cost.proofs.Sums.{capped_min, no_cost, the_cost}
use Rattle.container_cost.proofs.cost.Goals as goal

pub returns-in_default : goal.returns-in_default
returns-in_default c = no_cost _ c.parse_head.ensures c.in_default.is

pub returns : goal.returns
returns c = the_cost _ c.parse_head.ensures c.in-Ok.is c.table_lengths-originals.ensures c.table_lengths-translations.ensures (c.saturating_add.ensures ∙ capped_min _)
