-- A key as long as the file has no entry; else the search says. Assumes nothing.
use mathlib.Core.Path.{◌∙◌}
use Rattle.lookup_scan.specs.Keys.{bytes_of}
use Rattle.lookup_scan.proofs.Keys.{sized_long}
use Rattle.lookup_index.proofs.Searched.{hit_long}
use Rattle.lookup_index.proofs.hit_in.Goals as goal

pub returns-in_err-n : goal.returns-in_err-n
returns-in_err-n c = c.from_residual.ensures ∙ hit_long _ _ _ _ (sized_long (bytes_of c.args.key) c.size_of.ensures c.in_err-n.was)
