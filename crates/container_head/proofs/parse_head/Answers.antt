-- The size, then the magic, then the tables. Assumes nothing.
use mathlib.Core.Path.{◌≡◌, ◌∙◌}
use native.Mathlib.Omega.{arith}
use borrow.Author.Rules.{rules}
use Rattle.std.specs.Prelude.{Err}
use Rattle.refusal.specs.declared.Error.TheVariants.{BadMagic}
use Rattle.container_head.proofs.Heads.{no_magic, head_told}
use Rattle.container_head.proofs.parse_head.Goals as goal

pub returns-in_err-big : goal.returns-in_err-big
returns-in_err-big c =
    let e : c.from_residual.result ≡ Err BadMagic = search rules in
    e ∙ no_magic _ (omega arith) c.get_read_u32.ensures c.in_err-big.ensures.ok_part

pub returns : goal.returns
returns c = head_told _ (omega arith) c.get_read_u32.ensures c.in_ok-big.ensures.ok_part c.parse_tables.ensures
