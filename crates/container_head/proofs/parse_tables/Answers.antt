-- A table offset above the size ends it; else the fields are words of the file. Assumes nothing.
use native.Mathlib.Omega.{arith}
use Rattle.container_head.proofs.Heads.{originals_out, translations_out, tables_in_lem}
use Rattle.container_head.proofs.parse_tables.Goals as goal

pub returns-then-file-wide : goal.returns-then-file-wide
returns-then-file-wide c = originals_out _ _ c.read_u32-originals.ensures (omega (arith, c.wide.ensures.0, c.if-file-wide.true))

pub returns-then-file-wide-2 : goal.returns-then-file-wide-2
returns-then-file-wide-2 c = translations_out _ _ c.read_u32-originals.ensures c.read_u32-translations.ensures (omega (arith, c.wide-2.ensures.0, c.if-file-wide-2.true))

pub returns : goal.returns
returns c = tables_in_lem _ _ c.read_u32-originals.ensures c.read_u32-count.ensures c.read_u32-translations.ensures (omega (arith, c.wide.ensures.0, c.if-file-wide.false)) (omega (arith, c.wide-2.ensures.0, c.if-file-wide-2.false))
