-- The tests of both strings, and then the key of the original. Assumes nothing.
use mathlib.Core.Path.{sym, ap, ◌∙◌}
use native.Mathlib.Omega.{arith}
use Rattle.container_layout.proofs.Cells.{string_told}
use Rattle.container_layout.proofs.Entries.{no_original}
use Rattle.lookup_index.specs.Private.{key_of_entry}
use Rattle.lookup_index.proofs.Keyed.{no_translation, with_translation}
use Rattle.lookup_index.proofs.key_at.Goals as goal

pub returns-in_err-original : goal.returns-in_err-original
returns-in_err-original c = c.from_residual.ensures ∙ ap (key_of_entry c.args.file.now) (no_original _ _ _ c.string_at.ensures c.in_err-original.was)

pub returns-in_err-_translation : goal.returns-in_err-_translation
returns-in_err-_translation c =
    c.from_residual-in_err-_translation.ensures
    ∙ no_translation _ _ _ c.string_at.ensures c.in_ok-original.was c.string_at-2.ensures c.in_err-_translation.was

pub key_in-requires : goal.key_in-requires
key_in-requires c = omega (arith, string_told _ _ _ _ (sym c.string_at.ensures ∙ c.in_ok-original.was))

pub returns : goal.returns
returns c =
    with_translation _ _ _ c.string_at.ensures c.in_ok-original.was c.string_at-2.ensures c.in_ok-_translation.was c.key_in.ensures
