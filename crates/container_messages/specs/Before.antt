-- An entry without its place: what loading reads of it and the error alone, as it was before a refusal said where (SPEC 2.1).
-- proofs/Before.antt shows that `read_at` with its place forgotten is this (`read_forgotten`).
use Rattle.std.specs.Prelude.{ℕ, List, Result, Ok, Err}
use Rattle.container_layout.specs.Mo.{string}
use Rattle.container_layout.specs.declared.Tables.{Tables}
use Rattle.refusal.specs.declared.Error.{Error}
use Rattle.container_messages.specs.declared.Original.{Original}
use Rattle.container_messages.specs.declared.Original.TheVariants as original
use Rattle.text.specs.declared.Stretch.{Stretch}
use Rattle.container_messages.specs.Messages.{original_in, translation_in}

pub data Read : Type 0 where
  message : Read
  header : ℕ → ℕ → Read
  refused : Error → Read

abbrev pub joined : Result Original Error → Result Stretch Error → Read
joined (Err e) t = refused e
joined (Ok original.Named) (Ok p) = message
joined (Ok original.Named) (Err e) = refused e
joined (Ok original.Empty) (Ok p) = header p.start p.len
joined (Ok original.Empty) (Err e) = refused e

unfoldable pub read_at : List ℕ → Tables → ℕ → Read
read_at s t i = joined (original_in s i (string t.big s t.originals i)) (translation_in s (string t.big s t.translations i))
