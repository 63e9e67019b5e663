-- The entries of a file. SPEC 3.4 and 3.5. A stage hands on its value or its refusal, with the entry's index and the side (SPEC 2).
use Rattle.std.specs.Prelude.{ℕ, true, false, List, [], ◌∷◌, eqb, Option, Some, None, Result, Ok, Err}
use Rattle.text_utf8.specs.Utf8.{utf8}
use Rattle.text.specs.Cut.{every}
use Rattle.container_layout.specs.Mo.{string, original, context, id, ended, segments}
use Rattle.container_layout.specs.declared.Tables.{Tables}
use Rattle.text.specs.declared.Stretch.{Stretch}
use Rattle.refusal.specs.Places.{at}
use Rattle.refusal.specs.declared.Error.{Error}
use Rattle.refusal.specs.declared.Error.TheVariants.{Eof, DecodingError, MisplacedMetadata}
use Rattle.refusal.specs.declared.Refusal.{Refusal}
use Rattle.refusal.specs.declared.Side.{Side}
use Rattle.refusal.specs.declared.Side.TheVariants as side
use Rattle.refusal.specs.declared.Where.TheVariants.{Entry}
use Rattle.container_messages.specs.declared.Original.{Original}
use Rattle.container_messages.specs.declared.Original.TheVariants as original
use Rattle.container_messages.specs.declared.Read.{Read}
use Rattle.container_messages.specs.declared.Read.TheVariants as read

-- 4. an original, o being its string with the byte after it
abbrev pub identified : ℕ → List ℕ → Result Original Error
identified i [] = elim (eqb i 0) [ true ↦ Ok original.Empty | false ↦ Err MisplacedMetadata ]
identified i (b ∷ s) = Ok original.Named

unfoldable pub original_of : ℕ → List ℕ → Result Original Error
original_of i o =
    elim (utf8 (context o)) [
      | false ↦ Err DecodingError
      | true ↦ elim (ended o) [
        | false ↦ Err Eof
        | true ↦ elim (utf8 (id o)) [ false ↦ Err DecodingError | true ↦ identified i (id o) ]
      ]
    ]

abbrev pub original_in : List ℕ → ℕ → Option Stretch → Result Original Error
original_in s i (Some p) = original_of i (original s p.start p.len)
original_in s i None = Err Eof

-- 5. a translation; the byte after it is not looked at
abbrev pub translation_in : List ℕ → Option Stretch → Result Stretch Error
translation_in s (Some p) = elim (every utf8 (segments s p.start p.len)) [ true ↦ Ok p | false ↦ Err DecodingError ]
translation_in s None = Err Eof

-- entry i: a refused original counts before a refused translation, the header's too
abbrev pub refused_on : ℕ → Side → Error → Result Read Refusal
refused_on i k e = Err (at (Entry i k) e)

abbrev pub joined : ℕ → Result Original Error → Result Stretch Error → Result Read Refusal
joined i (Err e) t = refused_on i side.Original e
joined i (Ok original.Named) (Ok p) = Ok read.Message
joined i (Ok original.Named) (Err e) = refused_on i side.Translation e
joined i (Ok original.Empty) (Ok p) = Ok (read.Header p)
joined i (Ok original.Empty) (Err e) = refused_on i side.Translation e

unfoldable pub read_at : List ℕ → Tables → ℕ → Result Read Refusal
unfolding original_of
read_at s t i = joined i (original_in s i (string t.big s t.originals i)) (translation_in s (string t.big s t.translations i))
