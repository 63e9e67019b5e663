-- Forgetting the place of an entry gives what was read before: the same errors, in the same order. Assumes nothing.
use Prim.Native.Nat.{ℕ}
use mathlib.Core.Path.{◌≡◌, refl}
use mathlib.Core.List.{List}
use Rattle.container_layout.specs.Mo.{string}
use Rattle.container_layout.specs.declared.Tables.{Tables}
use Rattle.container_messages.specs.declared.Original.{Original}
use Rattle.container_messages.specs.declared.Original.TheVariants as original
use Rattle.std.specs.Prelude.{Result, Ok, Err}
use Rattle.refusal.specs.declared.Error.{Error}
use Rattle.refusal.specs.declared.Refusal.{Refusal}
use Rattle.text.specs.declared.Stretch.{Stretch}
use Rattle.container_messages.specs.declared.Read.{Read}
use Rattle.container_messages.specs.declared.Read.TheVariants as read
use Rattle.container_messages.specs.Messages.{original_in, translation_in, joined, read_at}
use Rattle.container_messages.specs.Before as before

abbrev pub forget_read : Result Read Refusal → before.Read
forget_read (Ok read.Message) = before.message
forget_read (Ok (read.Header p)) = before.header p.start p.len
forget_read (Err r) = before.refused r.error

joined_same : (i : ℕ) (a : Result Original Error) (b : Result Stretch Error) → forget_read (joined i a b) ≡ before.joined a b
joined_same i (Err e) b = refl
joined_same i (Ok original.Named) (Ok p) = refl
joined_same i (Ok original.Named) (Err e) = refl
joined_same i (Ok original.Empty) (Ok p) = refl
joined_same i (Ok original.Empty) (Err e) = refl

pub read_forgotten : (s : List ℕ) (t : Tables) (i : ℕ) → forget_read (read_at s t i) ≡ before.read_at s t i
unfolding read_at before.read_at
read_forgotten s t i = joined_same i (original_in s i (string t.big s t.originals i)) (translation_in s (string t.big s t.translations i))
