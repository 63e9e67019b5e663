-- A text in ASCII is right. Assumes nothing.
use Prim.Native.Nat.{ℕ}
use mathlib.Core.Path.{◌≡◌, refl, ap, ◌∙◌}
use mathlib.Core.Bool.{true, false}
use mathlib.Core.List.{List, [], ◌∷◌}
use mathlib.Core.Option.{Option, none, some}
use lib.ListN.{drop}
use Rattle.text.specs.Bytes.{within, all}
use Rattle.text.proofs.Tests.{taken, and_left, and_right}
use Rattle.text_utf8.specs.Utf8.{Bytes, table, after, rest, utf8}

ascii_first : (b : ℕ) (s : List ℕ) → within (0, 0x7F) b ≡ true → utf8 (b ∷ s) ≡ utf8 s
unfolding utf8 rest
ascii_first b s e = ap (λ (o : Option (List Bytes)). elim o [ none ↦ false | some rs ↦ rest rs s ]) (taken (some []) (after (drop 1 table) b) e)

pub ascii_right : (s : List ℕ) → all (within (0, 0x7F)) s ≡ true → utf8 s ≡ true
unfolding all utf8 rest
ascii_right [] e = refl
ascii_right (b ∷ s) e =
    ascii_first b s (and_left (within (0, 0x7F) b) (all (within (0, 0x7F)) s) e)
    ∙ ascii_right s (and_right (within (0, 0x7F) b) (all (within (0, 0x7F)) s) e)
