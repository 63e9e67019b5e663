-- What stands at the first place of a byte. Assumes nothing.
use Prim.Native.Nat.{ℕ, ◌<◌}
use mathlib.Core.Path.{◌≡◌}
use mathlib.Core.List.{List, [], ◌∷◌}
use native.Mathlib.Omega.{arith}
use lib.ListN.{length, get_or}
use lib.Dec.{eqb}
use borrow.Author.Tests.{eqb-true}
use Rattle.text.specs.Bytes.{place}
use Rattle.text.proofs.Tests.{by_test}
use Rattle.text.proofs.Cuts.{at_once, goes_on}

pub place_stands : (x : ℕ) (s : List ℕ) → place x s < length s → get_or s (place x s) 0 ≡ x
place_stands x [] h = absurd (omega arith)
place_stands x (b ∷ s) h =
    by_test (get_or (b ∷ s) (place x (b ∷ s)) 0 ≡ x) (eqb b x)
    (λ e. rw (at_once x b s e) (eqb-true b x e))
    (λ e. let l : place x s < length s = omega (arith, goes_on x b s e) in rw (goes_on x b s e) (place_stands x s l))
