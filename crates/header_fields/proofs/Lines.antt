-- Every line of a header, as a loop over them meets it. Assumes nothing.
use Prim.Native.Nat.{ℕ, ◌+◌, ◌-◌, ◌<◌, ◌≤◌}
use mathlib.Core.Path.{◌≡◌, sym, ap, ◌∙◌}
use mathlib.Core.Bool.{Bool, true, false}
use mathlib.Core.List.{List}
use lib.ListN.{length, take, drop}
use lib.Dec.{ltb}
use borrow.Author.Tests.{ltb-true, ltb-false}
use Rattle.text.specs.Bytes.{place}
use Rattle.text.specs.Cut.{cut, every}
use Rattle.text.proofs.Tests.{by_test}
use Rattle.text.proofs.Cuts.{rest_last, rest_more, rest_bound}

-- the pieces before at pass the test
module _ (f : List ℕ → Bool) (x : ℕ) (s : List ℕ) where
  abbrev pub Passed : ℕ → Type 0
  Passed at = every f (cut x s) ≡ every f (cut x (drop at s))

  module _ (at end : ℕ) (e : end ≡ at + place x (drop at s)) (i : at ≤ length s) (m : Passed at) where
    pub passed_last : length s ≤ end → f (take (end - at) (drop at s)) ≡ true → true ≡ every f (cut x s)
    unfolding every
    passed_last h t = sym (m ∙ ap (every f) (rest_last x s at end e i h) ∙ rw t)

    pub passed_more : end < length s → f (take (end - at) (drop at s)) ≡ true → Passed (end + 1)
    unfolding every
    passed_more h t = m ∙ ap (every f) (rest_more x s at end e h) ∙ rw t

    pub passed_not : f (take (end - at) (drop at s)) ≡ false → false ≡ every f (cut x s)
    unfolding every
    passed_not t =
        by_test (false ≡ every f (cut x s)) (ltb end (length s))
        (λ q. sym (m ∙ ap (every f) (rest_more x s at end e (ltb-true _ _ q)) ∙ rw t))
        (λ q. sym (m ∙ ap (every f) (rest_last x s at end e i (ltb-false _ _ q)) ∙ rw t))

-- what `lines_ok` may use
pub ruleset passed_cases = (rest_bound, passed_last, passed_more, passed_not)
