-- Computed: three entries over the same ten bytes, one of whose cells lies outside; no head; 2^64 - 1 for what is above it. Assumes nothing.
use Prim.Native.Nat.{ℕ, ◌-◌, ◌^◌}
use mathlib.Core.Path.{◌≡◌, refl}
use mathlib.Core.List.{List, [], ◌∷◌, ◌++◌}
use Rattle.container_cost.specs.Cost.{cost, capped}

word : ℕ → List ℕ
word n = n ∷ 0 ∷ 0 ∷ 0 ∷ []

-- originals at 28, translations at 52, which is the third original's end; lengths 10, 10, 10, and 7, 8
file : List ℕ
file =
    0xde ∷ 0x12 ∷ 0x04 ∷ 0x95 ∷ word 0 ++ word 3 ++ word 28 ++ word 52 ++ word 0 ++ word 0
    ++ word 10 ++ word 0 ++ word 10 ++ word 0 ++ word 10 ++ word 0 ++ word 7 ++ word 0 ++ word 8 ++ word 0

overlapping : cost file ≡ 45
unfolding cost word file
overlapping = refl

headless : cost [] ≡ 0
unfolding cost
headless = refl

largest : capped (2 ^ 64 - 1) ≡ 2 ^ 64 - 1
unfolding capped
largest = refl

above : capped (2 ^ 64) ≡ 2 ^ 64 - 1
unfolding capped
above = refl
