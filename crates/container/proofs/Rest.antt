-- The entries after entry 0, as the loop meets them. Assumes nothing.
use Prim.Native.Nat.{ℕ, suc, ◌+◌, ◌-◌, ◌<◌, ◌≤◌}
use mathlib.Core.Path.{◌≡◌, sym, ◌∙◌}
use Rattle.container_layout.specs.declared.Tables.{Tables}
use mathlib.Core.List.{List}
use native.Mathlib.Omega.{arith}
use native.Mathlib.Numerals.{add-one}
use Rattle.container_messages.specs.Messages.{read_at}
use Rattle.refusal.specs.declared.Refusal.{Refusal}
use Rattle.container_messages.specs.declared.Read.{Read}
use Rattle.std.specs.Prelude.{Result, Ok, Err}
use Rattle.container.specs.Private.{read_outcome, go_on, rest_from}

-- the entries from i on decide
module _ (s : List ℕ) (t : Tables) where
  abbrev pub Left : ℕ → Type 0
  Left i = rest_from s t (t.count - 1) 1 ≡ rest_from s t (t.count - i) i

  turn : (i : ℕ) → i < t.count → rest_from s t (t.count - i) i
      ≡ go_on (read_outcome (read_at s t i)) (rest_from s t (t.count - (i + 1)) (i + 1))
  unfolding rest_from
  turn i h = let z : t.count - i ≡ suc (t.count - (i + 1)) = omega arith in rw (z, add-one i)

  module _ (i : ℕ) (m : Left i) where
    pub left_none : t.count ≤ i → Ok tt ≡ rest_from s t (t.count - 1) 1
    unfolding rest_from
    left_none h = let z : t.count - i ≡ 0 = omega arith in sym (m ∙ rw z)

    module _ (h : i < t.count) {q : Result Read Refusal} (e : q ≡ read_at s t i) where
      so : rest_from s t (t.count - 1) 1 ≡ go_on (read_outcome q) (rest_from s t (t.count - (i + 1)) (i + 1))
      so = m ∙ turn i h ∙ rw e

      pub left_stop : {x : Refusal} → q ≡ Err x → Err x ≡ rest_from s t (t.count - 1) 1
      left_stop g = sym (so ∙ rw g)

      pub left_more : {u : Read} → q ≡ Ok u → Left (i + 1)
      left_more g = so ∙ rw g
