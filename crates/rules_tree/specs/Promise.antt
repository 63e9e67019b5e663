-- What a walk in a loop asks of the nodes that it goes over.
use Rattle.std.specs.Prelude.{ℕ, ◌<◌, ◌≤◌, ◌≡◌, Bool, true, false, ◌&&◌, List, get_or, leb, ltb}
use Rattle.rules.specs.Pool.{nay_node}

-- a node with operands whose code is below an end
abbrev pub above : ℕ → ℕ → Bool
above c e = leb nay_node c && ltb c e

-- the places above q, up to p, hold such nodes
pub record Run (codes : List ℕ) (p e q : ℕ) : Type 0 where
  pub below : q ≤ p
  pub all : (i : ℕ) → q < i → i ≤ p → above (get_or codes i 0) e ≡ true

-- and q itself holds none
pub record Stands (codes : List ℕ) (p e q : ℕ) : Type 0 where
  pub run : Run codes p e q
  pub stops : above (get_or codes q 0) e ≡ false
