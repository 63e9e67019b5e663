-- What each function of the reader promises: the outcome of the reading (grammar's specs/Reading.antt; document 01, "Two readings of a
-- rule") from a position on, with its tree stored from a place on and at least one byte read for each node.
use Rattle.std.specs.Prelude.{ℕ, ◌+◌, ◌-◌, ◌≤◌, ◌≡◌, List, length, drop, Option, Some, None}
use Rattle.rules.specs.Tree.{Tree}
use Rattle.rules.specs.Pool.{Pool}
use Rattle.rules.specs.Store.{size, store}
use Rattle.reading_grammar.specs.Grammar.{Token}
use Rattle.reading_grammar.specs.Tokens.{tokens}
use Rattle.reading_grammar.specs.Reading.{Outcome, got, bad, Level, More, Prefix}

-- the next free place and the position after what was read, or nothing
abbrev pub Part : Type 0
Part = Option (ℕ × ℕ)

-- from place k on there is a place for each byte from at on
pub record Room (s : List ℕ) (at k : ℕ) : Type 0 where
  pub left : at ≤ length s
  pub few : k + (length s - at) ≤ 512

-- a tree was read from at on, the tokens r are left, and its nodes stand from k on: P are the arrays before, Q after
pub record Done (t : Tree) (r : List Token) (s : List ℕ) (at k : ℕ) (P Q : Pool) (x : Part) : Type 0 where
  pub next : ℕ
  pub answer : x ≡ Some (k + size t, next)
  pub rest : r ≡ tokens (drop next s)
  pub stored : Q ≡ store t k P
  pub further : at + size t ≤ next
  pub within : next ≤ length s

abbrev pub Wrote : Outcome → List ℕ → ℕ → ℕ → Pool → Pool → Part → Type 0
Wrote (got t r) s at k P Q x = Done t r s at k P Q x
Wrote bad s at k P Q x = x ≡ None

-- a tree t was read from h to at, and its nodes stand from k to m: O are the arrays before, P after
pub record Before (t : Tree) (h at k m : ℕ) (O P : Pool) : Type 0 where
  pub free : m ≡ k + size t
  pub stored : P ≡ store t k O
  pub further : h + size t ≤ at

pub record LevelWrote (l : ℕ) (s : List ℕ) (at k : ℕ) (P Q : Pool) (x : Part) : Type 0 where
  pub read : Wrote (Level l (tokens (drop at s))) s at k P Q x

pub record PrefixWrote (s : List ℕ) (at k : ℕ) (P Q : Pool) (x : Part) : Type 0 where
  pub read : Wrote (Prefix (tokens (drop at s))) s at k P Q x

-- whatever tree stands before m
pub record MoreWrote (j : ℕ) (s : List ℕ) (at m : ℕ) (P Q : Pool) (x : Part) : Type 0 where
  pub read : (t : Tree) (h k : ℕ) (O : Pool) → Before t h at k m O P → Wrote (More j t (tokens (drop at s))) s h k O Q x

-- in a loop: the arrays O and the places m, q of level 0 have become Q and u, p, those of level j
pub record Climbs (s : List ℕ) (at k : ℕ) (O : Pool) (m q j : ℕ) (Q : Pool) (u p : ℕ) : Type 0 where
  pub goes : (P : Pool) → LevelWrote 0 s at k P O (Some (m, q)) → LevelWrote j s at k P Q (Some (u, p))
