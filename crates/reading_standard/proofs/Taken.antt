-- What an answer tells of the reading's outcome: a part that was read is the outcome's tree, stored, and a refusal is the outcome's.
use Prim.Native.Nat.{ℕ, ◌+◌, ◌<◌, ◌≤◌}
use mathlib.Core.Path.{◌≡◌, refl, sym, ap, ◌∙◌}
use mathlib.Core.List.{List}
use native.Mathlib.Omega.{arith}
use lib.ListN.{length, drop}
use Rattle.rules.specs.Tree.{Tree}
use Rattle.rules.specs.Pool.{Pool}
use Rattle.rules.specs.Store.{size, store}
use Rattle.rules.proofs.Unfolded.{size_pos}
use Rattle.reading_grammar.specs.Tokens.{tokens}
use Rattle.reading_grammar.specs.Reading.{Outcome, got, bad, Level}
use Rattle.std.specs.Prelude.{Some, None}
use Rattle.reading_standard.specs.Private.{Part, Wrote, Before, LevelWrote}

-- what an outcome is, by the answer
pub record Taken (o : Outcome) (s : List ℕ) (at k : ℕ) (P Q : Pool) (m q : ℕ) : Type 0 where
  pub t : Tree
  pub is : o ≡ got t (tokens (drop q s))
  pub free : m ≡ k + size t
  pub stored : Q ≡ store t k P
  pub further : at + size t ≤ q
  pub within : q ≤ length s

taken : (o : Outcome) (s : List ℕ) (at k : ℕ) (P Q : Pool) (m q : ℕ) → Wrote o s at k P Q (Some (m, q)) → Taken o s at k P Q m q
taken (got t r) s at k P Q m q d =
    let e : ◌≡◌ {A = Part} (Some (m, q)) (Some (k + size t, d.next)) = d.answer in
    let p : ◌≡◌ {A = ℕ × ℕ} (m, q) (k + size t, d.next) = cc in
    let f : d.next ≡ q = sym (ap (λ (x : ℕ × ℕ). x.1) p) in
    record { t = t; is = ap (got t) (d.rest ∙ rw f); free = ap (λ (x : ℕ × ℕ). x.0) p; stored = d.stored; further = omega (arith, d.further); within = omega (arith, d.within) }
taken bad s at k P Q m q d = let z : ◌≡◌ {A = ℕ} 0 1 = cc in absurd (omega arith)

refused : (o : Outcome) (s : List ℕ) (at k : ℕ) (P Q : Pool) → Wrote o s at k P Q None → o ≡ bad
refused (got t r) s at k P Q d = let e : ◌≡◌ {A = Part} None (Some (k + size t, d.next)) = d.answer in let z : ◌≡◌ {A = ℕ} 0 1 = cc in absurd (omega arith)
refused bad s at k P Q d = refl

module _ {l : ℕ} {s : List ℕ} {at k : ℕ} {P Q : Pool} where
  pub level_taken : {m q : ℕ} → LevelWrote l s at k P Q (Some (m, q)) → Taken (Level l (tokens (drop at s))) s at k P Q m q
  level_taken {m} {q} w = taken (Level l (tokens (drop at s))) s at k P Q m q w.read

  pub level_refused : LevelWrote l s at k P Q None → Level l (tokens (drop at s)) ≡ bad
  level_refused w = refused (Level l (tokens (drop at s))) s at k P Q w.read

  -- the next place and position, of an answer that has them
  pub gave : {m q : ℕ} → LevelWrote l s at k P Q (Some (m, q)) → (k < m) × (at + m ≤ q + k) × (q ≤ length s)
  gave w = let g = level_taken w in omega (arith, g.free, g.further, g.within, size_pos g.t)

-- a tree that was taken stands before what is read next
pub stands : {o : Outcome} {s : List ℕ} {at k : ℕ} {P Q : Pool} {m q : ℕ} (g : Taken o s at k P Q m q) → Before g.t at q k m P Q
stands g = record { free = g.free; stored = g.stored; further = g.further }
