-- The whole text: it has a reading exactly if the loosest level reads it to its end.
use Prim.Native.Nat.{ℕ}
use mathlib.Core.Path.{◌≡◌, refl, ap}
use mathlib.Core.List.{List, [], ◌∷◌}
use native.Mathlib.Omega.{arith}
use lib.ListN.{drop}
use Rattle.rules.specs.Pool.{Pool}
use Rattle.reading_grammar.specs.Grammar.{Token, full}
use Rattle.reading_grammar.specs.Tokens.{tokens}
use Rattle.reading_grammar.specs.Reading.{standard}
use Rattle.std.specs.Prelude.{Some, None}
use Rattle.reading_tokens.specs.declared.Next.{Next}
use Rattle.reading_tokens.specs.declared.Next.TheVariants.{End, Sign, Number, Huge, Mark}
use Rattle.reading_tokens.specs.Scan.{next}
use Rattle.reading_tokens.proofs.Nexts.{signed, numbered, huge, marked}
use Rattle.reading_standard.specs.Private.{LevelWrote}
use Rattle.rules.specs.Reads.{Answered}
use Rattle.reading_standard.proofs.Taken.{level_taken, level_refused}

module _ {s : List ℕ} {P Q : Pool} where
  pub whole_bad : LevelWrote full s 0 0 P Q None → Answered (standard s) s P Q None
  unfolding standard
  whole_bad w = record { read = rw (level_refused w) refl }

  whole_more : {k q : ℕ} {x : Token} {r : List Token} → LevelWrote full s 0 0 P Q (Some (k, q)) → tokens (drop q s) ≡ x ∷ r → Answered (standard s) s P Q None
  unfolding standard
  whole_more w e = record { read = rw ((level_taken w).is, e) refl }

  -- where the end does not stand next, a token does
  pub whole_rest : {k q : ℕ} → LevelWrote full s 0 0 P Q (Some (k, q)) → (x : Next) → x ≡ next s q → (x ≡ End → ⊥) → Answered (standard s) s P Q None
  whole_rest l End w h = absurd (h refl)
  whole_rest l (Sign o e) w h = whole_more l (signed _ _ w).step.is
  whole_rest l (Number v e) w h = whole_more l (numbered _ _ w).step.is
  whole_rest l Huge w h = whole_more l (huge _ _ w).is
  whole_rest l (Mark b e) w h = whole_more l (marked _ _ w).is

  pub whole_end : {k q : ℕ} → LevelWrote full s 0 0 P Q (Some (k, q)) → tokens (drop q s) ≡ [] → Answered (standard s) s P Q (Some k)
  unfolding standard
  whole_end {k} w e =
      let g = level_taken w in
      record { read = rw (g.is, e) (record { answer = ap Some (omega (arith, g.free)); stored = g.stored; fits = omega (arith, g.further, g.within) }) }
