-- The steps of what ! takes, over plain values: each is one equation of the reading (grammar's proofs/Steps.antt), with the nodes beside it.
use Prim.Native.Nat.{ℕ, ◌+◌, ◌<◌, ◌≤◌, ◌^◌}
use mathlib.Core.Path.{◌≡◌, refl, ap, ◌∙◌}
use mathlib.Core.List.{List, [], ◌∷◌}
use native.Mathlib.Omega.{arith}
use lib.ListN.{length, drop}
use borrow.Author.Tests.{ne_eqb, lt-ltb, le-ltb}
use Rattle.rules.specs.Tree.{Tree, nay, Op}
use Rattle.rules.specs.Pool.{Pool, nay_node}
use Rattle.rules.specs.Store.{size, store, push}
use Rattle.reading_grammar.specs.Grammar.{Token, sign, number, mark, full}
use Rattle.reading_grammar.specs.Tokens.{tokens}
use Rattle.reading_grammar.specs.Reading.{got, bad, Prefix}
use Rattle.reading_tokens.specs.declared.Next.{Next}
use Rattle.reading_tokens.specs.declared.Next.TheVariants.{End, Sign, Number, Huge, Mark}
use Rattle.reading_tokens.specs.Scan.{next}
use Rattle.reading_tokens.proofs.Nexts.{Step, HugeAt, NotNext, ended, signed, huge}
use Rattle.reading_grammar.proofs.Steps.{level_zero, prefix_nil, prefix_sign, prefix_number, prefix_mark}
use Rattle.std.specs.Prelude.{Some, None}
use Rattle.reading_standard.specs.Private.{Done, LevelWrote, PrefixWrote}
use Rattle.reading_standard.proofs.Taken.{level_taken, level_refused}
use Rattle.reading_grammar.proofs.Choice.{left_if}

other : (b : ℕ) (r : List Token) → (b ≡ 110 → ⊥) → (b ≡ 33 → ⊥) → (b ≡ 40 → ⊥) → Prefix (mark b ∷ r) ≡ bad
other b r i j k = prefix_mark b r ∙ (left_if _ _ (ne_eqb b 110 i) ∙ (left_if _ _ (ne_eqb b 33 j) ∙ left_if _ _ (ne_eqb b 40 k)))

negated : (at e k m q : ℕ) (s : List ℕ) (t : Tree) (P R Q : Pool) → at < e → m ≡ k + size t → R ≡ store t k P → e + size t ≤ q → q ≤ length s
    → Q ≡ push R m nay_node 0 0 0 → Done (nay t) (tokens (drop q s)) s at k P Q (Some (m + 1, q))
unfolding size store
negated at e k m q s t P R Q f em st g l p = record {
  next = q;
  answer = ap (λ (o : ℕ). Some (o, q)) (omega arith);
  rest = refl;
  stored = p ∙ rw (em, st);
  further = omega arith;
  within = l;
}

module _ {s : List ℕ} {at k : ℕ} {P Q : Pool} where
  prefix_end : tokens (drop at s) ≡ [] → PrefixWrote s at k P Q None
  prefix_end e = record { read = rw (e, prefix_nil) refl }

  prefix_op : {op : Op} {e : ℕ} → Step s at (sign op) e → PrefixWrote s at k P Q None
  prefix_op {op} {e} w = record { read = rw (w.is, prefix_sign op (tokens (drop e s))) refl }

  prefix_huge : HugeAt s at → PrefixWrote s at k P Q None
  prefix_huge w = record { read = rw (w.is, prefix_number w.v w.rest, le-ltb _ _ w.big) refl }

  -- nothing that ! takes
  pub prefix_none : (x : Next) → x ≡ next s at → ((v e : ℕ) → x ≡ Number v e → ⊥) → ((b e : ℕ) → x ≡ Mark b e → ⊥) → PrefixWrote s at k P Q None
  prefix_none End w f g = prefix_end (ended _ _ w)
  prefix_none (Sign c e) w f g = prefix_op (signed _ _ w).step
  prefix_none Huge w f g = prefix_huge (huge _ _ w)
  prefix_none (Number v e) w f g = absurd (f v e refl)
  prefix_none (Mark b e) w f g = absurd (g b e refl)

  pub prefix_num : {v e : ℕ} → Step s at (number v) e → v < 2 ^ 64 → Q ≡ push P k 1 0 0 v → PrefixWrote s at k P Q (Some (k + 1, e))
  unfolding size store
  prefix_num {v} {e} w h p = record {
    read = rw (w.is, prefix_number v (tokens (drop e s)), lt-ltb _ _ h)
        (record { next = e; answer = refl; rest = refl; stored = p; further = omega (arith, w.further); within = w.within });
  }

  pub prefix_n : {b e : ℕ} → Step s at (mark b) e → b ≡ 110 → Q ≡ push P k 0 0 0 0 → PrefixWrote s at k P Q (Some (k + 1, e))
  unfolding size store
  prefix_n {b} {e} w i p = record {
    read = rw (w.is, i, prefix_mark 110 (tokens (drop e s)))
        (record { next = e; answer = refl; rest = refl; stored = p; further = omega (arith, w.further); within = w.within });
  }

  pub not_bad : {b e : ℕ} {R : Pool} → Step s at (mark b) e → b ≡ 33 → LevelWrote 0 s e k P R None → PrefixWrote s at k P Q None
  not_bad {b} {e} w i v = record { read = rw (w.is, i, prefix_mark 33 (tokens (drop e s)), ← level_zero (tokens (drop e s)), level_refused v) refl }

  pub not_not : {b e m q : ℕ} {R : Pool} → Step s at (mark b) e → b ≡ 33 → LevelWrote 0 s e k P R (Some (m, q)) → Q ≡ push R m nay_node 0 0 0
      → PrefixWrote s at k P Q (Some (m + 1, q))
  not_not {b} {e} {m} {q} {R} w i v p =
      let g = level_taken v in
      record {
        read = rw (w.is, i, prefix_mark 33 (tokens (drop e s)), ← level_zero (tokens (drop e s)), g.is)
            (negated at e k m q s g.t P R Q w.further g.free g.stored g.further g.within p);
      }

  pub prefix_other : {b e : ℕ} → Step s at (mark b) e → (b ≡ 110 → ⊥) → (b ≡ 33 → ⊥) → (b ≡ 40 → ⊥) → PrefixWrote s at k P Q None
  prefix_other {b} {e} w i j o = record { read = rw (w.is, other b (tokens (drop e s)) i j o) refl }

  pub bracket_bad : {b e : ℕ} {R : Pool} → Step s at (mark b) e → b ≡ 40 → LevelWrote full s e k P R None → PrefixWrote s at k P Q None
  bracket_bad {b} {e} w i v = record { read = rw (w.is, i, prefix_mark 40 (tokens (drop e s)), level_refused v) refl }

  pub bracket_open : {b e m q : ℕ} {R : Pool} → Step s at (mark b) e → b ≡ 40 → LevelWrote full s e k P R (Some (m, q)) → NotNext 41 s q → PrefixWrote s at k P Q None
  bracket_open {b} {e} w i v y =
      let g = level_taken v in
      record { read = rw (w.is, i, prefix_mark 40 (tokens (drop e s)), g.is, y.ends g.t (λ t r. got t r)) refl }

  pub bracket : {b e m q p : ℕ} → Step s at (mark b) e → b ≡ 40 → LevelWrote full s e k P Q (Some (m, q)) → Step s q (mark 41) p → PrefixWrote s at k P Q (Some (m, p))
  bracket {b} {e} {m} {q} {p} w i v y =
      let g = level_taken v in
      record {
        read = rw (w.is, i, prefix_mark 40 (tokens (drop e s)), g.is, y.is)
            (record {
              next = p;
              answer = ap (λ (o : ℕ). Some (o, p)) g.free;
              rest = refl;
              stored = g.stored;
              further = omega (arith, g.further, w.further, y.further);
              within = y.within;
            });
      }
