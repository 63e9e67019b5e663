-- The steps of a level, over plain values: each is one equation of the reading (grammar's proofs/Steps.antt), with the nodes beside it.
use Prim.Native.Nat.{ℕ, zero, suc, ◌+◌, ◌-◌, ◌<◌, ◌≤◌}
use Prim.Native.Char.{code}
use mathlib.Core.Path.{◌≡◌, refl, ap, ◌∙◌}
use mathlib.Core.Bool.{false, ◌&&◌, and-false}
use mathlib.Core.List.{List, [], ◌∷◌}
use native.Mathlib.Omega.{arith}
use lib.ListN.{length, drop}
use lib.Dec.{eqb}
use borrow.Author.Tests.{eq-eqb, ne_eqb}
use Rattle.rules.specs.Tree.{Tree, bin, cond, Op}
use Rattle.rules.specs.Pool.{Pool, ternary_node}
use Rattle.rules.specs.Store.{size, store, push, node_code}
use Rattle.reading_grammar.specs.Grammar.{Token, sign, number, mark, rank, loosest, full}
use Rattle.reading_grammar.specs.Tokens.{tokens}
use Rattle.reading_grammar.specs.Reading.{got, bad, and_then, past, Level, More}
use Rattle.reading_tokens.specs.declared.Next.{Next}
use Rattle.reading_tokens.specs.declared.Next.TheVariants.{End, Sign, Number, Huge, Mark}
use Rattle.reading_tokens.specs.Scan.{next}
use Rattle.reading_tokens.proofs.Nexts.{Step, NotNext, ended, numbered, huge}
use Rattle.reading_grammar.proofs.Steps.{level_zero, level_suc, more_nil, more_number, more_sign, more_mark}
use Rattle.std.specs.Prelude.{Some, None}
use Rattle.reading_standard.specs.Private.{Part, Done, Before, Climbs, LevelWrote, MoreWrote, PrefixWrote}
use Rattle.reading_standard.proofs.Taken.{level_taken, level_refused, stands}
use Rattle.reading_grammar.proofs.Choice.{left_if}

levels_bad : (d j : ℕ) (t : List Token) → Level j t ≡ bad → Level (d + j) t ≡ bad
levels_bad zero j t e = let z : zero + j ≡ j = omega arith in rw z e
levels_bad (suc d) j t e =
    let z : suc d + j ≡ suc (d + j) = omega arith in
    rw (z, level_suc (d + j) t, levels_bad d j t e) refl

module _ {s : List ℕ} {l at k : ℕ} {P Q : Pool} where
  pub by_prefix : {x : Part} → l ≡ 0 → PrefixWrote s at k P Q x → LevelWrote l s at k P Q x
  by_prefix e w = record { read = rw (e, level_zero (tokens (drop at s))) w.read }

  -- what a tighter level refuses, every looser one does
  pub by_bad_below : {j : ℕ} {R : Pool} → j ≤ l → LevelWrote j s at k P R None → LevelWrote l s at k P Q None
  by_bad_below {j} h w =
      let z : l - j + j ≡ l = omega arith in
      record { read = rw (← z, levels_bad (l - j) j (tokens (drop at s)) (level_refused w)) refl }

  pub by_more : {j m q : ℕ} {R : Pool} {x : Part} → l ≡ suc j → LevelWrote j s at k P R (Some (m, q)) → MoreWrote j s q m R Q x → LevelWrote l s at k P Q x
  by_more {j} e w v =
      let g = level_taken w in
      record { read = rw (e, level_suc j (tokens (drop at s)), g.is) (v.read g.t at k P (stands g)) }

-- a turn of the loop over the levels, and its end
pub climbed : {s : List ℕ} {at k m q j u p : ℕ} {O Q R : Pool} {v e : ℕ} → Climbs s at k O m q j Q u p → MoreWrote j s p u Q R (Some (v, e))
    → Climbs s at k O m q (j + 1) R v e
climbed c w = record { goes = λ P b. by_more (omega arith) (c.goes P b) w }

pub at_level : {s : List ℕ} {l j at k : ℕ} {P Q : Pool} {x : Part} → j ≡ l → LevelWrote j s at k P Q x → LevelWrote l s at k P Q x
at_level e w = rw (← e) w

-- two trees, or three, that stand after one another, and the node over them
joined : (op : Op) (at e h k m w q c x : ℕ) (t u : Tree) (O P R S : Pool) → Before t h at k m O P → at < e → w ≡ m + size u → R ≡ store u m P → e + size u ≤ q
    → node_code op ≡ c → x ≡ m - 1 → S ≡ push R w c x 0 0 → Before (bin op t u) h q k (w + 1) O S
unfolding size store
joined op at e h k m w q c x t u O P R S d f ew st g ec ex p = record {
  free = omega (arith, d.free);
  stored = p ∙ rw (ex, ← ec, ew, st, d.free, d.stored);
  further = omega (arith, d.further);
}

chosen : (at e i p h k m v w q x y : ℕ) (s : List ℕ) (t u n : Tree) (O P R S Q : Pool) → Before t h at k m O P → at < e → v ≡ m + size u → R ≡ store u m P → e + size u ≤ i → i < p
    → w ≡ v + size n → S ≡ store n v R → p + size n ≤ q → q ≤ length s → x ≡ m - 1 → y ≡ v - 1 → Q ≡ push S w ternary_node x y 0
    → Done (cond t u n) (tokens (drop q s)) s h k O Q (Some (w + 1, q))
unfolding size store
chosen at e i p h k m v w q x y s t u n O P R S Q d f ev sr g j ew ss b l ex ey a = record {
  next = q;
  answer = ap (λ (o : ℕ). Some (o, q)) (omega (arith, d.free));
  rest = refl;
  stored = a ∙ rw (ex, ey, ew, ss, ev, sr, d.free, d.stored);
  further = omega (arith, d.further);
  within = l;
}

asks : {j b : ℕ} (t : Tree) (r : List Token) → b ≡ 63 → j ≡ loosest
    → More j t (mark b ∷ r) ≡ past (code ":") (Level full r) (λ u q. and_then (Level full q) (λ v w. got (cond t u v) w))
asks {j} {b} t r e f = rw (e, f) (more_mark loosest t 63 r)

no_byte : (b j : ℕ) → (b ≡ 63 → ⊥) → (eqb b 63 && eqb j loosest) ≡ false
no_byte b j n = rw (ne_eqb b 63 n)

no_level : (b j : ℕ) → (j ≡ loosest → ⊥) → (eqb b 63 && eqb j loosest) ≡ false
no_level b j n = rw (ne_eqb j loosest n) (and-false (eqb b 63))

module _ {s : List ℕ} {j at m : ℕ} {P : Pool} where
  -- nothing of this level follows
  stay : at ≤ length s → ((t : Tree) → More j t (tokens (drop at s)) ≡ got t (tokens (drop at s))) → MoreWrote j s at m P P (Some (m, at))
  stay i w = record {
    read = λ t h k O b. rw (w t) (record { next = at; answer = ap (λ (x : ℕ). Some (x, at)) b.free; rest = refl; stored = b.stored; further = b.further; within = i });
  }

  more_end : at ≤ length s → tokens (drop at s) ≡ [] → MoreWrote j s at m P P (Some (m, at))
  more_end i e = stay i (λ t. rw e (more_nil j t))

  more_num : {v : ℕ} {r : List Token} → at ≤ length s → tokens (drop at s) ≡ number v ∷ r → MoreWrote j s at m P P (Some (m, at))
  more_num {v} {r} i e = stay i (λ t. rw e (more_number j t v r))

  pub more_other : {op : Op} {e : ℕ} → at ≤ length s → Step s at (sign op) e → (rank op ≡ suc j → ⊥) → MoreWrote j s at m P P (Some (m, at))
  more_other {op} {e} i w n = stay i (λ t. rw w.is (more_sign j t op _ ∙ left_if _ _ (ne_eqb _ _ n)))

  pub more_byte : {b e : ℕ} → at ≤ length s → Step s at (mark b) e → (b ≡ 63 → ⊥) → MoreWrote j s at m P P (Some (m, at))
  more_byte {b} {e} i w n = stay i (λ t. rw w.is (more_mark j t b _ ∙ left_if _ _ (no_byte b j n)))

  pub more_tight : {b e : ℕ} → at ≤ length s → Step s at (mark b) e → (j ≡ loosest → ⊥) → MoreWrote j s at m P P (Some (m, at))
  more_tight {b} {e} i w n = stay i (λ t. rw w.is (more_mark j t b _ ∙ left_if _ _ (no_level b j n)))

  -- no operator at all
  pub more_none : (x : Next) → x ≡ next s at → ((c e : ℕ) → x ≡ Sign c e → ⊥) → ((b e : ℕ) → x ≡ Mark b e → ⊥) → at ≤ length s
      → MoreWrote j s at m P P (Some (m, at))
  more_none End w f g i = more_end i (ended _ _ w)
  more_none (Number v e) w f g i = more_num i (numbered _ _ w).step.is
  more_none Huge w f g i = more_num i (huge _ _ w).is
  more_none (Sign c e) w f g i = absurd (f c e refl)
  more_none (Mark b e) w f g i = absurd (g b e refl)

  -- a binary operator
  pub more_bad : {op : Op} {e : ℕ} {R Q : Pool} → Step s at (sign op) e → rank op ≡ suc j → LevelWrote j s e m P R None → MoreWrote j s at m P Q None
  more_bad {op} {e} w i v = record { read = λ t h k O b. rw (w.is, more_sign j t op (tokens (drop e s)), eq-eqb _ _ i, level_refused v) refl }

  pub more_more : {op : Op} {e q n c x : ℕ} {R S Q : Pool} {z : Part} → Step s at (sign op) e → rank op ≡ suc j → node_code op ≡ c → LevelWrote j s e m P R (Some (n, q))
      → x ≡ m - 1 → S ≡ push R n c x 0 0 → MoreWrote j s q (n + 1) S Q z → MoreWrote j s at m P Q z
  more_more {op} {e} {q} {n} {c} {x} {R} {S} {Q} {z} w i ec v ex p a =
      let g = level_taken v in
      record {
        read = λ t h k O b. rw (w.is, more_sign j t op (tokens (drop e s)), eq-eqb _ _ i, g.is)
            (a.read (bin op t g.t) h k O (joined op at e h k m n q c x t g.t O P R S b w.further g.free g.stored g.further ec ex p));
      }

  -- the condition
  pub ask_bad : {b e : ℕ} {R Q : Pool} → Step s at (mark b) e → b ≡ 63 → j ≡ loosest → LevelWrote full s e m P R None → MoreWrote j s at m P Q None
  ask_bad {b} {e} w i f v = record { read = λ t h k O d. rw (w.is, asks t (tokens (drop e s)) i f, level_refused v) refl }

  pub ask_open : {b e v i : ℕ} {R Q : Pool} → Step s at (mark b) e → b ≡ 63 → j ≡ loosest → LevelWrote full s e m P R (Some (v, i)) → NotNext 58 s i → MoreWrote j s at m P Q None
  ask_open {b} {e} w z f a p =
      let g = level_taken a in
      record { read = λ t h k O d. rw (w.is, asks t (tokens (drop e s)) z f, g.is, p.ends g.t (λ u q. and_then (Level full q) (λ v w. got (cond t u v) w))) refl }

  pub ask_last : {b e v i p : ℕ} {R S Q : Pool} → Step s at (mark b) e → b ≡ 63 → j ≡ loosest → LevelWrote full s e m P R (Some (v, i)) → Step s i (mark 58) p
      → LevelWrote full s p v R S None → MoreWrote j s at m P Q None
  ask_last {b} {e} w z f a c l =
      let g = level_taken a in
      record { read = λ t h k O d. rw (w.is, asks t (tokens (drop e s)) z f, g.is, c.is, level_refused l) refl }

  pub ask_ask : {b e v i p n q x y : ℕ} {R S Q : Pool} → Step s at (mark b) e → b ≡ 63 → j ≡ loosest → LevelWrote full s e m P R (Some (v, i)) → Step s i (mark 58) p
      → LevelWrote full s p v R S (Some (n, q)) → x ≡ m - 1 → y ≡ v - 1 → Q ≡ push S n ternary_node x y 0 → MoreWrote j s at m P Q (Some (n + 1, q))
  ask_ask {b} {e} {v} {i} {p} {n} {q} {x} {y} {R} {S} {Q} w o f a c l ex ey u =
      let g = level_taken a in
      let r = level_taken l in
      record {
        read = λ t h k O d. rw (w.is, asks t (tokens (drop e s)) o f, g.is, c.is, r.is)
            (chosen at e i p h k m v n q x y s t g.t r.t O P R S Q d w.further g.free g.stored g.further c.further
            r.free r.stored r.further r.within ex ey u);
      }
