-- A lookup in built slots answers as the scan does. Assumes nothing.
use Prim.Native.Nat.{ℕ, zero, suc, ◌+◌, ◌%◌, ◌<◌, ◌≤◌}
use mathlib.Core.Path.{◌≡◌, refl, sym, ap, ◌∙◌}
use mathlib.Core.Bool.{Bool, true, false}
use mathlib.Core.List.{List}
use Rattle.std.specs.Prelude.{Option, Some, None}
use native.Mathlib.Omega.{arith}
use native.Mathlib.Nat.{mod-lt}
use lib.ListN.{length, get_or, set, length-set, length-replicate, get_or-replicate, get_or-eq_default}
use lib.Seq.{get_or-set_same, get_or-set_other}
use lib.Dec.{eqb, ltb}
use borrow.Author.Tests.{eqb-true, eqb-false, ltb-true, ltb-false}
use Rattle.text.specs.Bytes.{same}
use Rattle.text.proofs.Tests.{never, taken, left, by_test}
use Rattle.text.proofs.Same.{same_true, same_refl}
use Rattle.lookup_slots.specs.Hash.{hash}
use Rattle.lookup_slots.specs.Slots.{first, has, stops, place, insert, zeros, built, walk, last}
use Rattle.lookup_slots.proofs.First.{first_stops, reached, first_kept, first_again}
use Rattle.lookup_slots.proofs.Free.{free, free_set, free_all, free_some}

module _ (k : ℕ → Option (List ℕ)) where
  -- the test of a place
  abbrev at : List ℕ → List ℕ → ℕ → Bool
  at key s p = stops k key (get_or s p 0)

  -- a slot has the key
  abbrev pub Holds : List ℕ → ℕ → Type 0
  Holds key zero = ⊥
  Holds key (suc i) = has key (k i) ≡ true

  pub holds_stops : (key : List ℕ) (x : ℕ) → stops k key x ≡ true → 0 < x → Holds key x
  holds_stops key zero h l = absurd (omega arith)
  holds_stops key (suc i) h l = h

  has_one : (c d : List ℕ) (o : Option (List ℕ)) → has c o ≡ true → has d o ≡ true → c ≡ d
  has_one c d (Some x) p q = same_true c x p ∙ sym (same_true d x q)
  has_one c d None p q = absurd (never p)

  holds_one : (c d : List ℕ) (x : ℕ) → Holds c x → Holds d x → c ≡ d
  holds_one c d zero p q = absurd p
  holds_one c d (suc i) p q = has_one c d (k i) p q

  -- what a walk in any slots answers is an entry with the key
  by_zero : (x : ℕ) {P : Type 0} → (x ≡ 0 → P) → (0 < x → P) → P
  by_zero zero f g = f refl
  by_zero (suc x) f g = g (omega arith)

  pub place_stops : (key s : List ℕ) → place k key s < length s → at key s (place k key s) ≡ true
  unfolding place
  place_stops key s h = first_stops (at key s) (length s) (length s) (hash key % length s) h

  pub walk_holds : (key s : List ℕ) → 0 < walk k key s → Holds key (walk k key s)
  walk_holds key s h =
      by_test (Holds key (walk k key s)) (ltb (place k key s) (length s))
      (λ e. holds_stops key _ (place_stops key s (ltb-true _ _ e)) h)
      (λ e. absurd (omega (arith, get_or-eq_default s 0 (ltb-false _ _ e))))

  -- The slots after the first i entries: each key's search finds its last entry, a slot that has a key is the one where the search
  -- for that key stops, and at most i slots are taken.
  record Stands (s : List ℕ) (i : ℕ) : Type 0 where
    answers : (c : List ℕ) → walk k c s ≡ last k c i
    alone : (c : List ℕ) (r : ℕ) → r < length s → Holds c (get_or s r 0) → place k c s ≡ r
    room : length s ≤ free s + i

  pub last_here : (c : List ℕ) (i : ℕ) → has c (k i) ≡ true → last k c (suc i) ≡ suc i
  unfolding last
  last_here c i h = taken _ _ h

  pub last_on : (c : List ℕ) (i : ℕ) → has c (k i) ≡ false → last k c (suc i) ≡ last k c i
  unfolding last
  last_on c i h = left _ _ h

  -- where a slot is empty, a search stops
  pub found : (d s : List ℕ) → 0 < free s → place k d s < length s
  unfolding place
  found d s h =
      let e = free_some s h in
      reached (at d s) (length s) e.at (ap (stops k d) e.is) e.inside (hash d % length s) (mod-lt (hash d) (omega (arith, e.inside)))

  -- entry i goes in
  module _ (s : List ℕ) (i : ℕ) (d : List ℕ) (e : k i ≡ Some d) (b : place k d s < length s) where
    abbrev q : ℕ
    q = place k d s

    abbrev s' : List ℕ
    s' = set s q (suc i)

    agree : (c : List ℕ) (x : ℕ) → (x ≡ q → ⊥) → at c s' x ≡ at c s x
    agree c x h = ap (stops k c) (get_or-set_other s q x (suc i) 0 h)

    at_new : (c : List ℕ) → at c s' q ≡ same c d
    at_new c = ap (stops k c) (get_or-set_same s q (suc i) 0 b) ∙ ap (has c) e

    as_before : (c : List ℕ) → place k c s' ≡ first (at c s') (length s) (length s) (hash c % length s)
    unfolding place
    as_before c = ap (λ (n : ℕ). first (at c s') n n (hash c % n)) (length-set s q (suc i))

    placed_own : place k d s' ≡ q
    unfolding place
    placed_own = as_before d ∙ first_again (at d s) (at d s') (length s) q (agree d) (at_new d ∙ same_refl d) b (length s) (hash d % length s) refl

    placed_other : (c : List ℕ) → same c d ≡ false → (place k c s ≡ q → ⊥) → place k c s' ≡ place k c s
    unfolding place
    placed_other c n h = as_before c ∙ first_kept (at c s) (at c s') (length s) q (agree c) (at_new c ∙ n) (length s) (hash c % length s) h

    value_own : walk k d s' ≡ suc i
    value_own = ap (λ (p : ℕ). get_or s' p 0) placed_own ∙ get_or-set_same s q (suc i) 0 b

    holds_new : (c : List ℕ) → Holds c (get_or s' q 0) → same c d ≡ true
    holds_new c h = ap (has c) (sym e) ∙ (rw (get_or-set_same s q (suc i) 0 b) at h)

    module _ (w : Stands s i) where
      -- a key whose search stopped where the new entry goes, and which it has not, was not there
      absent : (c : List ℕ) → same c d ≡ false → place k c s ≡ q → walk k c s ≡ 0
      absent c n h =
          by_zero (walk k c s) (λ z. z)
          (λ l.
          let u : Holds c (get_or s q 0) = rw h at (walk_holds c s l) in
          let v : Holds d (get_or s q 0) = holds_stops d (get_or s q 0) (place_stops d s b) (rw h at l) in
          absurd (never (sym n ∙ ap (λ (x : List ℕ). same x d) (holds_one c d (get_or s q 0) u v) ∙ same_refl d)))

      -- and is not there now
      absent_now : (c : List ℕ) → same c d ≡ false → place k c s ≡ q → walk k c s' ≡ 0
      absent_now c n h = by_zero (walk k c s') (λ z. z) (λ l. absurd (stands_at (walk_holds c s' l) l))
        where
          inside : 0 < walk k c s' → place k c s' < length s'
          inside l =
              by_test (place k c s' < length s') (ltb (place k c s') (length s')) (λ t. ltb-true _ _ t)
              (λ t. absurd (omega (arith, get_or-eq_default s' 0 (ltb-false _ _ t))))

          stands_at : Holds c (walk k c s') → 0 < walk k c s' → ⊥
          stands_at u l =
              let o : place k c s' ≡ q → ⊥ = λ z. never (sym n ∙ holds_new c (rw z at u)) in
              let v : Holds c (get_or s (place k c s') 0) = rw (get_or-set_other s q (place k c s') (suc i) 0 o) at u in
              o (sym (w.alone c (place k c s') (omega (arith, inside l, length-set s q (suc i))) v) ∙ h)

      answers_other : (c : List ℕ) → same c d ≡ false → walk k c s' ≡ walk k c s
      answers_other c n =
          by_test (walk k c s' ≡ walk k c s) (eqb (place k c s) q)
          (λ t. let h = eqb-true (place k c s) q t in absent_now c n h ∙ sym (absent c n h))
          (λ t.
          let h : place k c s ≡ q → ⊥ = eqb-false (place k c s) q t in
          ap (λ (p : ℕ). get_or s' p 0) (placed_other c n h) ∙ get_or-set_other s q (place k c s) (suc i) 0 h)

      alone_now : (c : List ℕ) (r : ℕ) → r < length s → Holds c (get_or s' r 0) → place k c s' ≡ r
      alone_now c r l u =
          by_test (place k c s' ≡ r) (eqb r q)
          (λ t.
          let z : r ≡ q = eqb-true r q t in
          ap (λ (x : List ℕ). place k x s') (same_true c d (holds_new c (rw z at u))) ∙ placed_own ∙ sym z)
          (λ t.
          let o : r ≡ q → ⊥ = eqb-false r q t in
          let h : place k c s ≡ r = w.alone c r l (rw (get_or-set_other s q r (suc i) 0 o) at u) in
          by_test (place k c s' ≡ r) (same c d)
          (λ y. absurd (o (sym h ∙ ap (λ (x : List ℕ). place k x s) (same_true c d y))))
          (λ n. placed_other c n (λ z. o (sym h ∙ z)) ∙ h))

      gone_in : Stands s' (suc i)
      gone_in = record {
        answers =
            λ c.
            by_test (walk k c s' ≡ last k c (suc i)) (same c d)
            (λ y.
            let z : c ≡ d = same_true c d y in
            ap (λ (x : List ℕ). walk k x s') z ∙ value_own ∙ sym (last_here c i (ap (has c) e ∙ y)))
            (λ n. answers_other c n ∙ w.answers c ∙ sym (last_on c i (ap (has c) e ∙ n)));
        alone = λ c r l u. alone_now c r (omega (arith, length-set s q (suc i))) u;
        room = omega (arith, w.room, free_set s q (suc i), length-set s q (suc i));
      }

  -- what is no entry is passed over
  passed_over : (s : List ℕ) (i : ℕ) → k i ≡ None → Stands s i → Stands s (suc i)
  passed_over s i e w = record {
    answers = λ c. w.answers c ∙ sym (last_on c i (ap (has c) e));
    alone = w.alone;
    room = omega (arith, w.room);
  }

  pub insert_length : (i : ℕ) (o : Option (List ℕ)) (s : List ℕ) → length (insert k i o s) ≡ length s
  insert_length i (Some d) s = length-set s _ (suc i)
  insert_length i None s = refl

  module _ (m : ℕ) where
    pub built_length : (i : ℕ) → length (built k m i) ≡ m
    unfolding built
    built_length zero = length-replicate {A = ℕ} m 0
    built_length (suc i) = insert_length i (k i) (built k m i) ∙ built_length i

    empty_at : (r : ℕ) → get_or (zeros m) r 0 ≡ 0
    empty_at r =
        by_test (get_or (zeros m) r 0 ≡ 0) (ltb r m)
        (λ e. get_or-replicate m r 0 0 (ltb-true r m e))
        (λ e. get_or-eq_default (zeros m) 0 (omega (arith, ltb-false r m e, length-replicate {A = ℕ} m 0)))

    empty : Stands (zeros m) 0
    unfolding last
    empty = record {
      answers = λ c. empty_at (place k c (zeros m));
      alone = λ c r l u. absurd (rw (empty_at r) at u);
      room = omega (arith, free_all m, length-replicate {A = ℕ} m 0);
    }

    stands : (i : ℕ) → i ≤ m → Stands (built k m i) i
    unfolding built
    stands zero h = empty
    stands (suc i) h = by_key (k i) refl (stands i (omega arith))
      where
        by_key : (o : Option (List ℕ)) → k i ≡ o → Stands (built k m i) i → Stands (insert k i o (built k m i)) (suc i)
        by_key (Some d) e w = gone_in (built k m i) i d e (found d (built k m i) (omega (arith, w.room, built_length i))) w
        by_key None e w = passed_over (built k m i) i e w

    -- THE THEOREM: in the slots that the first n entries built, no more than the slots, every lookup answers as the scan
    pub walk_built : (n : ℕ) → n ≤ m → (key : List ℕ) → walk k key (built k m n) ≡ last k key n
    walk_built n h key = (stands n h).answers key
