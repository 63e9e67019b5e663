-- Where the id of an original ends that begins with a key and a NUL. Assumes nothing.
use Prim.Native.Nat.{ℕ, zero, suc, ◌+◌, ◌-◌, ◌<◌, ◌≤◌}
use mathlib.Core.Path.{◌≡◌, refl, sym, ap, ◌∙◌}
use mathlib.Core.Bool.{Bool, true, false, not, ◌&&◌}
use mathlib.Core.List.{List, [], ◌∷◌, ◌++◌}
use mathlib.Core.Logic.{⊎_elim}
use native.Mathlib.Omega.{arith}
use native.Mathlib.Nat.{eq-or-lt_of_le}
use native.Mathlib.Numerals.{add-one}
use lib.ListN.{length, get_or, take, drop, length-append, take-append-drop}
use lib.Seq.{length-take-le, get_or-take}
use lib.Dec.{leb, eqb}
use borrow.Author.Tests.{eq-eqb, ne_eqb, eqb-true, eqb-false, leb-true}
use Rattle.text.specs.Bytes.{within, all, place, same}
use Rattle.text.proofs.Tests.{by_test, and_left, and_right}
use Rattle.text.proofs.Front.{front_in, front_out, front_length}
use Rattle.text.proofs.Walk.{rest_at}
use Rattle.text.proofs.Same.{same_true, same_refl}
use Rattle.container_layout.specs.Mo.{id_end}
use Rattle.container_layout.proofs.Marks.{without, with_context}
use Rattle.lookup_scan.specs.Keys.{key_of}
use Rattle.lookup_scan.specs.Private.{Ending, has_from, has_key, InContext}

-- a byte below 5 is none of those from 5 on
other : (x b : ℕ) → x < 5 → within (5, 0xFF) b ≡ true → not (eqb b x) ≡ true
other x b l e = let h : 5 ≤ b = leb-true 5 b (and_left (leb 5 b) (leb b 0xFF) e) in ap not (ne_eqb b x (λ z. omega arith))

-- behind bytes from 5 on it stands where it stands in the rest
past : (x : ℕ) → x < 5 → (c r : List ℕ) → all (within (5, 0xFF)) c ≡ true → place x (c ++ r) ≡ length c + place x r
unfolding all
past x l [] r e = omega arith
past x l (b ∷ c) r e =
    let f = front_in (λ d. not (eqb d x)) b (c ++ r) (other x b l (and_left (within (5, 0xFF) b) (all (within (5, 0xFF)) c) e)) in
    omega (arith, f, past x l c r (and_right (within (5, 0xFF) b) (all (within (5, 0xFF)) c) e))

at_once : (x : ℕ) (r : List ℕ) → place x (x ∷ r) ≡ 0
at_once x r = front_out (λ d. not (eqb d x)) x r (ap not (eq-eqb x x refl))

behind : (c : List ℕ) (b : ℕ) (r : List ℕ) → drop (suc (length c)) (c ++ b ∷ r) ≡ r
behind [] b r = refl
behind (a ∷ c) b r = behind c b r

dropped : (c : List ℕ) (b : ℕ) (r : List ℕ) → drop (length c + 1) (c ++ b ∷ r) ≡ r
dropped c b r = rw add-one (behind c b r)

joined : (c i r : List ℕ) (b : ℕ) → (c ++ b ∷ i) ++ r ≡ c ++ b ∷ (i ++ r)
joined [] i r b = refl
joined (a ∷ c) i r b = ap (λ (l : List ℕ). a ∷ l) (joined c i r b)

-- with a context, at the key's end
with_one : (o c i rest : List ℕ) {n : ℕ} → n ≡ length (key_of true c i) → o ≡ key_of true c i ++ 0 ∷ rest → all (within (5, 0xFF)) i ≡ true → all (within (5, 0xFF)) c ≡ true
    → id_end o ≡ n
with_one o c i rest {n} e g u v =
    let w : o ≡ c ++ 4 ∷ (i ++ 0 ∷ rest) = g ∙ joined c i (0 ∷ rest) 4 in
    let z : length c + 0 ≡ length c = omega arith in
    let f : place 4 o ≡ length c = ap (place 4) w ∙ past 4 (omega arith) c (4 ∷ (i ++ 0 ∷ rest)) v ∙ ap (λ (k : ℕ). length c + k) (at_once 4 (i ++ 0 ∷ rest)) ∙ z in
    let d : drop (length c + 1) o ≡ i ++ 0 ∷ rest = ap (drop (length c + 1)) w ∙ dropped c 4 (i ++ 0 ∷ rest) in
    let y : length i + 0 ≡ length i = omega arith in
    let p : place 0 (drop (length c + 1) o) ≡ length i = ap (place 0) d ∙ past 0 (omega arith) i (0 ∷ rest) u ∙ ap (λ (k : ℕ). length i + k) (at_once 0 rest) ∙ y in
    let l : length o ≡ length c + suc (length (i ++ 0 ∷ rest)) = ap length w ∙ length-append c (4 ∷ (i ++ 0 ∷ rest)) in
    let q = (with_context o {four = length c} {end = length c + 1 + length i} (sym f) (omega (arith, l)) (ap (λ (k : ℕ). length c + 1 + k) (sym p))).end in
    omega (arith, q, e, length-append c (4 ∷ i))

-- without one, where no byte 4 comes after it
without_one : (o i rest : List ℕ) {n r : ℕ} → n ≡ length i → o ≡ i ++ 0 ∷ rest → all (within (5, 0xFF)) i ≡ true → r ≡ n + 1 + place 4 (drop (n + 1) o) → eqb r (length o) ≡ eqb (id_end o) n
without_one o i rest {n} {r} e g u k =
    by_test (eqb r (length o) ≡ eqb (id_end o) n) (eqb r (length o))
    (λ t. t ∙ sym (eq-eqb (id_end o) n (omega (arith, sym (without o {end = length i} (omega (arith, four, eqb-true r (length o) t)) (sym nul)).end, e))))
    (λ t. t ∙ sym (ne_eqb (id_end o) n (λ z. later (eqb-false r (length o) t) z)))
  where
    d : drop (n + 1) o ≡ rest
    d = rw e (ap (drop (length i + 1)) g ∙ dropped i 0 (rest))

    z : length i + 0 ≡ length i
    z = omega arith

    nul : place 0 o ≡ length i
    nul = ap (place 0) g ∙ past 0 (omega arith) i (0 ∷ rest) u ∙ ap (λ (m : ℕ). length i + m) (at_once 0 (rest)) ∙ z

    four : place 4 o ≡ r
    four =
        let a : place 4 (0 ∷ rest) ≡ suc (place 4 (rest)) = front_in (λ b. not (eqb b 4)) 0 (rest) refl in
        let b : place 4 o ≡ length i + suc (place 4 (rest)) = ap (place 4) g ∙ past 4 (omega arith) i (0 ∷ rest) u ∙ ap (λ (m : ℕ). length i + m) a in
        let f : place 4 (drop (n + 1) o) ≡ place 4 (rest) = ap (place 4) d in
        omega (arith, b, f, k, e)

    later : (r ≡ length o → ⊥) → id_end o ≡ n → ⊥
    later h y =
        let l : place 4 o < length o = ⊎_elim (λ q. absurd (h (sym four ∙ q))) (λ m. m) (eq-or-lt_of_le (front_length (λ b. not (eqb b 4)) o)) in
        let q = (with_context o {four = place 4 o} {end = place 4 o + 1 + place 0 (drop (place 4 o + 1) o)} refl l refl).end in
        omega (arith, q, four, k, y)

-- an original begins with the key and a NUL
module _ (o : List ℕ) (n : ℕ) (key : List ℕ) where
  begun : Ending o n key → same key (take n o) ≡ true → o ≡ key ++ 0 ∷ drop (n + 1) o
  begun g e =
      sym (take-append-drop n o) ∙ ap (λ (k : List ℕ). k ++ drop n o) (sym (same_true key _ e))
      ∙ ap (λ (k : List ℕ). key ++ k) (rest_at o n g.longer ∙ ap (λ (x : ℕ). x ∷ drop (n + 1) o) g.nul)

  pub has_key_lem : take n o ≡ key → id_end o ≡ n → has_key o n key ≡ true
  unfolding has_key
  has_key_lem e f = rw (e, same_refl key) (eq-eqb (id_end o) n f)

  pub key_has : has_key o n key ≡ true → (same key (take n o) && eqb (id_end o) n) ≡ true
  unfolding has_key
  key_has e = e

cut_front : (s : List ℕ) (from m : ℕ) → from ≤ m → drop from (take m s) ≡ take (m - from) (drop from s)
cut_front s zero m h = let e : m ≡ m - 0 = omega arith in ap (λ (k : ℕ). take k s) e
cut_front s (suc from) zero h = absurd (omega arith)
cut_front [] (suc from) (suc m) h = go (suc m - suc from)
  where
    go : (k : ℕ) → [] ≡ take {A = ℕ} k []
    go zero = refl
    go (suc k) = refl
cut_front (b ∷ s) (suc from) (suc m) h = let e : m - from ≡ suc m - suc from = omega arith in cut_front s from m (omega arith) ∙ ap (λ (k : ℕ). take k (drop from s)) e

module _ (o : List ℕ) (n : ℕ) where
  -- by its bytes, then by where its id ends
  pub other_bytes : (from : ℕ) (i : List ℕ) {r : Bool} → r ≡ same i (take (n - from) (drop from o)) → r ≡ false → false ≡ has_from o n from i
  unfolding has_from
  other_bytes from i e f = rw (← e, f)

  pub by_end : (from : ℕ) (i : List ℕ) {k : ℕ} {r : Bool} → r ≡ same i (take (n - from) (drop from o)) → r ≡ true → k ≡ id_end o → eqb k n ≡ has_from o n from i
  unfolding has_from
  by_end from i e f g = rw (← e, f, g)

  -- where its bytes are the key's, by where its id ends
  ended : (key : List ℕ) {b : Bool} → same key (take n o) ≡ true → b ≡ eqb (id_end o) n → b ≡ has_key o n key
  unfolding has_key
  ended key e d = rw e d

  -- without a context
  module _ (i key : List ℕ) (own : key ≡ i) where
    pub other_first : 0 < n → (get_or o 0 0 ≡ get_or i 0 0 → ⊥) → false ≡ has_key o n key
    unfolding has_key
    other_first l h =
        let e : same i (take n o) ≡ false =
        by_test (same i (take n o) ≡ false) (same i (take n o)) (λ f. absurd (h (sym (ap (λ (s : List ℕ). get_or s 0 0) (same_true i (take n o) f) ∙ get_or-take n o 0 0 l)))) (λ f. f)
        in
        rw (own, e)

    pub any_alone : {r : Bool} → r ≡ has_from o n 0 i → r ≡ has_key o n key
    unfolding has_from has_key
    any_alone f = let e : n - 0 ≡ n = omega arith in f ∙ rw (own, e)

    pub plain_alone : {k : ℕ} {r : Bool} → Ending o n key → r ≡ (same i (take n o) && all (within (5, 0xFF)) i) → r ≡ true → k ≡ n + 1 + place 4 (drop (n + 1) o)
        → eqb k (length o) ≡ has_key o n key
    plain_alone g f h d =
        let e : same i (take n o) ≡ true = and_left (same i (take n o)) (all (within (5, 0xFF)) i) (sym f ∙ h) in
        let u : all (within (5, 0xFF)) i ≡ true = and_right (same i (take n o)) (all (within (5, 0xFF)) i) (sym f ∙ h) in
        let w : Ending o n i = rw own at g in
        rw own (ended i e (without_one o i (drop (n + 1) o) w.size (begun o n i w e) u d))

  -- with one
  module _ (c i : List ℕ) {x : Bool} (p : InContext c (take n o) x) where
    pub no_context : x ≡ false → false ≡ has_key o n (key_of true c i)
    unfolding has_key
    no_context e = rw (p.no e i)

    module _ (e : x ≡ true) (g : Ending o n (key_of true c i)) where
      pub after_inside : length c + 1 ≤ n
      after_inside = omega (arith, p.inside e, length-take-le n o (omega (arith, g.longer)))

      by_id : same (key_of true c i) (take n o) ≡ same i (take (n - (length c + 1)) (drop (length c + 1) o))
      by_id = p.is e i ∙ ap (same i) (cut_front o (length c + 1) n after_inside)

      pub any_context : {r : Bool} → r ≡ has_from o n (length c + 1) i → r ≡ has_key o n (key_of true c i)
      unfolding has_from has_key
      any_context f = f ∙ ap (λ (b : Bool). b && eqb (id_end o) n) (sym by_id)

      pub plain_context : {b r : Bool} → r ≡ (same i (take (n - (length c + 1)) (drop (length c + 1) o)) && all (within (5, 0xFF)) i) → r ≡ true
          → b ≡ all (within (5, 0xFF)) c → b ≡ true → true ≡ has_key o n (key_of true c i)
      plain_context f h d t =
          let s = same i (take (n - (length c + 1)) (drop (length c + 1) o)) in
          let k : same (key_of true c i) (take n o) ≡ true = by_id ∙ and_left s (all (within (5, 0xFF)) i) (sym f ∙ h) in
          let u : all (within (5, 0xFF)) i ≡ true = and_right s (all (within (5, 0xFF)) i) (sym f ∙ h) in
          ended (key_of true c i) k (sym (eq-eqb (id_end o) n (with_one o c i (drop (n + 1) o) g.size (begun o n (key_of true c i) g k) u (sym d ∙ t))))
