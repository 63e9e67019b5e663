-- The reading's equation without fuel: each definition asks for the readings of shorter texts only, so readers that agree on those
-- agree on the text, and any fuel above the length gives one reading. Assumes nothing.
use Prim.Native.Nat.{ℕ, zero, suc, ◌+◌, ◌-◌, ◌<◌, ◌≤◌}
use mathlib.Core.Path.{◌≡◌, refl, ap}
use mathlib.Core.Bool.{Bool, true, false}
use mathlib.Core.List.{List, [], ◌∷◌}
use native.Mathlib.Omega.{arith}
use lib.ListN.{length, get_or, take, drop, length-take, length-drop}
use lib.Dec.{ltb, eqb}
use borrow.Author.Tests.{ltb-true, eqb-true}
use Rattle.rules.specs.Tree.{Reading}
use Rattle.text_trim.specs.Trim.{trim, six}
use Rattle.text_trim.proofs.Trimming.{trim_le}
use Rattle.reading_scan.specs.Scan.{index_of, end_from}
use Rattle.reading_levels.specs.Levels.{Kind, binary, ternary, Row, rows, found}
use Rattle.reading_shipped.specs.Shipped.{one, read_not, choose, cut, level, inside, parens, parse_in, shipped, bang, colon}

pub inside_length : (s : List ℕ) → length (inside s) ≡ length s - 2
inside_length s = simp (length-take, length-drop) (omega arith)

-- two branches that are the same where they are taken
same_if :
    (b : Bool) {x y u v : Reading} → (b ≡ true → x ≡ u) → (b ≡ false → y ≡ v) →
    ◌≡◌ {A = Reading} (elim b [ true ↦ x | false ↦ y ]) (elim b [ true ↦ u | false ↦ v ])
same_if true h k = h refl
same_if false h k = k refl

-- a pattern has a sign
unfoldable pub Solid : List Row → Type 0
Solid [] = Unit {0}
Solid (r ∷ rs) = (0 < length r.pattern) × Solid rs

pub rows_solid : Solid rows
unfolding Solid
rows_solid = omega arith

module _ (p q : List ℕ → Reading) where
  Agree : ℕ → Type 0
  Agree n = (t : List ℕ) → length t < n → p t ≡ q t

  fewer : {m n : ℕ} → m ≤ n → Agree n → Agree m
  unfolding Agree
  fewer h a t l = a t (omega arith)

  not_same : (s : List ℕ) → Agree (length s) → read_not p s ≡ read_not q s
  unfolding Agree read_not
  not_same s a =
      same_if (found bang s)
      (λ e. same_if (eqb (index_of bang s) 0) (λ d. ap one (a (drop 1 s) (simp length-drop (omega (arith, ltb-true (index_of bang s) (length s) e))))) (λ d. refl))
      (λ e. refl)

  choose_same : (i l : ℕ) (s : List ℕ) → Agree (length s) → choose p i l s ≡ choose q i l s
  unfolding Agree choose
  choose_same i l s a =
      same_if (ltb l (length s))
      (λ e. same_if (ltb i l)
      (λ d.
      let h : l < length s = ltb-true l (length s) e in
      let k : i < l = ltb-true i l d in
      rw (
        a (take i s) (simp length-take (omega arith)),
        a (take (l - (i + 1)) (drop (i + 1) s)) (simp (length-take, length-drop) (omega arith)),
        a (drop (l + 1) s) (simp length-drop (omega arith)),
      ))
      (λ d. refl))
      (λ e. refl)

  cut_same :
      (k : Kind) (i w : ℕ) (s : List ℕ) → i < length s → 0 < w → Agree (length s) → cut p k i w s ≡ cut q k i w s
  unfolding Agree
  cut_same (binary op) i w s h v a =
      rw (a (take i s) (simp length-take (omega arith)), a (drop (i + w) s) (simp length-drop (omega arith)))
  cut_same ternary i w s h v a = choose_same i (index_of colon s) s a

  level_same : (rs : List Row) (s : List ℕ) → Solid rs → Agree (length s) → level p rs s ≡ level q rs s
  unfolding Solid level
  level_same [] s d a = not_same (trim six s) (fewer (trim_le six s) a)
  level_same (r ∷ rs) s d a =
      same_if (found r.pattern s)
      (λ e. cut_same r.kind (index_of r.pattern s) (length r.pattern) s (ltb-true (index_of r.pattern s) (length s) e) d.0 a)
      (λ e. level_same rs s d.1 a)

  parens_same : (s : List ℕ) → Agree (length s) → parens p s ≡ parens q s
  unfolding Agree parens
  parens_same s a =
      same_if (eqb (get_or s 0 0) 40)
      (λ e. same_if (eqb (length s) 1) (λ d. refl)
      (λ d. same_if (eqb (end_from (inside s) 1 2) (length s))
      (λ c. a (trim six (inside s)) (shorter s e))
      (λ c. rest)))
      (λ e. rest)
    where
      rest : level p rows (trim six s) ≡ level q rows (trim six s)
      rest = level_same rows (trim six s) rows_solid (fewer (trim_le six s) a)

      shorter : (s : List ℕ) → eqb (get_or s 0 0) 40 ≡ true → length (trim six (inside s)) < length s
      shorter [] e = absurd (omega (arith, eqb-true 0 40 e))
      shorter (ch ∷ t) e = omega (arith, trim_le six (inside (ch ∷ t)), inside_length (ch ∷ t))

enough : (f g : ℕ) (s : List ℕ) → length s < f → length s < g → parse_in f s ≡ parse_in g s
unfolding parse_in Agree
enough zero g s h k = absurd (omega arith)
enough (suc f) zero s h k = absurd (omega arith)
enough (suc f) (suc g) s h k =
    parens_same (parse_in f) (parse_in g) (trim six s) (λ t l. enough f g t (omega (arith, trim_le six s)) (omega (arith, trim_le six s)))

-- `Ast::parse`
pub parse_is : (s : List ℕ) → shipped s ≡ parens shipped (trim six s)
unfolding shipped parse_in Agree
parse_is s =
    parens_same (parse_in (length s)) shipped (trim six s)
    (λ t l. enough (length s) (suc (length t)) t (omega (arith, trim_le six s)) (omega arith))
