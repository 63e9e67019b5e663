-- A tree of the Shipped reading has at most as many nodes as its text has bytes: each node takes a byte of its own, the sign or digit that
-- it is read from, and its operands are read from the other bytes. Assumes nothing.
use Rattle.std.specs.Prelude.{Option, Some, None}
use Prim.Native.Nat.{ℕ, zero, suc, ◌+◌, ◌-◌, ◌<◌, ◌≤◌}
use mathlib.Core.Path.{◌≡◌, refl}
use mathlib.Core.Bool.{Bool, true, false}
use mathlib.Core.List.{List, [], ◌∷◌}
use native.Mathlib.Omega.{arith}
use borrow.Author.Tests.{ltb-true, eqb-true}
use lib.ListN.{length, get_or, take, drop, length-take, length-drop}
use lib.Dec.{ltb, eqb}
use Rattle.text_trim.specs.Trim.{trim, trim_start, trim_end, edge_after, six}
use Rattle.text_trim.proofs.Trimming.{trim_le}
use Rattle.rules.specs.Tree.{Tree, var, int, nay, bin, cond, Op, Reading, tree, none}
use Rattle.rules.specs.Store.{size}
use Rattle.text_digits.specs.Digits.{integer}
use Rattle.reading_scan.specs.Scan.{index_of, end_from}
use Rattle.reading_levels.specs.Levels.{Kind, binary, ternary, Row, rows, found}
use Rattle.reading_shipped.specs.Shipped.{one, two, three, read_n, or_n, read_int, bang, colon, read_not, choose, cut, level, inside, parens, parse_in, shipped}
use Rattle.reading_shipped.proofs.Fuel.{Solid, rows_solid}

-- a tree of at most n nodes, if any
record Small (o : Reading) (n : ℕ) : Type 0 where
  is : (t : Tree) → o ≡ tree t → size t ≤ n

none_small : {n : ℕ} → Small none n
none_small = record { is = λ t e. let z : ◌≡◌ {A = ℕ} 0 1 = cc in absurd (omega arith) }

tree_small : (t : Tree) {n : ℕ} → size t ≤ n → Small (tree t) n
tree_small t h = record { is = λ u e. let d : u ≡ t = cc in rw d h }

wider : {o : Reading} {m n : ℕ} → m ≤ n → Small o m → Small o n
wider h w = record { is = λ t e. omega (arith, w.is t e) }

small_if : (b : Bool) {x y : Reading} {n : ℕ} → (b ≡ true → Small x n) → (b ≡ false → Small y n) → Small (elim b [ true ↦ x | false ↦ y ]) n
small_if true h k = h refl
small_if false h k = k refl

-- a node over its operands
one_small : (x : Reading) {a n : ℕ} → Small x a → a + 1 ≤ n → Small (one x) n
unfolding size
one_small (tree s) w h = tree_small (nay s) (omega (arith, w.is s refl))
one_small none w h = none_small

two_small : (op : Op) (x y : Reading) {a b n : ℕ} → Small x a → Small y b → a + b + 1 ≤ n → Small (two op x y) n
unfolding size
two_small op (tree s) (tree t) v w h = tree_small (bin op s t) (omega (arith, v.is s refl, w.is t refl))
two_small op (tree s) none v w h = none_small
two_small op none y v w h = none_small

three_small : (x y z : Reading) {a b c n : ℕ} → Small x a → Small y b → Small z c → a + b + c + 1 ≤ n → Small (three x y z) n
unfolding size
three_small (tree s) (tree t) (tree u) v w r h = tree_small (cond s t u) (omega (arith, v.is s refl, w.is t refl, r.is u refl))
three_small (tree s) (tree t) none v w r h = none_small
three_small (tree s) none z v w r h = none_small
three_small none y z v w r h = none_small

-- n and integers
n_small : (s : List ℕ) → Small (read_n s) (length s)
unfolding size
n_small s =
    small_if (eqb (length s) 1)
    (λ e. small_if (eqb (get_or s 0 0) 110) (λ d. tree_small var (omega (arith, eqb-true (length s) 1 e))) (λ d. none_small))
    (λ e. none_small)

int_small : (s : List ℕ) → Small (read_int s) (length s)
unfolding integer trim trim_start trim_end edge_after size
int_small [] = none_small
int_small (b ∷ s) = go (integer (b ∷ s))
  where
    go : (x : Option ℕ) → Small (or_n x (b ∷ s)) (length (b ∷ s))
    go (Some v) = tree_small (int v) (omega arith)
    go None = wider (trim_le six (b ∷ s)) (n_small (trim six (b ∷ s)))

-- each definition, where the pieces have small trees
module _ (p : List ℕ → Reading) (small : (s : List ℕ) → Small (p s) (length s)) where
  not_small : (s : List ℕ) → Small (read_not p s) (length s)
  unfolding read_not
  not_small s =
      small_if (found bang s)
      (λ e. small_if (eqb (index_of bang s) 0)
      (λ d. one_small (p (drop 1 s)) (small (drop 1 s)) (simp length-drop (omega (arith, ltb-true (index_of bang s) (length s) e))))
      (λ d. wider (trim_le six s) (int_small (trim six s))))
      (λ e. wider (trim_le six s) (int_small (trim six s)))

  choose_small : (i l : ℕ) (s : List ℕ) → Small (choose p i l s) (length s)
  unfolding choose
  choose_small i l s =
      small_if (ltb l (length s))
      (λ e. small_if (ltb i l)
      (λ d.
      let h : l < length s = ltb-true l (length s) e in
      let k : i < l = ltb-true i l d in
      three_small (p (take i s)) (p (take (l - (i + 1)) (drop (i + 1) s))) (p (drop (l + 1) s))
      (small (take i s)) (small (take (l - (i + 1)) (drop (i + 1) s))) (small (drop (l + 1) s))
      (simp (length-take, length-drop) (omega arith)))
      (λ d. none_small))
      (λ e. none_small)

  cut_small : (k : Kind) (i w : ℕ) (s : List ℕ) → i < length s → 0 < w → Small (cut p k i w s) (length s)
  cut_small (binary op) i w s h v =
      two_small op (p (take i s)) (p (drop (i + w) s)) (small (take i s)) (small (drop (i + w) s)) (simp (length-take, length-drop) (omega arith))
  cut_small ternary i w s h v = choose_small i (index_of colon s) s

  level_small : (rs : List Row) (s : List ℕ) → Solid rs → Small (level p rs s) (length s)
  unfolding Solid level
  level_small [] s d = wider (trim_le six s) (not_small (trim six s))
  level_small (r ∷ rs) s d =
      small_if (found r.pattern s)
      (λ e. cut_small r.kind (index_of r.pattern s) (length r.pattern) s (ltb-true (index_of r.pattern s) (length s) e) d.0)
      (λ e. level_small rs s d.1)

  rest_small : (s : List ℕ) → Small (level p rows (trim six s)) (length s)
  rest_small s = wider (trim_le six s) (level_small rows (trim six s) rows_solid)

  parens_small : (s : List ℕ) → Small (parens p s) (length s)
  unfolding parens
  parens_small s =
      small_if (eqb (get_or s 0 0) 40)
      (λ e. small_if (eqb (length s) 1) (λ d. none_small)
      (λ d. small_if (eqb (end_from (inside s) 1 2) (length s))
      (λ c. wider (inside_le s) (small (trim six (inside s))))
      (λ c. rest_small s)))
      (λ e. rest_small s)
    where
      inside_le : (s : List ℕ) → length (trim six (inside s)) ≤ length s
      inside_le s = let k : length (inside s) ≤ length s = simp (length-take, length-drop) (omega arith) in omega (arith, trim_le six (inside s))

parse_small : (f : ℕ) (s : List ℕ) → Small (parse_in f s) (length s)
unfolding parse_in
parse_small zero s = none_small
parse_small (suc f) s = wider (trim_le six s) (parens_small (parse_in f) (parse_small f) (trim six s))

-- a text of m bytes that is read makes a tree of at most m nodes
pub shipped_nodes : (s : List ℕ) (t : Tree) → shipped s ≡ tree t → size t ≤ length s
unfolding shipped
shipped_nodes s t e = (parse_small (suc (length s)) s).is t e
