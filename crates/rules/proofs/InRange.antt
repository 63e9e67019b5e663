-- A rated rule yields a value within its range at every count, and never a remainder by zero; so a rule that fits k yields a form
-- below k. By induction on the tree, with one lemma for each kind of node.
use Prim.Native.Nat.{ℕ, ◌+◌, ◌-◌, ◌*◌, ◌/◌, ◌%◌, ◌^◌, ◌<◌, ◌≤◌, min, max}
use mathlib.Core.Path.{◌≡◌, refl}
use mathlib.Core.Bool.{Bool, true, false, not}
use mathlib.Core.Logic.{by_cases}
use native.Mathlib.Omega.{arith}
use native.Mathlib.Nat.{mod-lt, mod-le, mod-eq_of_lt, mul-le-mul, mul-le-mul_left, div-mul-le_self, le-div_iff_mul-le}
use native.Mathlib.Decide.{ℕ_discrete, dec_le, dec_lt}
use lib.Dec.{eqb, leb}
use borrow.Author.Tests.{eq-eqb, ne_eqb, ltb-true, le-leb, lt-leb, lt-ltb, le-ltb}
use Rattle.std.specs.Prelude.{Option, Some, None}
use Rattle.rules.specs.Tree.{Tree, var, int, nay, bin, cond, Op, cmp, calc, and, or, rem, div, ne, plus, minus, times}
use Rattle.rules.specs.Value.{truth, truth_v, pick_v, compared, binary, negated, chosen, eval_tree}
use Rattle.rules.specs.Range.{pick_r, full_range, kept, op_range, bin_range, cond_range, not_range, rate_tree, fits_range}
use Rattle.rules.proofs.Operators.{never}

-- a value within a range
abbrev Within : Option (ℕ × ℕ) → Option ℕ → Type 0
Within (Some (l, h)) (Some v) = (l ≤ v) × (v ≤ h)
Within (Some (l, h)) None = ⊥
Within None v = Unit {0}

truth_in : (b : Bool) → (0 ≤ truth b) × (truth b ≤ 1)
truth_in true = omega arith
truth_in false = omega arith

truth_v_in : (l h : ℕ) (v : Option ℕ) → Within (Some (l, h)) v → Within (Some (0, 1)) (truth_v v)
unfolding truth_v
truth_v_in l h (Some y) w = truth_in (not (eqb y 0))
truth_v_in l h None w = w

nay_in : (r : Option (ℕ × ℕ)) (v : Option ℕ) → Within r v → Within (not_range r) (negated v)
unfolding not_range negated
nay_in (Some (l, h)) (Some x) w = truth_in (eqb x 0)
nay_in (Some (l, h)) None w = w
nay_in None v w = tt

pick_in : (b : Bool) (r : Option (ℕ × ℕ)) (v w : Option ℕ) → Within r v → Within r w → Within r (pick_v b v w)
pick_in true r v w p q = p
pick_in false r v w p q = q

wider : (l h k m : ℕ) (v : Option ℕ) → Within (Some (l, h)) v → k ≤ l → h ≤ m → Within (Some (k, m)) v
wider l h k m (Some x) w p q = omega arith
wider l h k m None w p q = w

-- a divisor whose lowest is not 0 is not 0
over : (l y lo hi z : ℕ) → l ≤ y → (0 < l → Within (Some (lo, hi)) (Some z))
    → Within (pick_r (eqb l 0) None (Some (lo, hi))) (pick_v (eqb y 0) None (Some z))
over l y lo hi z h w =
    by_cases (ℕ_discrete l 0)
    (λ e. rw (eq-eqb l 0 e) tt)
    (λ e. rw (ne_eqb l 0 e, ne_eqb y 0 (λ d. e (omega arith))) (w (omega arith)))

-- a quotient of the least by the greatest is the least, and the other way round
over_in : (k h l m x y : ℕ) → 0 < l → k ≤ x → x ≤ h → l ≤ y → y ≤ m → (k / m ≤ x / y) × (x / y ≤ h / l)
over_in k h l m x y pos p q r s = (
  (le-div_iff_mul-le {k = y} (omega arith)).1 (omega (arith, mul-le-mul_left (k / m) s, div-mul-le_self k m)),
  (le-div_iff_mul-le {k = l} pos).1 (omega (arith, mul-le-mul_left (x / y) r, div-mul-le_self x y)),
)

-- a number modulo 2^64 is in the full range, and itself where it fits
wrapped : (x : ℕ) → Within full_range (Some (x % 2 ^ 64))
wrapped x = let h = mod-lt x {m = 2 ^ 64} (omega arith) in omega arith

kept_in : (l h x : ℕ) → l ≤ x → x ≤ h → Within (kept l h) (Some (x % 2 ^ 64))
unfolding kept
kept_in l h x p q =
    by_cases (dec_lt h (2 ^ 64))
    (λ d. let z : x % 2 ^ 64 ≡ x = mod-eq_of_lt (omega arith) in rw (lt-ltb h (2 ^ 64) d, z) (p, q))
    (λ d. rw (le-ltb h (2 ^ 64) (omega arith)) (wrapped x))

-- where the subtrahend is not greater, the difference is that of the numbers
minus_in : (k h l m x y : ℕ) → k ≤ x → x ≤ h → l ≤ y → y ≤ m → Within (pick_r (leb m k) (kept (k - m) (h - l)) full_range) (Some ((2 ^ 64 + x - y) % 2 ^ 64))
minus_in k h l m x y p q r s =
    by_cases (dec_le m k)
    (λ d.
    let z : (2 ^ 64 + x - y) % 2 ^ 64 ≡ (x - y) % 2 ^ 64 = omega arith in
    rw (le-leb m k d, z) (kept_in (k - m) (h - l) (x - y) (omega arith) (omega arith)))
    (λ d. rw (lt-leb m k (omega arith)) (wrapped (2 ^ 64 + x - y)))

op_in : (op : Op) (k h l m : ℕ) (v w : Option ℕ) → Within (Some (k, h)) v → Within (Some (l, m)) w → Within (op_range op k h l m) (binary op v w)
unfolding op_range binary kept
op_in op k h l m None w p q = absurd p
op_in (cmp c) k h l m (Some x) (Some y) p q = truth_in (compared c x y)
op_in (cmp c) k h l m (Some x) None p q = q
op_in and k h l m (Some x) w p q = pick_in (eqb x 0) (Some (0, 1)) (Some 0) (truth_v w) (omega arith) (truth_v_in l m w q)
op_in or k h l m (Some x) w p q = pick_in (eqb x 0) (Some (0, 1)) (truth_v w) (Some 1) (truth_v_in l m w q) (omega arith)
op_in rem k h l m (Some x) (Some y) p q = over l y 0 (min h (m - 1)) (x % y) q.0 (λ e. omega (arith, p, q, mod-lt x {m = y} (omega (arith, q)), mod-le x y))
op_in rem k h l m (Some x) None p q = absurd q
op_in div k h l m (Some x) (Some y) p q = over l y (k / m) (h / l) (x / y) q.0 (λ e. over_in k h l m x y e p.0 p.1 q.0 q.1)
op_in div k h l m (Some x) None p q = absurd q
op_in (calc plus) k h l m (Some x) (Some y) p q = kept_in (k + l) (h + m) (x + y) (omega (arith, p, q)) (omega (arith, p, q))
op_in (calc minus) k h l m (Some x) (Some y) p q = minus_in k h l m x y p.0 p.1 q.0 q.1
op_in (calc times) k h l m (Some x) (Some y) p q = kept_in (k * l) (h * m) (x * y) (mul-le-mul p.0 q.0) (mul-le-mul p.1 q.1)
op_in (calc c) k h l m (Some x) None p q = absurd q

bin_in : (op : Op) (r s : Option (ℕ × ℕ)) (v w : Option ℕ) → Within r v → Within s w → Within (bin_range op r s) (binary op v w)
unfolding bin_range
bin_in op (Some (k, h)) (Some (l, m)) v w p q = op_in op k h l m v w p q
bin_in op (Some (k, h)) None v w p q = tt
bin_in op None s v w p q = tt

cond_in : (r s q : Option (ℕ × ℕ)) (u v w : Option ℕ) → Within r u → Within s v → Within q w → Within (cond_range r s q) (chosen u v w)
unfolding cond_range chosen
cond_in (Some (i, j)) (Some (k, h)) (Some (l, m)) (Some x) v w a b c =
    pick_in (eqb x 0) (Some (min k l, max h m)) w v
    (wider l m (min k l) (max h m) w c (omega arith) (omega arith))
    (wider k h (min k l) (max h m) v b (omega arith) (omega arith))
cond_in (Some (i, j)) (Some (k, h)) (Some (l, m)) None v w a b c = a
cond_in (Some (i, j)) (Some (k, h)) None u v w a b c = tt
cond_in (Some (i, j)) None q u v w a b c = tt
cond_in None s q u v w a b c = tt

within : (t : Tree) (n : ℕ) → n < 2 ^ 64 → Within (rate_tree t) (eval_tree t n)
unfolding rate_tree eval_tree
within var n h = omega arith
within (int x) n h = omega arith
within (nay t) n h = nay_in _ _ (within t n h)
within (bin op s t) n h = bin_in op _ _ _ _ (within s n h) (within t n h)
within (cond s t u) n h = cond_in _ _ _ _ _ _ (within s n h) (within t n h) (within u n h)

-- a value from lo to hi, and so no zero remainder
pub record FromTo (lo hi : ℕ) (v : Option ℕ) : Type 0 where
  pub form : ℕ
  pub is : v ≡ Some form
  pub low : lo ≤ form
  pub high : form ≤ hi

from_to_lem : (lo hi : ℕ) (v : Option ℕ) → Within (Some (lo, hi)) v → FromTo lo hi v
from_to_lem lo hi (Some v) w = record { form = v; is = refl; low = w.0; high = w.1 }
from_to_lem lo hi None w = absurd w

-- a rule of range lo to hi yields at every count a value from lo to hi
pub rated : (t : Tree) (lo hi : ℕ) → rate_tree t ≡ Some (lo, hi) → (n : ℕ) → n < 2 ^ 64 → FromTo lo hi (eval_tree t n)
rated t lo hi e n b = from_to_lem lo hi (eval_tree t n) (rw e at (within t n b))

-- a range's lowest is at most its highest: the value at 0 lies between them
pub ordered : (t : Tree) (lo hi : ℕ) → rate_tree t ≡ Some (lo, hi) → lo ≤ hi
ordered t lo hi e = let w : FromTo lo hi (eval_tree t 0) = rated t lo hi e 0 (omega arith) in omega arith

-- a form below k
pub record Below (k : ℕ) (v : Option ℕ) : Type 0 where
  pub form : ℕ
  pub is : v ≡ Some form
  pub low : form < k

below : (r : Option (ℕ × ℕ)) (k : ℕ) (v : Option ℕ) → fits_range r k ≡ true → Within r v → Below k v
unfolding fits_range
below (Some (l, h)) k (Some v) e w = record { form = v; is = refl; low = omega (arith, w, ltb-true h k e) }
below (Some (l, h)) k None e w = absurd w
below None k v e w = never e

-- a rule that fits k yields a form below k at every count
pub fitting : (t : Tree) (k : ℕ) → fits_range (rate_tree t) k ≡ true → (n : ℕ) → n < 2 ^ 64 → Below k (eval_tree t n)
fitting t k e n b = below (rate_tree t) k (eval_tree t n) e (within t n b)

-- nothing fits 0
pub fits_none : (r : Option (ℕ × ℕ)) → fits_range r 0 ≡ false
unfolding fits_range
fits_none (Some (l, h)) = le-ltb h 0 (omega arith)
fits_none None = refl

-- the default rule's range is 0 to 1
pub default_range : rate_tree (bin (cmp ne) var (int 1)) ≡ Some (0, 1)
unfolding rate_tree bin_range op_range
default_range = refl
