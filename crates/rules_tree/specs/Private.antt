-- What the functions of the tree test promise one another: SPEC 8, place by place.
use Rattle.std.specs.Prelude.{ℕ, ◌<◌, ◌≡◌, Bool, true, not, ◌&&◌, List, ◌++◌, length, get_or, set, ltb, eqb}
use Rattle.rules.specs.Pool.{Pool, code, known, operands, all_below, member, distinct, used}

-- no place is marked
pub record Unmarked (m : List ℕ) : Type 0 where
  pub none : (q : ℕ) → q < length m → get_or m q 0 ≡ 0

-- the marks are those of the places in a list in which none stands twice
pub record Marked (m xs : List ℕ) : Type 0 where
  pub says : (q : ℕ) → q < length m → not (eqb (get_or m q 0) 0) ≡ member q xs
  pub apart : distinct xs ≡ true

-- the operand place q of a node at p was tested against the marks m, which then are n
pub record Took (q p : ℕ) (m n : List ℕ) (r : Bool) : Type 0 where
  pub answer : r ≡ (ltb q p && eqb (get_or m q 0) 0)
  pub marks : r ≡ true → n ≡ set m q 1

-- the node at p was tested against the marks m of the operands before it, and its operands were marked
pub record Placed (P : Pool) (p : ℕ) (m n : List ℕ) (r : Bool) : Type 0 where
  pub answer : r ≡ (known (code P p) && (all_below p (operands P p) && distinct (operands P p ++ used P p)))
  pub marks : r ≡ true → Marked n (operands P p ++ used P p)
  pub long : r ≡ true → length n ≡ length m
