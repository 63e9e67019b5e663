-- Worked examples, computed: texts with their readings, and texts with their values at a count. Document 01's starred rules are in the table of
-- crate `starred`; the first readings are the trees of those that are rules.
use Prim.Native.Nat.{ℕ}
use Prim.Native.Char.{code}
use Prim.Native.String as Str
use mathlib.Core.Path.{◌≡◌, refl}
use mathlib.Core.List.{List, [], ◌∷◌, map}
use Rattle.std.specs.Prelude.{Option, Some, None}
use Rattle.rules.specs.Tree.{var, int, nay, bin, cond, cmp, and, or, rem, eq, ne, ge, le, gt, lt, Reading, tree, none}
use Rattle.rules.specs.Value.{eval_tree, binary, negated, chosen, truth_v}
use Rattle.reading_grammar.specs.Reading.{standard}

-- the bytes of a text of ASCII
abbrev pub bytes : Str.String → List ℕ
bytes Str.String.[] = []
bytes (Str.String.◌∷◌ c s) = code c ∷ bytes s

abbrev pub valued : Reading → ℕ → Option (Option ℕ)
valued (tree t) n = Some (eval_tree t n)
valued none n = None

-- a text, a count, and the value there, None where a divisor is zero; or no reading
abbrev pub values : List (Str.String × ℕ × Option (Option ℕ))
values =
    ("!n%2", 4, Some (Some 0))
    ∷ ("!n==0", 4, Some (Some 1))
    ∷ ("n||n%n", 0, Some None)
    ∷ ("n&&n%n", 0, Some (Some 0))
    ∷ ("010", 0, Some (Some 10))
    ∷ ("n%10==1 && n%100!=11 ? 0 : n%10>=2 && n%10<=4 && (n%100<10 || n%100>=20) ? 1 : 2", 22, Some (Some 1))
    ∷ []

pub values_hold : map (λ (c : Str.String × ℕ × Option (Option ℕ)). valued (standard (bytes c.0)) c.1) values ≡ map (λ (c : Str.String × ℕ × Option (Option ℕ)). c.2) values
unfolding standard eval_tree binary negated chosen truth_v
values_hold = refl

-- a text, and its reading
abbrev pub readings : List (Str.String × Reading)
readings =
    ("n%10%3", tree (bin rem (bin rem var (int 10)) (int 3)))
    ∷ ("n>1 == 0", tree (bin (cmp eq) (bin (cmp gt) var (int 1)) (int 0)))
    ∷ ("n==1 && 1 ? 2 : 3", tree (cond (bin and (bin (cmp eq) var (int 1)) (int 1)) (int 2) (int 3)))
    ∷ ("0 ? n?1:2 : 3", tree (cond (int 0) (cond var (int 1) (int 2)) (int 3)))
    -- ?: groups right, and its middle is a whole rule
    ∷ ("n?1:n?2:3", tree (cond var (int 1) (cond var (int 2) (int 3))))
    ∷ ("n?n?1:2:n||n?3:4", tree (cond var (cond var (int 1) (int 2)) (cond (bin or var var) (int 3) (int 4))))
    ∷ ("n?1||n:2", tree (cond var (bin or (int 1) var) (int 2)))
    ∷ ("(n?1:0)?2:3", tree (cond (cond var (int 1) (int 0)) (int 2) (int 3)))
    ∷ ("n%(n?1:2)", tree (bin rem var (cond var (int 1) (int 2))))
    -- ranks
    ∷ ("n||n&&n==n<n%2", tree (bin or var (bin and var (bin (cmp eq) var (bin (cmp lt) var (bin rem var (int 2)))))))
    ∷ ("n%2<n==n&&n||n", tree (bin or (bin and (bin (cmp eq) (bin (cmp lt) (bin rem var (int 2)) var) var) var) var))
    ∷ ("n!=1>=2", tree (bin (cmp ne) var (bin (cmp ge) (int 1) (int 2))))
    ∷ ("n<=1!=2", tree (bin (cmp ne) (bin (cmp le) var (int 1)) (int 2)))
    ∷ ("!n%2", tree (bin rem (nay var) (int 2)))
    ∷ (" ! !n==!\t(n != 0)", tree (bin (cmp eq) (nay (nay var)) (nay (bin (cmp ne) var (int 0)))))
    -- integers
    ∷ ("007", tree (int 7))
    ∷ ("18446744073709551615", tree (int 18446744073709551615))
    ∷ ("18446744073709551616", none)
    ∷ ("0?18446744073709551616:1", none)
    ∷ ("1 0", none)
    -- blanks
    ∷ (" \tn ", tree var)
    ∷ ("n = = 1", none)
    ∷ ("n\r", none)
    ∷ (" ", none)
    ∷ ("", none)
    -- brackets, and what is left over
    ∷ ("(", none)
    ∷ ("()", none)
    ∷ ("(n", none)
    ∷ ("n)", none)
    ∷ ("n ? 1", none)
    ∷ ("n : 1", none)
    ∷ ("nn", none)
    ∷ ("m", none)
    ∷ ("n=1", none)
    ∷ ("n&n", none)
    ∷ []

pub readings_hold : map (λ (c : Str.String × Reading). standard (bytes c.0)) readings ≡ map (λ (c : Str.String × Reading). c.1) readings
unfolding standard
readings_hold = refl
