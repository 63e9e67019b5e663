-- C's grammar of a plural rule, over tokens: which lists of tokens are a text of which level, and what tree each has.
-- GNU gettext manual 11.2.6 (an expression in C's syntax); SPEC 6.2: ?: groups right and has the
-- lowest rank, its middle is a whole rule; then ||, &&, == and !=, the four orderings, + and -, then * / %, then !; the binary operators group
-- left (SPEC 6, for + - * /).
use Rattle.std.specs.Prelude.{ℕ, suc, ◌<◌, ◌^◌, ◌≡◌, List, [], ◌∷◌, ◌++◌}
use Prim.Native.Char.{code}
use Rattle.rules.specs.Tree.{Tree, var, int, nay, bin, cond, Op, cmp, calc, and, or, rem, div, Cmp, eq, ne, ge, le, gt, lt, Calc, plus, minus, times}

-- a binary operator, an integer, or any other byte as it stands
pub data Token : Type 0 where
  sign : Op → Token
  number : ℕ → Token
  mark : ℕ → Token

abbrev pub letter_n : Token
letter_n = mark (code "n")

abbrev pub bang : Token
bang = mark (code "!")

abbrev pub ask : Token
ask = mark (code "?")

abbrev pub colon : Token
colon = mark (code ":")

abbrev pub opening : Token
opening = mark (code "(")

abbrev pub closing : Token
closing = mark (code ")")

-- the table of ranks: 1 binds tightest
abbrev pub rank_cmp : Cmp → ℕ
rank_cmp eq = 4
rank_cmp ne = 4
rank_cmp ge = 3
rank_cmp le = 3
rank_cmp gt = 3
rank_cmp lt = 3

abbrev pub rank_calc : Calc → ℕ
rank_calc times = 1
rank_calc plus = 2
rank_calc minus = 2

abbrev pub rank : Op → ℕ
rank rem = 1
rank div = 1
rank (calc c) = rank_calc c
rank (cmp c) = rank_cmp c
rank and = 5
rank or = 6

-- the loosest binary rank; a whole rule is one level looser, where ?: stands
abbrev pub loosest : ℕ
loosest = 6

abbrev pub full : ℕ
full = suc loosest

-- Level 0 is what ! takes; level k + 1 has the operators of rank k + 1 over texts of level k.
pub data Derives : ℕ → List Token → Tree → Type 0 where
  variable : Derives 0 (letter_n ∷ []) var
  integer : {v : ℕ} → v < 2 ^ 64 → Derives 0 (number v ∷ []) (int v)
  bracket : {s : List Token} {t : Tree} → Derives full s t → Derives 0 (opening ∷ s ++ closing ∷ []) t
  negation : {s : List Token} {t : Tree} → Derives 0 s t → Derives 0 (bang ∷ s) (nay t)
  tighter : {k : ℕ} {s : List Token} {t : Tree} → Derives k s t → Derives (suc k) s t
  binary : {op : Op} {k : ℕ} {s u : List Token} {t v : Tree} → rank op ≡ suc k
      → Derives (suc k) s t → Derives k u v → Derives (suc k) (s ++ sign op ∷ u) (bin op t v)
  conditional : {s u w : List Token} {t v x : Tree}
      → Derives loosest s t → Derives full u v → Derives full w x → Derives full (s ++ ask ∷ u ++ colon ∷ w) (cond t v x)
