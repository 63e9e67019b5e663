-- What an answer tells: the token that stands next, and that the tokens after it are those of the text from the position after it on.
use Prim.Native.Nat.{ℕ, suc, ◌-◌, ◌<◌, ◌≤◌, ◌^◌}
use mathlib.Core.Path.{◌≡◌, refl, ap, ◌∙◌}
use mathlib.Core.Bool.{Bool, true, false}
use mathlib.Core.List.{List, [], ◌∷◌}
use mathlib.Core.Option as found
use Rattle.std.specs.Prelude.{Option, Some, None}
use native.Mathlib.Omega.{arith}
use lib.ListN.{length, drop, get_or, length-drop}
use lib.Seq.{drop-cons, drop-drop}
use lib.Dec.{leb, ltb, eqb}
use borrow.Author.Tests.{leb-true, leb-false, ltb-true, ltb-false, eqb-true}
use Rattle.text.proofs.Front.{front_length}
use Rattle.rules.specs.Tree.{Tree, Op}
use Rattle.reading_grammar.specs.Grammar.{Token, sign, number, mark}
use Rattle.reading_grammar.specs.Tokens.{tokens, digit, blank, two, find_one, ones}
use Rattle.reading_grammar.specs.Reading.{Outcome, got, bad, past}
use Rattle.reading_tokens.specs.declared.Next.{Next}
use Rattle.reading_tokens.specs.declared.Next.TheVariants.{End, Sign, Number, Huge, Mark}
use Rattle.reading_tokens.specs.Scan.{Operator, skipped, width, after, first, next, passed}
use Rattle.reading_grammar.proofs.Choice.{left_if}
use Rattle.reading_tokens.proofs.Lexed.{whole, same, none_left, skips, no_blank, of_digit, of_two, of_one}

-- a text that begins with a token: the token, and the tokens after its bytes
record Begun (s : List ℕ) : Type 0 where
  x : Token
  is : tokens s ≡ x ∷ tokens (drop (width s) s)
  long : 0 < width s
  within : width s ≤ length s

begun_two : (b : ℕ) (r : List ℕ) (op : Op) → digit b ≡ false → blank b ≡ false → two b r ≡ found.some op → Begun (b ∷ r)
unfolding tokens
begun_two b [] op e n t = let z : ◌≡◌ {A = ℕ} 0 1 = cc in absurd (omega arith)
begun_two b (c ∷ r) op e n t =
    let z = of_two b (c ∷ r) e n t in
    record { x = sign op; is = z.0 ∙ rw z.1 refl; long = omega (arith, z.1); within = omega (arith, z.1) }

begun : (b : ℕ) (r : List ℕ) → blank b ≡ false → Begun (b ∷ r)
begun b r n = go (digit b) refl (two b r) refl
  where
    go : (d : Bool) → digit b ≡ d → (o : found.Option Op) → two b r ≡ o → Begun (b ∷ r)
    go true e o t =
        let g = whole (b - 48) r in
        let z = of_digit b r e in
        record { x = number g.w; is = z.0 ∙ (g.is ∙ rw z.1 refl); long = omega (arith, z.1); within = omega (arith, z.1, front_length digit r) }
    go false e (found.some op) t = begun_two b r op e n t
    go false e found.none t =
        let z = of_one b r e n t in
        record { x = find_one ones b; is = z.0 ∙ rw z.1 refl; long = omega (arith, z.1); within = omega (arith, z.1) }

-- the token x stands next, and e is after it
pub record Step (s : List ℕ) (at : ℕ) (x : Token) (e : ℕ) : Type 0 where
  pub is : tokens (drop at s) ≡ x ∷ tokens (drop e s)
  pub further : at < e
  pub within : e ≤ length s

stepped : (s : List ℕ) (at : ℕ) (x : Token) (r : List Token) → tokens (drop at s) ≡ x ∷ r → Step s at x (after s at)
unfolding after
stepped s at x r e = go (leb (length s) (skipped s at)) refl
  where
    go : (y : Bool) → leb (length s) (skipped s at) ≡ y → Step s at x (after s at)
    go true h =
        let n : tokens (drop at s) ≡ [] = same s at ∙ none_left s (skipped s at) (leb-true _ _ h) in
        let z : ◌≡◌ {A = ℕ} 0 1 = cc in
        absurd (omega arith)
    go false h =
        let i = skipped s at in
        let l = leb-false _ _ h in
        let g : Begun (drop i s) = rw (drop-cons s i 0 l) (begun (get_or s i 0) (drop (suc i) s) (no_blank s at l)) in
        let t : tokens (drop at s) ≡ g.x ∷ tokens (drop (after s at) s) = same s at ∙ (g.is ∙ ap (λ (q : List ℕ). g.x ∷ tokens q) (drop-drop (width (drop i s)) i s)) in
        let f : g.x ≡ x = cc in
        record {
          is = t ∙ rw f refl;
          further = omega (arith, g.long, skips s at);
          within = omega (arith, g.within, length-drop i s);
        }

-- what stands next, by the answer
pub record SignAt (s : List ℕ) (at c e : ℕ) : Type 0 where
  pub known : Operator c
  pub step : Step s at (sign known.op) e

pub record NumberAt (s : List ℕ) (at v e : ℕ) : Type 0 where
  pub step : Step s at (number v) e
  pub small : v < 2 ^ 64

pub record HugeAt (s : List ℕ) (at : ℕ) : Type 0 where
  pub v : ℕ
  pub rest : List Token
  pub is : tokens (drop at s) ≡ number v ∷ rest
  pub big : 2 ^ 64 ≤ v

abbrev Nexts : List ℕ → ℕ → Next → Type 0
Nexts s at End = tokens (drop at s) ≡ []
Nexts s at (Sign c e) = SignAt s at c e
Nexts s at (Number v e) = NumberAt s at v e
Nexts s at Huge = HugeAt s at
Nexts s at (Mark b e) = Step s at (mark b) e

means : (s : List ℕ) (at : ℕ) (ts : List Token) → tokens (drop at s) ≡ ts → Nexts s at (first ts (after s at))
means s at [] e = e
means s at (sign op ∷ r) e =
    record { known = record { op = op; is = refl }; step = stepped s at (sign op) r e }
means s at (number v ∷ r) e = go (ltb v (2 ^ 64)) refl
  where
    go : (y : Bool) → ltb v (2 ^ 64) ≡ y → Nexts s at (elim y [ true ↦ Number v (after s at) | false ↦ Huge ])
    go true h = record { step = stepped s at (number v) r e; small = ltb-true _ _ h }
    go false h = record { v = v; rest = r; is = e; big = ltb-false _ _ h }
means s at (mark b ∷ r) e = stepped s at (mark b) r e

module _ (s : List ℕ) (at : ℕ) where
  next_is : {x : Next} → x ≡ next s at → Nexts s at x
  unfolding next
  next_is w = rw w (means s at (tokens (drop at s)) refl)

  pub ended : End ≡ next s at → tokens (drop at s) ≡ []
  ended w = next_is w

  pub signed : {c e : ℕ} → Sign c e ≡ next s at → SignAt s at c e
  signed w = next_is w

  pub numbered : {v e : ℕ} → Number v e ≡ next s at → NumberAt s at v e
  numbered w = next_is w

  pub huge : Huge ≡ next s at → HugeAt s at
  huge w = next_is w

  pub marked : {b e : ℕ} → Mark b e ≡ next s at → Step s at (mark b) e
  marked w = next_is w

-- the byte c had to come next
pub record NotNext (c : ℕ) (s : List ℕ) (at : ℕ) : Type 0 where
  pub ends : (t : Tree) (K : Tree → List Token → Outcome) → past c (got t (tokens (drop at s))) K ≡ bad

abbrev Passed : ℕ → List ℕ → ℕ → Option ℕ → Type 0
Passed c s at (Some e) = Step s at (mark c) e
Passed c s at None = NotNext c s at

pass_means : (c : ℕ) (s : List ℕ) (at : ℕ) (ts : List Token) → tokens (drop at s) ≡ ts → Passed c s at (passed c (first ts (after s at)))
pass_means c s at [] e = record { ends = λ t K. rw e refl }
pass_means c s at (sign op ∷ r) e = record { ends = λ t K. rw e refl }
pass_means c s at (number v ∷ r) e = go (ltb v (2 ^ 64))
  where
    go : (y : Bool) → Passed c s at (passed c (elim y [ true ↦ Number v (after s at) | false ↦ Huge ]))
    go true = record { ends = λ t K. rw e refl }
    go false = record { ends = λ t K. rw e refl }
pass_means c s at (mark b ∷ r) e = go (eqb b c) refl
  where
    go : (y : Bool) → eqb b c ≡ y → Passed c s at (elim y [ true ↦ Some (after s at) | false ↦ None ])
    go true h = rw (← eqb-true b c h) (stepped s at (mark b) r e)
    go false h = record { ends = λ t K. rw e (left_if _ _ h) }

module _ (c : ℕ) (s : List ℕ) (at : ℕ) where
  pass_is : {x : Option ℕ} → x ≡ passed c (next s at) → Passed c s at x
  unfolding next
  pass_is w = rw w (pass_means c s at (tokens (drop at s)) refl)

  pub got_past : {p : ℕ} → Some p ≡ passed c (next s at) → Step s at (mark c) p
  got_past w = pass_is w

  pub unpassed : None ≡ passed c (next s at) → NotNext c s at
  unpassed w = pass_is w
