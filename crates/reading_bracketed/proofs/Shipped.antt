-- The Shipped reading of a bracketed text is its tree: `parse_parens` takes the outer brackets off, and no others; the first operator outside
-- brackets is the one that was written, and no row of the table of levels above its own matches. Assumes nothing.
use Prim.Native.Nat.{ℕ, zero, suc, ◌+◌, ◌-◌, ◌<◌, ◌^◌}
use mathlib.Core.Path.{◌≡◌, refl, ap, ◌∙◌}
use mathlib.Core.Bool.{Bool, true, false, ◌&&◌}
use mathlib.Core.List.{List, [], ◌∷◌, ◌++◌, append_assoc, append-nil}
use native.Mathlib.Omega.{arith}
use lib.ListN.{length, take, drop, length-append}
use lib.Seq.{length-take-le, take-append_seam, drop-append_seam, take-append-add, drop-append-add}
use lib.Dec.{eqb}
use borrow.Author.Tests.{ne_eqb, eq-eqb, lt-ltb, le-ltb}
use Rattle.text.specs.Bytes.{all}
use Rattle.text_trim.specs.Trim.{trim, six}
use Rattle.text_trim.specs.declared.Set.TheVariants.{Six}
use Rattle.text.proofs.Tests.{taken, left, and_left, and_right}
use Rattle.rules.specs.Tree.{Tree, var, int, nay, bin, cond, Op, cmp, calc, and, or, rem, div, eq, ne, ge, le, gt, lt, Reading, tree}
use Rattle.text_digits.specs.Digits.{digits_from, integer}
use Rattle.reading_scan.specs.Scan.{index_of, end_from}
use Rattle.reading_levels.specs.Levels.{Kind, binary, ternary, Row, row, rows, found}
use Rattle.reading_shipped.specs.Shipped.{one, two, three, read_n, read_int, bang, colon, read_not, choose, level, inside, parens, parse_in, shipped}
use Rattle.rules_text.specs.Bracketed.{sign_of, brackets, bracketed, decimal}
use Rattle.rules_text.specs.Bounded.{Bounded}
use Rattle.reading_bracketed.specs.Plain.{Plain-op, Plain}
use Rattle.reading_bracketed.proofs.Decimal.{Digits, decimal_writes, shipped_integer}
use Rattle.reading_bracketed.proofs.Decimal as decimals
use Rattle.reading_bracketed.proofs.Marks.{sign, Sign, one_byte, two_bytes, signs, all_signs, sign_no_open}
use Rattle.reading_bracketed.proofs.Lengths.{length_not, length_binary, length_ternary}
use Rattle.reading_bracketed.proofs.Visible.{Visible, byte, both_visible, in_brackets, seen, sign_seen, trim_visible}
use Rattle.reading_bracketed.proofs.Balanced.{Balanced, both_balanced, sign_balanced, digits_balanced, signs_clean, Operand, letter, number, whole, operand_over, Missed, over_missed, none_missed, both_missed, passes, sign_missed, not_found, found_at, fold_close, fold_inside, fold_outside}
use Rattle.reading_bracketed.proofs.Balanced as balanced

-- what the laws below ask of a text
pub record Text (x : List ℕ) : Type 0 where
  pub operand : Operand x
  pub balanced : Balanced x
  pub visible : Visible x

-- the texts between a tree's brackets, from those of its operands
module _ {x : List ℕ} (a : Text x) where
  not_balanced : Balanced (33 ∷ x)
  not_balanced = balanced.byte refl refl a.balanced

  module _ {y : List ℕ} (b : Text y) where
    binary_balanced : (op : Op) → Balanced (x ++ sign_of op ++ y)
    binary_balanced op = both_balanced (both_balanced a.balanced (sign_balanced (signs op))) b.balanced

    ternary_balanced : {z : List ℕ} → Text z → Balanced (x ++ 63 ∷ y ++ 58 ∷ z)
    ternary_balanced c =
        both_balanced (both_balanced a.balanced (balanced.byte refl refl b.balanced)) (balanced.byte refl refl c.balanced)

wrapped : {s : List ℕ} → Balanced s → Visible (brackets s) → Text (brackets s)
wrapped d v = record { operand = whole d; balanced = balanced.pair d balanced.empty; visible = v }

pub text : (t : Tree) → Text (bracketed t)
unfolding bracketed
text var = record { operand = letter; balanced = balanced.byte refl refl balanced.empty; visible = seen var }
text (int v) =
    let w = decimal_writes v in
    record { operand = rw w.is (number w.digits); balanced = rw w.is (digits_balanced w.digits); visible = seen (int v) }
text (nay t) = wrapped (not_balanced (text t)) (seen (nay t))
text (bin op s t) = wrapped (binary_balanced (text s) (text t) op) (seen (bin op s t))
text (cond s t u) = wrapped (ternary_balanced (text s) (text t) (text u)) (seen (cond s t u))

pub operand_some : {x : List ℕ} → Operand x → 0 < length x
operand_some letter = omega arith
operand_some (number d) = omega arith
operand_some (whole d) = omega arith

sign_some : {g : List ℕ} → Sign g → 0 < length g
sign_some (one_byte h) = omega arith
sign_some (two_bytes h k) = omega arith

-- `parse_parens`: brackets round a balanced text come off
inside_whole : (s : List ℕ) → inside (brackets s) ≡ s
inside_whole s =
    let n : length (brackets s) - 1 - 1 ≡ length s = omega (arith, length-append s (41 ∷ [])) in
    rw n (take-append_seam s (41 ∷ []))

module _ (parse : List ℕ → Reading) where
  parens_strip : {s : List ℕ} → Balanced s → parens parse (brackets s) ≡ parse (trim six s)
  unfolding parens end_from
  parens_strip {s} d =
      left _ _ (ne_eqb (length (brackets s)) 1 (λ e. omega (arith, length-append s (41 ∷ []))))
      ∙ (taken _ _ (eq-eqb (end_from (inside (brackets s)) 1 2) (length (brackets s)) counted)
      ∙ ap (λ l. parse (trim six l)) (inside_whole s))
    where
      z : end_from s 1 2 ≡ 2 + length s
      z = rw append-nil at (fold_inside d [] 0 2)

      counted : end_from (inside (brackets s)) 1 2 ≡ length (brackets s)
      counted = rw (inside_whole s) (z ∙ omega (arith, length-append s (41 ∷ [])))

  -- a first operand in brackets keeps them: the operator after it does not count
  inside_open : (s : List ℕ) (b : ℕ) (r : List ℕ) → 0 < length r → inside (40 ∷ (s ++ 41 ∷ b ∷ r)) ≡ s ++ 41 ∷ b ∷ take (length r - 1) r
  inside_open s b r h =
      let n : length (40 ∷ (s ++ 41 ∷ b ∷ r)) - 1 - 1 ≡ length s + suc (suc (length r - 1)) = omega (arith, length-append s (41 ∷ b ∷ r)) in
      rw n (take-append-add s (41 ∷ b ∷ r) (suc (suc (length r - 1))))

  kept : {s : List ℕ} (b : ℕ) (r : List ℕ) → Balanced s → sign b ≡ true → 0 < length r
      → parens parse (40 ∷ (s ++ 41 ∷ b ∷ r)) ≡ level parse rows (trim six (40 ∷ (s ++ 41 ∷ b ∷ r)))
  unfolding parens
  kept {s} b r d h l =
      left _ _ (ne_eqb (length (40 ∷ (s ++ 41 ∷ b ∷ r))) 1 (λ e. omega (arith, length-append s (41 ∷ b ∷ r))))
      ∙ left _ _ (ne_eqb (end_from (inside (40 ∷ (s ++ 41 ∷ b ∷ r))) 1 2) (length (40 ∷ (s ++ 41 ∷ b ∷ r))) few)
    where
      rest : List ℕ
      rest = take (length r - 1) r

      fold : end_from (inside (40 ∷ (s ++ 41 ∷ b ∷ r))) 1 2 ≡ end_from (b ∷ rest) 0 (2 + length s + 1)
      fold = rw (inside_open s b r l) (fold_inside d (41 ∷ b ∷ rest) 0 2 ∙ fold_close (b ∷ rest) 0 (2 + length s))

      few : end_from (inside (40 ∷ (s ++ 41 ∷ b ∷ r))) 1 2 ≡ length (40 ∷ (s ++ 41 ∷ b ∷ r)) → ⊥
      few e =
          omega (
            arith,
            fold,
            fold_outside b rest (2 + length s + 1) (sign_no_open b h),
            length-append s (41 ∷ b ∷ r),
            length-take-le (length r - 1) r (omega arith),
          )

  parens_open : {x : List ℕ} (b : ℕ) (r : List ℕ) → Operand x → sign b ≡ true → 0 < length r
      → parens parse (x ++ b ∷ r) ≡ level parse rows (trim six (x ++ b ∷ r))
  unfolding parens
  parens_open b r letter h l = refl
  parens_open b r (number (decimals.one {b = c} {s} i j d)) h l = left _ _ (ne_eqb c 40 (λ e. omega arith))
  parens_open b r (whole {s} d) h l = rw append_assoc (kept b r d h l)

  -- with an operator of one byte or two
  opened : {x g : List ℕ} (r : List ℕ) → Operand x → Sign g → 0 < length r
      → parens parse (x ++ (g ++ r)) ≡ level parse rows (trim six (x ++ (g ++ r)))
  opened r o (one_byte {b} h) l = parens_open b r o h l
  opened r o (two_bytes {b} {c} h k) l = parens_open b (c ∷ r) o h (omega arith)

-- the table of levels: rows whose patterns are not found are passed
unfoldable all_rows : (List ℕ → Bool) → List Row → Bool
all_rows clear [] = true
all_rows clear (r ∷ rs) = clear r.pattern && all_rows clear rs

rows_past :
    (parse : List ℕ → Reading) (s : List ℕ) (clear : List ℕ → Bool) → ((p : List ℕ) → clear p ≡ true → found p s ≡ false) →
    (before rs : List Row) → all_rows clear before ≡ true → level parse (before ++ rs) s ≡ level parse rs s
unfolding all_rows level
rows_past parse s clear miss [] rs h = refl
rows_past parse s clear miss (r ∷ before) rs h =
    left _ _ (miss r.pattern (and_left (clear r.pattern) (all_rows clear before) h))
    ∙ rows_past parse s clear miss before rs (and_right (clear r.pattern) (all_rows clear before) h)

-- the row of an operator, and the rows above it, which the test lets pass
record Row-of (g : List ℕ) (k : Kind) (clear : List ℕ → Bool) : Type 0 where
  before : List Row
  after : List Row
  is : rows ≡ before ++ row g k ∷ after
  passed : all_rows clear before ≡ true

at : (n : ℕ) {g : List ℕ} {k : Kind} {clear : List ℕ → Bool} → rows ≡ take n rows ++ row g k ∷ drop (suc n) rows →
    all_rows clear (take n rows) ≡ true → Row-of g k clear
at n e h = record { before = take n rows; after = drop (suc n) rows; is = e; passed = h }

-- the pattern is of operators' bytes only, and no match of it ends in g
abbrev avoids : List ℕ → List ℕ → Bool
avoids g p = all sign p && passes p g 0

-- the row of each of document 01's operators: none above it has a match in the operator's own bytes
row_of : (op : Op) → Plain-op op → Row-of (sign_of op) (binary op) (avoids (sign_of op))
unfolding all_rows all passes
row_of and h = at 0 refl refl
row_of or h = at 1 refl refl
row_of (cmp ge) h = at 3 refl refl
row_of (cmp gt) h = at 4 refl refl
row_of (cmp le) h = at 5 refl refl
row_of (cmp lt) h = at 6 refl refl
row_of (cmp eq) h = at 7 refl refl
row_of (cmp ne) h = at 8 refl refl
row_of rem h = at 9 refl refl
row_of div h = absurd h
row_of (calc c) h = absurd h

row_of_ask : Row-of (63 ∷ []) ternary (λ p. avoids (63 ∷ []) p && avoids (58 ∷ []) p)
unfolding all_rows all passes
row_of_ask = at 2 refl refl

missing : {p s : List ℕ} → Missed p s → found p s ≡ false
missing {p} {s} w = le-ltb (index_of p s) (length s) (omega (arith, not_found w))

-- an operator's text: missed where it does not match
after_sign : {x : List ℕ} (p g : List ℕ) → Operand x → all sign g ≡ true → avoids g p ≡ true → Missed p (g ++ x)
after_sign p g o h e =
    sign_missed g h (and_right (all sign p) (passes p g 0) e) (operand_over (signs_clean p (and_left (all sign p) (passes p g 0) e)) o)

operand_missed : {x : List ℕ} (p : List ℕ) → Operand x → all sign p ≡ true → Missed p x
operand_missed p o h = over_missed (operand_over (signs_clean p h) o)

module _ (parse : List ℕ → Reading) where
  -- `parse_and`, .. `parse_mod`
  binary_level : (op : Op) → Plain-op op → {x y : List ℕ} → Operand x → Operand y → level parse rows (x ++ (sign_of op ++ y)) ≡ two op (parse x) (parse y)
  unfolding level
  binary_level op h {x} {y} o q =
      let w = row_of op h in
      rw w.is
      (rows_past parse s (avoids g) miss w.before (row g (binary op) ∷ w.after) w.passed
      ∙ (taken _ _ (lt-ltb (index_of g s) (length s) (omega (arith, place, sign_some (signs op), length-append x (g ++ y), length-append g y)))
      ∙ rw place (ap2 (two op) (ap parse (take-append_seam x (g ++ y))) (ap parse (drop-append-add x (g ++ y) (length g) ∙ drop-append_seam g y)))))
    where
      g : List ℕ
      g = sign_of op

      s : List ℕ
      s = x ++ (g ++ y)

      place : index_of g s ≡ length x
      place = found_at (signs op) (operand_missed g o (all_signs (signs op))) y

      miss : (p : List ℕ) → avoids g p ≡ true → found p s ≡ false
      miss p e = missing (both_missed (operand_missed p o (and_left (all sign p) (passes p g 0) e)) (after_sign p g q (all_signs (signs op)) e))

      ap2 : (F : Reading → Reading → Reading) {a b c d : Reading} → a ≡ b → c ≡ d → F a c ≡ F b d
      ap2 F e f = rw (e, f)

  -- `parse_ternary`
  ternary_level : {x y z : List ℕ} → Operand x → Operand y → Operand z
      → level parse rows (x ++ (63 ∷ (y ++ 58 ∷ z))) ≡ three (parse x) (parse y) (parse z)
  unfolding level choose all passes
  ternary_level {x} {y} {z} o q u =
      let w = row_of_ask in
      rw w.is
      (rows_past parse s (λ p. avoids (63 ∷ []) p && avoids (58 ∷ []) p) miss w.before (row (63 ∷ []) ternary ∷ w.after) w.passed
      ∙ (taken _ _ (lt-ltb (index_of (63 ∷ []) s) (length s) (omega (arith, ask_at, long)))
      ∙ rw (ask_at, colon_at)
      (taken _ _ (lt-ltb (length x + suc (length y)) (length s) (omega (arith, long)))
      ∙ (taken _ _ (lt-ltb (length x) (length x + suc (length y)) (omega arith))
      ∙ ap3 three (ap parse (take-append_seam x (63 ∷ (y ++ 58 ∷ z)))) (ap parse second) (ap parse third)))))
    where
      s : List ℕ
      s = x ++ (63 ∷ (y ++ 58 ∷ z))

      long : length s ≡ length x + suc (length y + suc (length z))
      long = omega (arith, length-append x (63 ∷ (y ++ 58 ∷ z)), length-append y (58 ∷ z))

      ask_at : index_of (63 ∷ []) s ≡ length x
      ask_at = found_at (one_byte refl) (operand_missed (63 ∷ []) o refl) (y ++ 58 ∷ z)

      colon_at : index_of colon s ≡ length x + suc (length y)
      colon_at =
          let m : index_of colon ((x ++ 63 ∷ y) ++ 58 ∷ z) ≡ length (x ++ 63 ∷ y) = found_at (one_byte refl)
          (both_missed (operand_missed (58 ∷ []) o refl) (after_sign (58 ∷ []) (63 ∷ []) q refl refl)) z in
          rw append_assoc at (m ∙ length-append x (63 ∷ y))

      miss : (p : List ℕ) → (avoids (63 ∷ []) p && avoids (58 ∷ []) p) ≡ true → found p s ≡ false
      miss p e =
          let a : avoids (63 ∷ []) p ≡ true = and_left (avoids (63 ∷ []) p) (avoids (58 ∷ []) p) e in
          let b : avoids (58 ∷ []) p ≡ true = and_right (avoids (63 ∷ []) p) (avoids (58 ∷ []) p) e in
          missing (both_missed (operand_missed p o (and_left (all sign p) (passes p (63 ∷ []) 0) a))
          (both_missed (after_sign p (63 ∷ []) q refl a) (after_sign p (58 ∷ []) u refl b)))

      second : take (length x + suc (length y) - (length x + 1)) (drop (length x + 1) s) ≡ y
      second =
          let n : length x + suc (length y) - (length x + 1) ≡ length y = omega arith in
          rw (n, drop-append-add x (63 ∷ (y ++ 58 ∷ z)) 1) (take-append_seam y (58 ∷ z))

      third : drop (length x + suc (length y) + 1) s ≡ z
      third =
          let n : length x + suc (length y) + 1 ≡ length x + suc (length y + 1) = omega arith in
          rw n (drop-append-add x (63 ∷ (y ++ 58 ∷ z)) (suc (length y + 1)) ∙ drop-append-add y (58 ∷ z) 1)

      ap3 : (F : Reading → Reading → Reading → Reading) {a b c d e f : Reading} → a ≡ b → c ≡ d → e ≡ f → F a c e ≡ F b d f
      ap3 F i j k = rw (i, j, k)

  -- `parse_not`
  not_level : {x : List ℕ} → Operand x → Visible x → level parse rows (33 ∷ x) ≡ one (parse x)
  unfolding level all_rows all passes read_not
  not_level {x} o v =
      rows_past parse (33 ∷ x) (avoids bang) miss rows [] refl
      ∙ (rw (trim_visible Six (byte {b = 33} refl v))
      (taken _ _ (lt-ltb (index_of bang (33 ∷ x)) (suc (length x)) (omega (arith, place)))
      ∙ taken _ _ (eq-eqb (index_of bang (33 ∷ x)) 0 place)))
    where
      place : index_of bang (33 ∷ x) ≡ 0
      place = found_at (one_byte refl) (none_missed bang) x

      miss : (p : List ℕ) → avoids bang p ≡ true → found p (33 ∷ x) ≡ false
      miss p e = missing (after_sign p bang o refl e)

  -- `parse_int`
  atom_level : {x : List ℕ} → Operand x → Visible x → level parse rows x ≡ read_int x
  unfolding level all_rows all read_not
  atom_level {x} o v =
      rows_past parse x (all sign) (λ p e. missing (operand_missed p o e)) rows [] refl
      ∙ (rw (trim_visible Six v) (left _ _ (missing (operand_missed bang o refl)) ∙ rw (trim_visible Six v)))

int_read : (v : ℕ) → v < 2 ^ 64 → read_int (decimal v) ≡ tree (int v)
int_read v h = rw (shipped_integer (decimal_writes v) h)

-- `parse`, with fuel
strip : {s : List ℕ} → Balanced s → Visible s → (f : ℕ) → parse_in (suc f) (brackets s) ≡ parse_in f s
unfolding parse_in
strip d v f = rw (trim_visible Six (in_brackets v)) (parens_strip (parse_in f) d ∙ rw (trim_visible Six v))

bare : {x g : List ℕ} (r : List ℕ) → Operand x → Sign g → 0 < length r → Visible (x ++ (g ++ r)) → (f : ℕ)
    → parse_in (suc f) (x ++ (g ++ r)) ≡ level (parse_in f) rows (x ++ (g ++ r))
unfolding parse_in
bare r o g l v f = rw (trim_visible Six v) (opened (parse_in f) r o g l ∙ rw (trim_visible Six v))

plain : {b : ℕ} {r : List ℕ} → eqb b 40 ≡ false → Visible (b ∷ r) → (f : ℕ) → parse_in (suc f) (b ∷ r) ≡ level (parse_in f) rows (b ∷ r)
unfolding parse_in parens
plain h v f = rw (trim_visible Six v) (left _ _ h ∙ rw (trim_visible Six v))

module _ {x : List ℕ} (a : Text x) (f : ℕ) where
  read_not_lem : parse_in (suc (suc f)) (brackets (33 ∷ x)) ≡ one (parse_in f x)
  read_not_lem =
      let v : Visible (33 ∷ x) = byte refl a.visible in
      strip (not_balanced a) v (suc f) ∙ (plain refl v f ∙ not_level (parse_in f) a.operand a.visible)

  module _ {y : List ℕ} (b : Text y) where
    read_binary : (op : Op) → Plain-op op → parse_in (suc (suc f)) (brackets (x ++ sign_of op ++ y)) ≡ two op (parse_in f x) (parse_in f y)
    read_binary op h =
        let v : Visible (x ++ (sign_of op ++ y)) = both_visible a.visible (both_visible (sign_seen (signs op)) b.visible) in
        strip (binary_balanced a b op) (rw append_assoc v) (suc f)
        ∙ rw append_assoc (bare y a.operand (signs op) (operand_some b.operand) v f ∙ binary_level (parse_in f) op h a.operand b.operand)

    read_ternary : {z : List ℕ} → Text z
        → parse_in (suc (suc f)) (brackets (x ++ 63 ∷ y ++ 58 ∷ z)) ≡ three (parse_in f x) (parse_in f y) (parse_in f z)
    read_ternary {z} c =
        let v : Visible (x ++ (63 ∷ (y ++ 58 ∷ z))) = both_visible a.visible (byte refl (both_visible b.visible (byte refl c.visible))) in
        strip (ternary_balanced a b c) (rw append_assoc v) (suc f)
        ∙ rw append_assoc
        (bare (y ++ 58 ∷ z) a.operand (one_byte {b = 63} refl) (omega (arith, length-append y (58 ∷ z))) v f
        ∙ ternary_level (parse_in f) a.operand b.operand c.operand)

-- n and integers, which have no brackets
read_atom : {b : ℕ} {r : List ℕ} → eqb b 40 ≡ false → Text (b ∷ r) → (f : ℕ) → parse_in (suc f) (b ∷ r) ≡ read_int (b ∷ r)
read_atom h a f = plain h a.visible f ∙ atom_level (parse_in f) a.operand a.visible

first_digit : {b : ℕ} {s : List ℕ} → Digits (b ∷ s) → eqb b 40 ≡ false
first_digit (decimals.one {b} i j d) = ne_eqb b 40 (λ e. omega arith)

read_n_lem : (f : ℕ) → parse_in (suc f) (110 ∷ []) ≡ tree var
unfolding bracketed integer digits_from
read_n_lem f = read_atom refl (text var) f ∙ ap read_n (trim_visible Six (text var).visible)

read_int_lem : (v : ℕ) → v < 2 ^ 64 → Text (decimal v) → (f : ℕ) → parse_in (suc f) (decimal v) ≡ tree (int v)
read_int_lem v h a f =
    let w = decimal_writes v in
    let d : parse_in (suc f) (decimal v) ≡ read_int (decimal v) = rw w.is (read_atom (first_digit w.digits) (rw w.is at a) f) in
    d ∙ int_read v h

-- any fuel above the text's length is enough
reads_back : (t : Tree) → Bounded t → Plain t → (f : ℕ) → length (bracketed t) < f → parse_in f (bracketed t) ≡ tree t
unfolding bracketed
reads_back t h p zero l = absurd (omega arith)
reads_back var h p (suc f) l = read_n_lem f
reads_back (int v) h p (suc f) l = read_int_lem v h (text (int v)) f
reads_back (nay t) h p (suc zero) l = absurd (omega arith)
reads_back (nay t) h p (suc (suc f)) l =
    read_not_lem (text t) f ∙ rw (reads_back t h p f (omega (arith, length_not t)))
reads_back (bin op s t) h p (suc zero) l = absurd (omega arith)
reads_back (bin op s t) h p (suc (suc f)) l =
    let m : length (bracketed s) + length (bracketed t) < f = omega (arith, length_binary op s t) in
    read_binary (text s) f (text t) op p.0 ∙ rw (reads_back s h.0 p.1 f (omega arith), reads_back t h.1 p.2 f (omega arith))
reads_back (cond s t u) h p (suc zero) l = absurd (omega arith)
reads_back (cond s t u) h p (suc (suc f)) l =
    let m : length (bracketed s) + length (bracketed t) + length (bracketed u) < f = omega (arith, length_ternary s t u) in
    read_ternary (text s) f (text t) (text u)
    ∙ rw (reads_back s h.0 p.0 f (omega arith), reads_back t h.1 p.1 f (omega arith), reads_back u h.2 p.2 f (omega arith))

pub shipped_bracketed : (t : Tree) → Bounded t → Plain t → shipped (bracketed t) ≡ tree t
unfolding shipped
shipped_bracketed t h p = reads_back t h p (suc (length (bracketed t))) (omega arith)
