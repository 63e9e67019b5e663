-- The steps of the reading, one law for each way through a function of the code. They hold by the definitions, opened once, and by the
-- equation of the reading (Fuel). Assumes nothing.
use Prim.Native.Nat.{ℕ, ◌+◌, ◌-◌, ◌<◌, ◌≤◌}
use mathlib.Core.Path.{◌≡◌, refl, sym, ap, ◌∙◌}
use mathlib.Core.List.{List, [], ◌∷◌}
use native.Mathlib.Omega.{arith}
use lib.ListN.{length, get_or, take, drop, length-take, length-drop}
use borrow.Author.Rules.{rules}
use borrow.Author.Tests.{eq-eqb, ne_eqb, lt-ltb, le-ltb}
use Rattle.std.specs.Prelude.{Option, Some, None, IsSome}
use Rattle.rules.specs.Tree.{var, Op, Reading, tree, none}
use Rattle.rules.specs.Pool.{Pool, ternary_node}
use Rattle.rules.specs.Store.{node_code}
use Rattle.rules.proofs.Operators.{code_in}
use Rattle.text_trim.specs.Trim.{trim, six}
use Rattle.text_digits.specs.Digits.{integer}
use Rattle.reading_scan.specs.Scan.{index_of, found_at, end_from}
use Rattle.reading_scan.proofs.Scanned.{found_is, not_found}
use Rattle.reading_levels.specs.Levels.{Kind, binary, ternary, Row, rows, code_of}
use Rattle.reading_shipped.specs.Shipped.{two, three, one, read_n, or_n, read_int, read_not, choose, cut, cut_at, level, inside, parens, shipped, bang, colon}
use Rattle.reading_shipped.specs.Private.{Gives}
use Rattle.reading_shipped.proofs.Written.{wider}
use Rattle.text.proofs.Walk.{part_from}
use Rattle.text_trim.proofs.Trimming.{trim_le}

-- a trimmed text, as the code has it, is no longer; its reading is that of the text where a definition says so
pub trimmed_le : (s t : List ℕ) → t ≡ trim six s → length t ≤ length s
trimmed_le s t e = omega (arith, ap length e, trim_le six s)

pub through :
    (F : List ℕ → Reading) (s t : List ℕ) {o : Reading} {k : ℕ} {P Q : Pool} {r : Option ℕ} →
    t ≡ trim six s → o ≡ F (trim six s) → Gives (F t) (length t) k P Q r → Gives o (length s) k P Q r
through F s t e d w = wider (d ∙ ap F (sym e)) (trimmed_le s t e) w

-- `parse_n`
module _ (s : List ℕ) where
  pub n_long : (length s ≡ 1 → ⊥) → read_n s ≡ none
  n_long h = rw (ne_eqb (length s) 1 h, read_n)

  pub n_other : length s ≡ 1 → (get_or s 0 0 ≡ 110 → ⊥) → read_n s ≡ none
  n_other e h = rw (eq-eqb (length s) 1 e, ne_eqb (get_or s 0 0) 110 h, read_n)

  pub n_is : length s ≡ 1 → get_or s 0 0 ≡ 110 → read_n s ≡ tree var
  n_is e h = rw (eq-eqb (length s) 1 e, eq-eqb (get_or s 0 0) 110 h, read_n)

  -- `parse_int`
  pub int_is : (x : Option ℕ) → x ≡ integer s → read_int s ≡ or_n x s
  int_is x e = rw e

-- `parse_not`: there is a ! in front, or there is none
module _ (s : List ℕ) where
  pub not_is : {i : ℕ} → Some i ≡ found_at bang s → i ≡ 0 → read_not shipped s ≡ one (shipped (drop 1 s))
  unfolding read_not
  not_is e d =
      let f = found_is bang s e in
      let k : index_of bang s < length s = omega (arith, f.0, f.1) in
      rw (lt-ltb (index_of bang s) (length s) k, eq-eqb (index_of bang s) 0 (sym f.0 ∙ d), read_not)

  pub not_int : (x : Option ℕ) → x ≡ found_at bang s → (x ≡ Some 0 → ⊥) → read_not shipped s ≡ read_int (trim six s)
  unfolding read_not
  not_int None e h = rw (le-ltb (index_of bang s) (length s) (not_found bang s e), read_not)
  not_int (Some i) e h =
      let f = found_is bang s e in
      let k : index_of bang s < length s = omega (arith, f.0, f.1) in
      let n : index_of bang s ≡ 0 → ⊥ = λ z. h (ap Some (f.0 ∙ z)) in
      rw (lt-ltb (index_of bang s) (length s) k, ne_eqb (index_of bang s) 0 n, read_not)

-- `parse_ternary`
module _ (s : List ℕ) (i l : ℕ) (e : l ≡ index_of colon s) where
  pub no_colon : length s ≤ l → choose shipped i (index_of colon s) s ≡ none
  unfolding choose
  no_colon h = ap (λ x. choose shipped i x s) (sym e) ∙ rw (le-ltb l (length s) h, choose)

  pub colon_ahead : l < length s → l ≤ i → choose shipped i (index_of colon s) s ≡ none
  unfolding choose
  colon_ahead h k = ap (λ x. choose shipped i x s) (sym e) ∙ rw (lt-ltb l (length s) h, le-ltb i l k, choose)

  pub choose_is :
      l < length s → i < l →
      choose shipped i (index_of colon s) s ≡
      three (shipped (take i s)) (shipped (take (l - (i + 1)) (drop (i + 1) s))) (shipped (drop (l + 1) s))
  unfolding choose
  choose_is h k = ap (λ x. choose shipped i x s) (sym e) ∙ rw (lt-ltb l (length s) h, lt-ltb i l k, choose)

-- `parse_parens`
pub first_some : (s : List ℕ) (first : ℕ) → first ≡ get_or s 0 0 → first ≡ 40 → 0 < length s
first_some [] first e d = absurd (omega arith)
first_some (ch ∷ s) first e d = omega arith

module _ (s : List ℕ) (first : ℕ) (e : first ≡ get_or s 0 0) where
  pub parens_plain : (first ≡ 40 → ⊥) → parens shipped s ≡ level shipped rows (trim six s)
  unfolding parens
  parens_plain h = rw (ne_eqb (get_or s 0 0) 40 (λ d. h (e ∙ d)), parens)

  module _ (d : first ≡ 40) where
    pub parens_lone : length s ≡ 1 → parens shipped s ≡ none
    unfolding parens
    parens_lone h = rw (eq-eqb (get_or s 0 0) 40 (sym e ∙ d), eq-eqb (length s) 1 h, parens)

    module _ (h : length s ≡ 1 → ⊥) (end : ℕ) (g : end ≡ end_from (inside s) 1 2) where
      pub parens_more : (end ≡ length s → ⊥) → parens shipped s ≡ level shipped rows (trim six s)
      unfolding parens
      parens_more k =
          rw (
            eq-eqb (get_or s 0 0) 40 (sym e ∙ d),
            ne_eqb (length s) 1 h,
            ne_eqb (end_from (inside s) 1 2) (length s) (λ j. k (g ∙ j)),
            parens,
          )

      pub parens_whole : end ≡ length s → parens shipped s ≡ shipped (trim six (inside s))
      unfolding parens
      parens_whole k =
          rw (
            eq-eqb (get_or s 0 0) 40 (sym e ∙ d),
            ne_eqb (length s) 1 h,
            eq-eqb (end_from (inside s) 1 2) (length s) (sym g ∙ k),
            parens,
          )

-- the parts that the code reads: the first i bytes, those from a on, and those between
module _ (s : List ℕ) {k : ℕ} {P Q : Pool} {r : Option ℕ} where
  pub head_gives : (i : ℕ) → Gives (shipped (take i s)) (length (take i s)) k P Q r → Gives (shipped (take i s)) i k P Q r
  head_gives i w = wider refl (simp length-take (omega arith)) w

  pub tail_gives :
      (a : ℕ) → Gives (shipped (take (length s - a) (drop a s))) (length (take (length s - a) (drop a s))) k P Q r →
      Gives (shipped (drop a s)) (length s - a) k P Q r
  tail_gives a w = wider (ap shipped (sym (part_from s a))) (simp (length-take, length-drop) (omega arith)) w

  pub middle_gives :
      (a e : ℕ) → Gives (shipped (take (e - a) (drop a s))) (length (take (e - a) (drop a s))) k P Q r →
      Gives (shipped (take (e - a) (drop a s))) (e - a) k P Q r
  middle_gives a e w = wider refl (simp length-take (omega arith)) w

-- a row: the place that was found
pub placed : (pat s : List ℕ) {x : Option ℕ} {i : ℕ} → x ≡ Some i → x ≡ found_at pat s → i ≡ index_of pat s
placed pat s e f = (found_is pat s (sym e ∙ f)).0

pub in_text : (pat s : List ℕ) {x : Option ℕ} → x ≡ found_at pat s → index_of pat s < length s → IsSome x
in_text pat s {x} e h = let f : x ≡ Some (index_of pat s) = e ∙ rw (lt-ltb (index_of pat s) (length s) h, found_at) in rw f (search rules)

-- what its code says of its kind
no_such_code : (op : Op) → node_code op ≡ ternary_node → ⊥
no_such_code op e = omega (arith, code_in op)

module _ (x : Row) (s : List ℕ) (i code : ℕ) (place : i ≡ index_of x.pattern s) (coded : code ≡ code_of x.kind) where
  pub cut_ternary : code ≡ ternary_node → cut_at shipped x s ≡ choose shipped i (index_of colon s) s
  cut_ternary h = rw (← place) (go x.kind coded)
    where
      go : (d : Kind) → code ≡ code_of d → cut shipped d i (length x.pattern) s ≡ choose shipped i (index_of colon s) s
      go (binary op) e = absurd (no_such_code op (sym e ∙ h))
      go ternary e = refl

  -- a binary operator, and its code
  pub record Binary : Type 0 where
    pub op : Op
    pub is : (w : ℕ) → w ≡ length x.pattern → cut_at shipped x s ≡ two op (shipped (take i s)) (shipped (drop (i + w) s))
    pub code_is : code ≡ node_code op

  pub cut_binary : (code ≡ ternary_node → ⊥) → Binary
  cut_binary h = go x.kind refl coded
    where
      go : (d : Kind) → x.kind ≡ d → code ≡ code_of d → Binary
      go (binary o) q e = record { op = o; is = λ w v. rw (← place, q, v); code_is = e }
      go ternary q e = absurd (h e)
