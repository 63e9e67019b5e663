-- The steps of the code against the definition: the bytes as a loop meets them, what a reader's answer says of the reading, and which
-- case each test leaves. Assumes nothing.
use Prim.Native.Nat.{ℕ, ◌-◌, ◌≤◌}
use mathlib.Core.Path.{◌≡◌, refl, sym, ap, ◌∙◌}
use mathlib.Core.Bool.{Bool, true, false, ◌&&◌}
use mathlib.Core.List.{List, [], ◌∷◌}
use native.Mathlib.Omega.{arith}
use lib.ListN.{length}
use lib.Dec.{ltb}
use Rattle.std.specs.Prelude.{Some, None, Result, Ok}
use Rattle.std.specs.List.{list_all}
use Rattle.text.specs.Bytes.{all}
use Rattle.text_trim.specs.Trim.{trim, white_space}
use Rattle.rules.specs.Tree as tree
use Rattle.rules.specs.Tree.{Tree}
use Rattle.rules.specs.Pool.{Pool, tree_of}
use Rattle.rules.specs.Promise.{Plain}
use Rattle.rules.specs.Pack.{packed_size, packed}
use Rattle.rules.proofs.Packs.{no_more}
use Rattle.rules.proofs.Unfolded.{size_pos, stored_tree, stored_plain}
use Rattle.rules.specs.Store.{size, store, blank}
use Rattle.rules.specs.Reads.{Answered}
use Rattle.reading_rule.specs.declared.Reading.{Reading}
use Rattle.refusal.specs.Places.{at}
use Rattle.refusal.specs.declared.Where.{Where}
use Rattle.refusal.specs.declared.Error.TheVariants.{PluralParsing, RuleTooLong}
use Rattle.refusal.specs.declared.Refusal.{Refusal}
use Rattle.reading_rule.specs.Plurals.{Parse, rule, norule, read_as, made, is_ascii, tested, parsed, Parses}

-- the test of all bytes, as std has it
all_is : (s : List ℕ) → list_all is_ascii s ≡ all is_ascii s
unfolding all
all_is [] = refl
all_is (b ∷ s) = ap (λ (x : Bool). is_ascii b && x) (all_is s)

pub ascii_all : (s : List ℕ) {r : Bool} → r ≡ list_all is_ascii s → r ≡ all is_ascii s
ascii_all s e = e ∙ all_is s

pub parses : {p q : Parse} {Q : Pool} {r : Result ℕ Refusal} → p ≡ q → Parses q Q r → Parses p Q r
parses e h = rw e h

-- no reading was found
pub none_made : (place : Where) (o : tree.Reading) {s : List ℕ} {P Q : Pool} → Answered o s P Q None → made place o ≡ norule (at place PluralParsing)
unfolding made
none_made place (tree.tree t) a =
    let e : None ≡ Some (size t) = a.read.answer in
    let z : ◌≡◌ {A = ℕ} 0 1 = cc in
    absurd (omega arith)
none_made place tree.none a = refl

-- a tree was found in m bytes: k is its size, and Q the arrays
pub record Found (o : tree.Reading) (m k : ℕ) (P Q : Pool) : Type 0 where
  pub is_tree : Tree
  pub is : o ≡ tree.tree is_tree
  pub count : k ≡ size is_tree
  pub stored : Q ≡ store is_tree 0 P
  pub few : size is_tree ≤ m

pub found : (o : tree.Reading) {s : List ℕ} {P Q : Pool} {k : ℕ} → Answered o s P Q (Some k) → Found o (length s) k P Q
found (tree.tree t) {k = k} a =
    let e : Some k ≡ Some (size t) = a.read.answer in
    record { is_tree = t; is = refl; count = cc; stored = a.read.stored; few = a.read.fits }
found tree.none {k = k} a =
    let e : Some k ≡ None = a.read in
    let z : ◌≡◌ {A = ℕ} 0 1 = cc in
    absurd (omega arith)

-- it can be packed, and what is packed is the tree that was found
module _ {o : tree.Reading} {m k : ℕ} {P Q : Pool} (f : Found o m k P Q) (b : P ≡ blank) (h : m ≤ 512) where
  few : size f.is_tree ≤ 512
  few = omega (arith, f.few)

  alone : Q ≡ store f.is_tree 0 blank
  alone = f.stored ∙ ap (store f.is_tree 0) b

  pub some_nodes : 1 ≤ k
  some_nodes = omega (arith, f.count, size_pos f.is_tree)

  pub can_pack : Plain Q (k - 1)
  can_pack = rw (alone, f.count) (stored_plain f.is_tree few)

  tree_in_lem : tree_of Q (k - 1) ≡ f.is_tree
  tree_in_lem = rw (alone, f.count) (stored_tree f.is_tree few)

  pub has_room : packed_size (tree_of Q (k - 1)) ≤ 512
  has_room = rw tree_in_lem (omega (arith, no_more f.is_tree, few))

  pub held : (place : Where) {R : Pool} {n : ℕ} → R ≡ packed (tree_of Q (k - 1)) → n ≡ packed_size (tree_of Q (k - 1))
      → Parses (made place o) R (Ok n)
  unfolding made
  held place e d =
      let i : made place o ≡ rule f.is_tree = rw f.is in
      parses i (record { outcome = ap Ok (d ∙ ap packed_size tree_in_lem); stored = e ∙ ap packed tree_in_lem })

-- the tests, of the trimmed text t: a says whether all its bytes are below 128
module _ (place : Where) (reading : Reading) (s : List ℕ) {t : List ℕ} (e : t ≡ trim white_space s) where
  of_trimmed : parsed place reading s ≡ tested place reading t
  unfolding parsed
  of_trimmed = ap (tested place reading) (sym e)

  pub long_refused : ltb 512 (length t) ≡ true → parsed place reading s ≡ norule (at place RuleTooLong)
  unfolding tested
  long_refused h = of_trimmed ∙ rw (tested, h)

  pub foreign_refused : ltb 512 (length t) ≡ false → {a : Bool} → a ≡ all is_ascii t → a ≡ false → parsed place reading s ≡ norule (at place PluralParsing)
  unfolding tested
  foreign_refused h {a} i f = of_trimmed ∙ rw (tested, h, sym i ∙ f)

  pub passed : ltb 512 (length t) ≡ false → {a : Bool} → a ≡ all is_ascii t → a ≡ true → parsed place reading s ≡ made place (read_as reading t)
  unfolding tested
  passed h {a} i f = of_trimmed ∙ rw (tested, h, sym i ∙ f)
