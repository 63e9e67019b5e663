-- The starred cases of document 01, "Files and rules to try", as data: each with what the document says of it. The two rows of G, on which a
-- lookup that always returns form 0 fails, are added.
use Rattle.std.specs.Prelude.{ℕ, List, [], ◌∷◌, ◌++◌, take, set}
use Rattle.text.specs.Bytes.{bytes}
use Rattle.refusal.specs.Numbers.{number_of}
use Rattle.refusal.specs.declared.Error.TheVariants.{Eof, PluralParsing}
use Rattle.rules.specs.Tree.{Tree, var, int}
use Rattle.reading_rule.specs.declared.Reading.{Reading}
use Rattle.reading_rule.specs.declared.Reading.TheVariants.{Shipped, Standard}

-- the file F of 48 bytes, and G
abbrev pub file_f : List ℕ
file_f =
    0xde ∷ 0x12 ∷ 0x04 ∷ 0x95 ∷ 0 ∷ 0 ∷ 0 ∷ 0 ∷ 1 ∷ 0 ∷ 0 ∷ 0 ∷ 0x1c ∷ 0 ∷ 0 ∷ 0 ∷ 0x24 ∷ 0 ∷ 0 ∷ 0 ∷ 0 ∷ 0 ∷ 0 ∷ 0 ∷ 0x2c ∷ 0 ∷ 0 ∷ 0
    ∷ 1 ∷ 0 ∷ 0 ∷ 0 ∷ 0x2c ∷ 0 ∷ 0 ∷ 0 ∷ 1 ∷ 0 ∷ 0 ∷ 0 ∷ 0x2e ∷ 0 ∷ 0 ∷ 0 ∷ 0x61 ∷ 0 ∷ 0x62 ∷ 0 ∷ []

abbrev pub file_g : List ℕ
file_g = set file_f 36 3 ++ 0x63 ∷ 0 ∷ []

pub data Case : Type 0 where
  -- a file is loaded; a key is looked up in it, without a count and with one
  loading : List ℕ → Case
  looking : List ℕ → List ℕ → Case
  counting : List ℕ → List ℕ → ℕ → Case
  -- the tree of a rule; its value at a count; its range; whether it fits a number
  reading : Reading → List ℕ → Case
  valuing : Reading → List ℕ → ℕ → Case
  ranging : List ℕ → Case
  fitting : List ℕ → ℕ → Case

pub data Said : Type 0 where
  number : ℕ → Said
  -- so many bytes of the file from a place on; the caller's own id or plural id, with the number
  part : ℕ → ℕ → Said
  own : ℕ → Said
  own_plural : ℕ → Said
  tree : Tree → Said
  form : ℕ → Said
  range : ℕ → ℕ → Said
  unrated : Said
  yes : Said
  no : Said

abbrev pub starred : List (Case × Said)
starred =
    (looking file_f (bytes "a"), part 46 1)
    ∷ (looking file_f (bytes "c"), own 0)
    ∷ (loading (take 47 file_f), number (number_of Eof))
    ∷ (loading (take 27 file_f), number (number_of Eof))
    ∷ (counting file_g (bytes "a") 1, part 46 1)
    ∷ (counting file_g (bytes "a") 2, part 48 1)
    ∷ (valuing Shipped (bytes "n%10%3") 5, form 0)
    ∷ (valuing Standard (bytes "n%10%3") 5, form 2)
    ∷ (valuing Shipped (bytes "n>1 == 0") 2, form 1)
    ∷ (valuing Standard (bytes "n>1 == 0") 2, form 0)
    ∷ (valuing Shipped (bytes "n==1 && 1 ? 2 : 3") 5, form 0)
    ∷ (valuing Standard (bytes "n==1 && 1 ? 2 : 3") 5, form 3)
    ∷ (reading Shipped (bytes "(n1"), tree var)
    ∷ (reading Standard (bytes "(n1"), number (number_of PluralParsing))
    ∷ (reading Shipped (bytes "+7"), tree (int 7))
    ∷ (reading Standard (bytes "+7"), number (number_of PluralParsing))
    ∷ (reading Shipped (bytes "0 ? n?1:2 : 3"), number (number_of PluralParsing))
    ∷ (valuing Standard (bytes "0 ? n?1:2 : 3") 5, form 3)
    ∷ (fitting (bytes "n%10") 10, yes)
    ∷ (fitting (bytes "n%10") 9, no)
    ∷ (ranging (bytes "5%n"), unrated)
    ∷ (ranging (bytes "n%(n?3:4)"), range 0 3)
    ∷ []
