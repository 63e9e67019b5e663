-- The head of a file. GNU gettext manual, 10.3, "The Format of GNU MO Files"; SPEC 3.2 and 3.3.
use Rattle.std.specs.Prelude.{ℕ, Bool, true, false, ◌&&◌, List, length, leb, ltb, eqb, Option, Some, None, Result, Ok, Err}
use Rattle.refusal.specs.declared.Error.{Error}
use Rattle.refusal.specs.declared.Error.TheVariants.{Eof, BadMagic}
use Rattle.container_layout.specs.Mo.{word}
use Rattle.container_layout.specs.declared.Tables.{Tables}

-- 2. the magic number, which the file begins with in its own byte order
abbrev pub magic : ℕ
magic = 0x950412de

-- whether it is big endian
unfoldable pub order_of : List ℕ → Option Bool
unfolding word
order_of s =
    elim (eqb (word false s 0) magic) [
      | true ↦ Some false
      | false ↦ elim (eqb (word true s 0) magic) [ true ↦ Some true | false ↦ None ]
    ]

-- 3. the count and the tables
abbrev pub tables : List ℕ → Bool → Tables
tables s b = record { length = length s; big = b; count = word b s 8; originals = word b s 12; translations = word b s 16 }

abbrev pub tables_of : List ℕ → Option Bool → Result Tables Error
tables_of s (Some b) =
    elim (leb (word b s 12) (length s) && leb (word b s 16) (length s)) [ true ↦ Ok (tables s b) | false ↦ Err Eof ]
tables_of s None = Err BadMagic

unfoldable pub head_of : List ℕ → Result Tables Error
unfolding order_of
head_of s = elim (ltb (length s) 28) [ true ↦ Err Eof | false ↦ tables_of s (order_of s) ]
