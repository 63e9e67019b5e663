-- Texts trimmed of each set, computed from the definition. Assumes nothing.
use Prim.Native.Nat.{ℕ}
use mathlib.Core.Path.{◌≡◌, refl}
use mathlib.Core.List.{List, [], ◌∷◌, ◌++◌, map}
use Rattle.text.specs.Bytes.{bytes, begins}
use Rattle.text_utf8.specs.Scalar.{encode}
use Rattle.text_trim.specs.Trim.{Chars, chars_of, white_space, trim, trim_start, trim_end, lead, edge_after}
use Rattle.text_trim.specs.declared.Set.TheVariants.{WhiteSpace, Six, Label}

pub record Row : Type 0 where
  pub text : List ℕ
  pub of_white_space : List ℕ
  pub of_six : List ℕ
  pub of_label : List ℕ

abbrev row : List ℕ → List ℕ → List ℕ → List ℕ → Row
row s w x y = record { text = s; of_white_space = w; of_six = x; of_label = y }

-- in no set
abbrev kept : List ℕ → Row
kept s = row s s s s

abbrev pub rows : List Row
rows =
    kept []
    ∷ kept (bytes "n")
    ∷ row (bytes " n != 1 ") (bytes "n != 1") (bytes "n != 1") (bytes "n != 1")
    -- byte 11 is not in the label's set
    ∷ row (32 ∷ 9 ∷ 10 ∷ 11 ∷ 12 ∷ 13 ∷ 32 ∷ []) [] [] (11 ∷ [])
    ∷ row (11 ∷ 120 ∷ 11 ∷ []) (120 ∷ []) (120 ∷ []) (11 ∷ 120 ∷ 11 ∷ [])
    ∷ row (13 ∷ 10 ∷ 9 ∷ 120 ∷ 12 ∷ 10 ∷ []) (120 ∷ []) (120 ∷ []) (120 ∷ [])
    -- 8 and 14 are in none, nor is A0 by itself, a blank in other tables of letters
    ∷ kept (8 ∷ 32 ∷ 120 ∷ 32 ∷ 14 ∷ [])
    ∷ kept (0xA0 ∷ 32 ∷ 120 ∷ 32 ∷ 0xA0 ∷ [])
    ∷ kept (0x85 ∷ 120 ∷ 0x85 ∷ [])
    -- A0 as a character is, also between others
    ∷ row (32 ∷ 0xC2 ∷ 0xA0 ∷ 9 ∷ 120 ∷ 0xE3 ∷ 0x80 ∷ 0x80 ∷ 32 ∷ 0xC2 ∷ 0x85 ∷ []) (120 ∷ [])
    (0xC2 ∷ 0xA0 ∷ 9 ∷ 120 ∷ 0xE3 ∷ 0x80 ∷ 0x80 ∷ 32 ∷ 0xC2 ∷ 0x85 ∷ []) (0xC2 ∷ 0xA0 ∷ 9 ∷ 120 ∷ 0xE3 ∷ 0x80 ∷ 0x80 ∷ 32 ∷ 0xC2 ∷ 0x85 ∷ [])
    -- torn: the first byte, the last, the first two and the last two of an encoding; and a whole one after a torn one
    ∷ kept (0xC2 ∷ [])
    ∷ kept (0xC2 ∷ 120 ∷ 0xC2 ∷ [])
    ∷ kept (0xE2 ∷ 0x80 ∷ 120 ∷ 0xE2 ∷ 0x80 ∷ [])
    ∷ kept (0x80 ∷ 0x80 ∷ 120 ∷ 0x80 ∷ 0x80 ∷ [])
    ∷ row (0xC2 ∷ 0xA0 ∷ 0xA0 ∷ 120 ∷ 0xE3 ∷ 0x80 ∷ 0xC2 ∷ 0xA0 ∷ []) (0xA0 ∷ 120 ∷ 0xE3 ∷ 0x80 ∷ [])
    (0xC2 ∷ 0xA0 ∷ 0xA0 ∷ 120 ∷ 0xE3 ∷ 0x80 ∷ 0xC2 ∷ 0xA0 ∷ []) (0xC2 ∷ 0xA0 ∷ 0xA0 ∷ 120 ∷ 0xE3 ∷ 0x80 ∷ 0xC2 ∷ 0xA0 ∷ [])
    ∷ []

abbrev pub said : Row → List (List ℕ)
said r = r.of_white_space ∷ r.of_six ∷ r.of_label ∷ []

abbrev pub computed : Row → List (List ℕ)
computed r = trim (chars_of WhiteSpace) r.text ∷ trim (chars_of Six) r.text ∷ trim (chars_of Label) r.text ∷ []

pub rows_hold : map computed rows ≡ map said rows
unfolding trim trim_start trim_end edge_after lead begins encode
rows_hold = refl

-- each of the 25 before a text and after it, twice: the text is left
abbrev between : List ℕ → List ℕ
between e = e ++ (e ++ (bytes "n%2" ++ (e ++ e)))

pub each_trimmed : map (λ e. trim white_space (between e)) white_space ≡ map (λ e. bytes "n%2") white_space
unfolding trim trim_start trim_end edge_after lead begins encode
each_trimmed = refl

-- characters that look white and are not of White_Space, the neighbours of the 25, and one of four bytes
abbrev pub alike : Chars
alike =
    map encode
    (0x1C ∷ 0x1D ∷ 0x1E ∷ 0x1F ∷ 0x180E ∷ 0x200B ∷ 0x2060 ∷ 0xFEFF
    ∷ 8 ∷ 14 ∷ 0x21 ∷ 0x84 ∷ 0x86 ∷ 0x9F ∷ 0xA1 ∷ 0x167F ∷ 0x1681 ∷ 0x1FFF ∷ 0x2027 ∷ 0x202A ∷ 0x202E ∷ 0x2030 ∷ 0x205E ∷ 0x2FFF ∷ 0x3001
    ∷ 0x13000 ∷ [])

pub alike_kept : map (λ e. trim white_space (between e)) alike ≡ map between alike
unfolding trim trim_start trim_end edge_after lead begins encode
alike_kept = refl
