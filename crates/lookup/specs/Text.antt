-- The text that answers, and where it lies. SPEC 9: that part of the file, or the caller's own text.
use Rattle.std.specs.Prelude.{ℕ, ◌+◌, ◌≡◌, Bool, true, false, List, length, take, drop, leb, eqb}
use Rattle.std.specs.Borrow.{Bor}
use Rattle.lookup.specs.declared.Reason.{Reason}
use Rattle.lookup.specs.declared.Reason.TheVariants.{StaleLength, NoTree, IndexRoom, ZeroModulus, NoEntry, TooFewSegments, Answered}
use Rattle.lookup.specs.declared.Text.{Text}
use Rattle.lookup.specs.declared.Text.TheVariants.{Segment, Id, PluralId}

-- where a lookup answers, the segment, and else the caller's own text
abbrev pub text_or : Text → Reason → Text
text_or own (Answered i form start len) = Segment start len
text_or own StaleLength = own
text_or own NoTree = own
text_or own IndexRoom = own
text_or own ZeroModulus = own
text_or own NoEntry = own
text_or own (TooFewSegments i) = own

-- which is the id
abbrev pub singular_text : Reason → Text
singular_text r = text_or Id r

-- and with a count the id for 1, the plural id otherwise
unfoldable pub plural_text : ℕ → Reason → Text
plural_text n r = elim (eqb n 1) [ true ↦ text_or Id r | false ↦ text_or PluralId r ]

-- the part of a text from start on, len bytes long: those bytes, in the same block of memory, start bytes further on
pub record IsPart (s : Bor (List ℕ)) (start len : ℕ) (r : Bor (List ℕ)) : Type 0 where
  pub bytes : r.now ≡ take len (drop start s.now)
  pub block : r.ref_ptr.0 ≡ s.ref_ptr.0
  pub place : r.ref_ptr.1 ≡ s.ref_ptr.1 + start

-- that part, if it lies in the text, else the caller's own; a lookup names no other (`last_found`, `segment_told`)
abbrev pub part_or : Bool → Bor (List ℕ) → ℕ → ℕ → Bor (List ℕ) → Bor (List ℕ) → Type 0
part_or true file start len id r = IsPart file start len r
part_or false file start len id r = r ≡ id

abbrev pub Says : Bor (List ℕ) → Bor (List ℕ) → Bor (List ℕ) → Text → Bor (List ℕ) → Type 0
Says file id pluralId (Segment start len) r = part_or (leb (start + len) (length file.now)) file start len id r
Says file id pluralId Id r = r ≡ id
Says file id pluralId PluralId r = r ≡ pluralId

pub record IsText (file id pluralId : Bor (List ℕ)) (text : Text) (r : Bor (List ℕ)) : Type 0 where
  pub says : Says file id pluralId text r
