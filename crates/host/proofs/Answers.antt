-- A lookup's answer says what its reason says: its number, and which text. Assumes nothing.
use Prim.Native.Nat.{ℕ}
use mathlib.Core.Path.{◌≡◌, refl}
use Rattle.lookup.specs.Lookup.{number}
use Rattle.lookup.specs.Text.{singular_text}
use Rattle.lookup.specs.declared.Reason.{Reason}
use Rattle.lookup.specs.declared.Reason.TheVariants.{StaleLength, NoTree, IndexRoom, ZeroModulus, NoEntry, TooFewSegments, Answered}
use Rattle.lookup.specs.declared.Text.{Text}
use Rattle.lookup.specs.declared.Text.TheVariants.{Segment, Id, PluralId}
use Rattle.host.specs.Host.{answer_of}

-- its number is the reason's
pub answer_number : (own : ℕ) (r : Reason) → (answer_of own r).number ≡ number r
answer_number own StaleLength = refl
answer_number own NoTree = refl
answer_number own IndexRoom = refl
answer_number own ZeroModulus = refl
answer_number own NoEntry = refl
answer_number own (TooFewSegments i) = refl
answer_number own (Answered i form start len) = refl

-- and which text it names is the reason's
abbrev pub which_of : Text → ℕ
which_of (Segment start len) = 0
which_of Id = 1
which_of PluralId = 2

pub answer_text : (r : Reason) → (answer_of 1 r).which ≡ which_of (singular_text r)
answer_text StaleLength = refl
answer_text NoTree = refl
answer_text IndexRoom = refl
answer_text ZeroModulus = refl
answer_text NoEntry = refl
answer_text (TooFewSegments i) = refl
answer_text (Answered i form start len) = refl
