-- Where a load failed. SPEC 2.1: each stage that refuses names the entry's index, counted from 0, and the side; those of the file name
-- neither, a forced rule names its side only.
use Rattle.std.specs.Prelude.{ℕ, Bool, true, false}
use Rattle.std.proofs.Math.Option.{Option, none, some}
use Rattle.refusal.specs.declared.Error.{Error}
use Rattle.refusal.specs.declared.Side.{Side}
use Rattle.refusal.specs.declared.Side.TheVariants.{Original, Translation, Header, Rule}
use Rattle.refusal.specs.declared.Where.{Where}
use Rattle.refusal.specs.declared.Where.TheVariants.{File, Forced, Entry}
use Rattle.refusal.specs.declared.Refusal.{Refusal}
use Rattle.std.specs.Prelude.{Result, Ok, Err}

-- what each place names
pub record Names : Type 0 where
  pub index : Option ℕ
  pub side : Option Side

abbrev pub names : Where → Names
names File = record { index = none; side = none }
names Forced = record { index = none; side = some Rule }
names (Entry i side) = record { index = some i; side = some side }

abbrev pub index_of : Where → Option ℕ
index_of w = (names w).index

abbrev pub side_of : Where → Option Side
side_of w = (names w).side

abbrev pub at : Where → Error → Refusal
at w e = record { error = e; place = w }

-- the header is entry 0's translation, and the rule is in it
abbrev pub in_header : Where
in_header = Entry 0 Header

abbrev pub in_rule : Where
in_rule = Entry 0 Rule

-- a load that is not refused names nothing
abbrev pub outcome_place : Result Unit Refusal → Where
outcome_place (Ok tt) = File
outcome_place (Err r) = r.place

-- as numbers: 0 is no side; that an entry is named is said beside its index, as 0 is an index
abbrev pub side_number : Option Side → ℕ
side_number none = 0
side_number (some Original) = 1
side_number (some Translation) = 2
side_number (some Header) = 3
side_number (some Rule) = 4

abbrev pub named : Option ℕ → Bool
named none = false
named (some i) = true

abbrev pub index_or0 : Option ℕ → ℕ
index_or0 none = 0
index_or0 (some i) = i
