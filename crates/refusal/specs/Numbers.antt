-- The numbers of SPEC 2. 0 is none of them; 9 is not given (SPEC 2).
use Rattle.std.specs.Prelude.{ℕ}
use Rattle.refusal.specs.declared.Error.{Error}
use Rattle.refusal.specs.declared.Refusal.{Refusal}
use Rattle.refusal.specs.declared.Error.TheVariants.{Eof, BadMagic, DecodingError, MalformedMetadata, MisplacedMetadata, PluralParsing, UnknownEncoding, RuleTooLong, ZeroModulus, BadRecord, IndexRoom, NotFit, BadSpan}
use Rattle.std.specs.Prelude.{Result, Ok, Err}

abbrev pub number_of : Error → ℕ
number_of Eof = 1
number_of BadMagic = 2
number_of DecodingError = 3
number_of MalformedMetadata = 4
number_of MisplacedMetadata = 5
number_of PluralParsing = 6
number_of UnknownEncoding = 7
number_of RuleTooLong = 8
number_of ZeroModulus = 10
number_of BadRecord = 11
number_of IndexRoom = 12
number_of NotFit = 13
number_of BadSpan = 17

abbrev pub outcome_number : Result Unit Refusal → ℕ
outcome_number (Ok tt) = 0
outcome_number (Err r) = number_of r.error
