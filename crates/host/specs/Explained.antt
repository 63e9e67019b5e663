-- Why a lookup with a count answers as it does, as numbers; and the lookup's answer, which is a function of them. SPEC 9.7.
use Rattle.std.specs.Prelude.{ℕ, true, false, ltb, eqb}
use Rattle.refusal.specs.Numbers.{number_of}
use Rattle.refusal.specs.declared.Error.TheVariants as error
use Rattle.lookup.specs.Lookup.{number}
use Rattle.lookup_why.specs.Why.{reason_of}
use Rattle.lookup_why.specs.declared.Why.{Why}
use Rattle.lookup_why.specs.declared.Why.TheVariants.{StaleLength, NoTree, ZeroDivisor, NoEntry, TooFewSegments, Answered}
use Rattle.host.specs.declared.Answer.{Answer}
use Rattle.host.specs.declared.Explained.{Explained}
use Rattle.host.specs.Host.{fallback}

-- a reason that leaves the caller's own text
abbrev pub left_own : ℕ → ℕ → ℕ → ℕ → ℕ → ℕ → ℕ → Explained
left_own kind number own node entry stored form =
    record { kind = kind; number = number; which = own; node = node; entry = entry; stored = stored; form = form; start = 0; len = 0 }

abbrev pub explained_of : ℕ → Why → Explained
explained_of own StaleLength = left_own 1 (number (reason_of StaleLength)) own 0 0 0 0
explained_of own NoTree = left_own 2 (number (reason_of NoTree)) own 0 0 0 0
explained_of own (ZeroDivisor node) = left_own 3 (number (reason_of (ZeroDivisor node))) own node 0 0 0
explained_of own NoEntry = left_own 4 (number (reason_of NoEntry)) own 0 0 0 0
explained_of own (TooFewSegments i k form) = left_own 5 (number (reason_of (TooFewSegments i k form))) own 0 i k form
explained_of own (Answered i form start len) =
    record { kind = 6; number = 0; which = 0; node = 0; entry = i; stored = 0; form = form; start = start; len = len }

-- the number that a kind of reason gives: 1 and 2 are a bad record, 3 is a zero divisor
abbrev pub number_by : ℕ → ℕ
number_by kind = elim (ltb kind 3) [ true ↦ number_of error.BadRecord | false ↦ elim (eqb kind 3) [ true ↦ number_of error.ZeroModulus | false ↦ 0 ] ]

-- the answer that a reason tells, by its kind: where it is an answer its segment, else the caller's own text
abbrev pub answer_in : ℕ → Explained → Answer
answer_in own e =
    elim (eqb e.kind 6) [
      | true ↦ record { number = 0; which = 0; entry = e.entry; form = e.form; start = e.start; len = e.len }
      | false ↦ fallback (number_by e.kind) own
    ]
