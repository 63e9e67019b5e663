-- Why a lookup answers as it does. SPEC 2, 8, 9 and 10. The entry with the key
-- is given, so that the same is said of every way to find it.
use Rattle.std.specs.Prelude.{ℕ, true, false, List, length, eqb, Option, Some, None, Result, Ok, Err}
use Rattle.refusal.specs.Numbers.{number_of}
use Rattle.refusal.specs.declared.Error.TheVariants as error
use Rattle.rules.specs.declared.NoForm.{NoForm}
use Rattle.rules.specs.declared.NoForm.TheVariants as no_form
use Rattle.container_layout.specs.Mo.{segment}
use Rattle.container_layout.specs.declared.Tables.{Tables}
use Rattle.text.specs.declared.Stretch.{Stretch}
use Rattle.lookup_scan.specs.declared.Hit.{Hit}
use Rattle.lookup_index.specs.declared.TooFewSlots.{TooFewSlots}
use Rattle.lookup.specs.declared.Reason.{Reason}
use Rattle.lookup.specs.declared.Reason.TheVariants.{StaleLength, NoTree, IndexRoom, ZeroModulus, NoEntry, TooFewSegments, Answered}

-- the segment that a form names, of entry i
abbrev pub by_segment : ℕ → ℕ → Option Stretch → Reason
by_segment i form (Some p) = Answered i form p.start p.len
by_segment i form None = TooFewSegments i

-- of the entry with the key, if there is one
abbrev pub by_entry : List ℕ → ℕ → Option Hit → Reason
by_entry s form (Some h) = by_segment h.entry form (segment s h.start h.len form)
by_entry s form None = NoEntry

-- the rule is resolved before the key is sought
abbrev pub by_rule : List ℕ → Result ℕ NoForm → Option Hit → Reason
by_rule s (Ok form) h = by_entry s form h
by_rule s (Err no_form.ZeroModulus) h = ZeroModulus
by_rule s (Err no_form.NoTree) h = NoTree

-- a lookup with a count, by the rule's value there
unfoldable pub plural : List ℕ → Tables → Result ℕ NoForm → Option Hit → Reason
plural s t v h = elim (eqb (length s) t.length) [ true ↦ by_rule s v h | false ↦ StaleLength ]

-- without a count the form is 0
abbrev pub singular : List ℕ → Tables → Option Hit → Reason
singular s t h = plural s t (Ok 0) h

-- by lent slots: too few are refused after nodes that are no tree, and before a zero divisor
abbrev pub few_slots : Result ℕ NoForm → Reason
few_slots (Ok form) = IndexRoom
few_slots (Err no_form.ZeroModulus) = IndexRoom
few_slots (Err no_form.NoTree) = NoTree

abbrev pub by_slots : List ℕ → Result ℕ NoForm → Result (Option Hit) TooFewSlots → Reason
by_slots s v (Ok h) = by_rule s v h
by_slots s v (Err e) = few_slots v

unfoldable pub plural_in : List ℕ → Tables → Result ℕ NoForm → Result (Option Hit) TooFewSlots → Reason
plural_in s t v x = elim (eqb (length s) t.length) [ true ↦ by_slots s v x | false ↦ StaleLength ]

abbrev pub singular_in : List ℕ → Tables → Result (Option Hit) TooFewSlots → Reason
singular_in s t x = plural_in s t (Ok 0) x

-- the number of a reason
abbrev pub number : Reason → ℕ
number StaleLength = number_of error.BadRecord
number NoTree = number_of error.BadRecord
number IndexRoom = number_of error.IndexRoom
number ZeroModulus = number_of error.ZeroModulus
number NoEntry = 0
number (TooFewSegments i) = 0
number (Answered i form start len) = 0
