-- Why a lookup with a count answers as it does: the first reason that holds. SPEC 9.7. `reason_of` makes it the lookup's own reason, by which
-- its number and its text are told; proofs/True.antt: it is that reason.
use Rattle.std.specs.Prelude.{ℕ, ◌+◌, true, false, List, length, leb, eqb, Option, Some, None, Result, Ok, Err}
use Rattle.rules_zero.specs.declared.Fault.{Fault}
use Rattle.rules_zero.specs.declared.Fault.TheVariants as fault
use Rattle.container_layout.specs.Mo.{segment, segments}
use Rattle.container_layout.specs.declared.Tables.{Tables}
use Rattle.text.specs.declared.Stretch.{Stretch}
use Rattle.lookup_scan.specs.declared.Hit.{Hit}
use Rattle.lookup.specs.declared.Reason.{Reason}
use Rattle.lookup.specs.declared.Reason.TheVariants as reason
use Rattle.lookup_why.specs.declared.Why.{Why}
use Rattle.lookup_why.specs.declared.Why.TheVariants.{StaleLength, NoTree, ZeroDivisor, NoEntry, TooFewSegments, Answered}

-- how many segments are stored in a translation that lies in the file
unfoldable pub stored : List ℕ → ℕ → ℕ → ℕ
stored s start len = elim (leb (start + len) (length s)) [ true ↦ length (segments s start len) | false ↦ 0 ]

-- the segment that a form names, of entry i, which stores k of them
abbrev pub by_segment : ℕ → ℕ → ℕ → Option Stretch → Why
by_segment i k form (Some p) = Answered i form p.start p.len
by_segment i k form None = TooFewSegments i k form

-- of the entry with the key, if there is one
abbrev pub by_entry : List ℕ → ℕ → Option Hit → Why
by_entry s form (Some h) = by_segment h.entry (stored s h.start h.len) form (segment s h.start h.len form)
by_entry s form None = NoEntry

-- the rule is resolved before the key is sought
abbrev pub by_rule : List ℕ → Result ℕ Fault → Option Hit → Why
by_rule s (Ok form) h = by_entry s form h
by_rule s (Err (fault.ZeroDivisor node)) h = ZeroDivisor node
by_rule s (Err fault.NoTree) h = NoTree

-- and the length is tested before all
unfoldable pub why : List ℕ → Tables → Result ℕ Fault → Option Hit → Why
why s t v h = elim (eqb (length s) t.length) [ true ↦ by_rule s v h | false ↦ StaleLength ]

-- the lookup's reason
abbrev pub reason_of : Why → Reason
reason_of StaleLength = reason.StaleLength
reason_of NoTree = reason.NoTree
reason_of (ZeroDivisor node) = reason.ZeroModulus
reason_of NoEntry = reason.NoEntry
reason_of (TooFewSegments i k form) = reason.TooFewSegments i
reason_of (Answered i form start len) = reason.Answered i form start len
