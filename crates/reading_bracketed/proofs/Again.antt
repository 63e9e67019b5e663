-- SPEC 14: "the tool that writes the text from a loaded rule". What it writes of a record, read again in a reading that has the
-- rule's operators, is the rule of the record. The integers of what it wrote are below 2^64: that is its promise. Assumes nothing.
use Prim.Native.Nat.{ℕ}
use mathlib.Core.Path.{◌≡◌, ap, ◌∙◌}
use mathlib.Core.List.{List}
use native.Mathlib.Omega.{arith}
use lib.ListN.{length, take}
use Rattle.rules.specs.Pool.{Pool, tree_of}
use Rattle.rules_text.specs.Bracketed.{bracketed}
use Rattle.rules_text.specs.Writing.{writing_of, left_by, BoundedBy}
use Rattle.std.specs.Prelude.{Result, Ok}
use Rattle.rules_text.specs.declared.Unwritten.{Unwritten}
use Rattle.rules_text.proofs.Writings.{written, front}
use Rattle.refusal.specs.declared.Where.{Where}
use Rattle.reading_rule.specs.declared.Reading.{Reading}
use Rattle.reading_rule.specs.Plurals.{rule, parsed}
use Rattle.reading_bracketed.specs.Plain.{Knows}
use Rattle.reading_bracketed.proofs.Bracketed.{bracketed_parses}

-- what is written of a record's rule into a buffer, read again in a reading that has the rule's operators, is this very rule, wherever the text stands
pub written_again :
    (P : Pool) (place : Where) (reading : Reading) (count root n : ℕ) (old : List ℕ) → Knows reading (tree_of P root) → writing_of P count root (length old) ≡ Ok n →
    BoundedBy (writing_of P count root (length old)) (tree_of P root) →
    parsed place reading (take n (left_by (writing_of P count root (length old)) (bracketed (tree_of P root)) old)) ≡ rule (tree_of P root)
written_again P place reading count root n old k e b =
    let d = written P count root (length old) n e in
    ap (λ (w : Result ℕ Unwritten). parsed place reading (take n (left_by w (bracketed (tree_of P root)) old))) e
    ∙ (ap (parsed place reading) (front P count root (length old) n old e)
    ∙ bracketed_parses place reading (tree_of P root) (rw e at b) k (omega (arith, d.length_is, d.few)))
