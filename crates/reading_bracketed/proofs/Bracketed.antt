-- SPEC 14: "Both readings of that text give this very tree." Assumes nothing.
use Prim.Native.Nat.{◌≤◌}
use mathlib.Core.Path.{◌≡◌, ap, ◌∙◌}
use lib.ListN.{length}
use borrow.Author.Tests.{le-ltb}
use Rattle.text.proofs.Tests.{taken, left}
use Rattle.text_trim.specs.declared.Set.TheVariants.{WhiteSpace}
use Rattle.rules.specs.Tree.{Tree, tree}
use Rattle.reading_grammar.specs.Reading.{standard}
use Rattle.refusal.specs.declared.Where.{Where}
use Rattle.reading_rule.specs.declared.Reading.{Reading}
use Rattle.reading_rule.specs.declared.Reading.TheVariants.{Shipped, Standard}
use Rattle.reading_rule.specs.Plurals.{rule, read_as, made, tested, parsed}
use Rattle.rules_text.specs.Bracketed.{bracketed}
use Rattle.rules_text.specs.Bounded.{Bounded}
use Rattle.reading_bracketed.specs.Plain.{Plain, Knows}
use Rattle.reading_bracketed.proofs.Visible.{seen, trim_visible, ascii_visible}
use Rattle.reading_bracketed.proofs.Standard.{standard_bracketed}
use Rattle.reading_bracketed.proofs.Shipped.{shipped_bracketed}

-- in a reading that has the tree's operators, whatever the length
pub bracketed_reads : (reading : Reading) (t : Tree) → Bounded t → Knows reading t → read_as reading (bracketed t) ≡ tree t
bracketed_reads Shipped t h k = shipped_bracketed t h k
bracketed_reads Standard t h k = standard_bracketed t h

-- in at most 512 bytes it is a rule, wherever it stands, and that rule is the tree
pub bracketed_parses :
    (place : Where) (reading : Reading) (t : Tree) → Bounded t → Knows reading t → length (bracketed t) ≤ 512 → parsed place reading (bracketed t) ≡ rule t
unfolding parsed tested made
bracketed_parses place reading t h k l =
    let e : read_as reading (bracketed t) ≡ tree t = bracketed_reads reading t h k in
    ap (tested place reading) (trim_visible WhiteSpace (seen t))
    ∙ (left _ _ (le-ltb 512 (length (bracketed t)) l)
    ∙ (taken _ _ (ascii_visible (seen t))
    ∙ ap (made place) e))

-- "any tree of 01's operators": both readings
pub plain_known : (reading : Reading) (t : Tree) → Plain t → Knows reading t
plain_known Shipped t p = p
plain_known Standard t p = tt

pub both_parse : (place : Where) (t : Tree) → Bounded t → Plain t → length (bracketed t) ≤ 512 → (reading : Reading) → parsed place reading (bracketed t) ≡ rule t
both_parse place t h p l reading = bracketed_parses place reading t h (plain_known reading t p) l

-- "For a rule with request b's operators, the Standard reading gives the tree back."
pub standard_parses : (place : Where) (t : Tree) → Bounded t → length (bracketed t) ≤ 512 → parsed place Standard (bracketed t) ≡ rule t
standard_parses place t h l = bracketed_parses place Standard t h tt l

-- two trees never have one text
pub bracketed_differs : (s t : Tree) → Bounded s → Bounded t → bracketed s ≡ bracketed t → s ≡ t
bracketed_differs s t h k e =
    let a : standard (bracketed s) ≡ tree s = standard_bracketed s h in
    let b : standard (bracketed t) ≡ tree t = standard_bracketed t k in
    let c : tree s ≡ tree t = rw (← a, e) b in
    cc
