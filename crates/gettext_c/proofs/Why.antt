-- THE THEOREM of "why did I get this text?", over the functions that a host links: whatever the record, the bytes, the key and the count, what
-- `gettext_c_ngettext` answers is a function (`answer_in`) of what `gettext_c_why_ngettext` tells of the same arguments: of the kind of the reason and, where it
-- is an answer, of its segment. So the number and the text are the lookup's. Assumes nothing.
use Prim.Native.Nat.{ℕ}
use mathlib.Core.Path.{◌≡◌, sym, ap, ◌∙◌}
use mathlib.Core.List.{List}
use contract.Lifetimes.{Lfts}
use denote.Triple.Clauses.{AtExit}
use borrow.Fn.Kinds.{Dens, ended_of}
use Rattle.rules.specs.Pool.{Pool, pool}
use Rattle.lookup_scan.specs.Keys.{key_of, last_with}
use Rattle.lookup_why.proofs.True.{why_true}
use Rattle.host.specs.Host.{is_set, tables_in, nodes_in, root_in, own_for, answer_of}
use Rattle.host.specs.Explained.{explained_of, answer_in}
use Rattle.host.specs.declared.Answer.{Answer}
use Rattle.host.specs.declared.Explained.{Explained}
use Rattle.host.proofs.Explains.{answer_in_lem}
use Rattle.gettext_c.specs.Record.{counted}
use Rattle.gettext_c.specs.Why.{why_counted}
use Rattle.gettext_c.proofs.gettext_c_ngettext.Reads as ngettext
use Rattle.gettext_c.proofs.gettext_c_ngettext.Kinds as ngettext-kinds
use Rattle.gettext_c.proofs.gettext_c_why_ngettext.Reads as why-ngettext-reads
use Rattle.gettext_c.proofs.gettext_c_why_ngettext.Kinds as why-ngettext-kinds

-- of a file s, a head h and a rule P
pub why_answers : (s h : List ℕ) (P : Pool) (key : List ℕ) (n : ℕ) {a : Answer} {w : Explained} → a ≡ answer_of (own_for n) (counted s h P key n)
    → w ≡ explained_of (own_for n) (why_counted s h P key n) → a ≡ answer_in (own_for n) w
why_answers s h P key n e f =
    e ∙ ap (answer_of (own_for n)) (why_true s (tables_in h) P (nodes_in h) (root_in h) n (last_with s (tables_in h) key))
    ∙ sym (ap (answer_in (own_for n)) f ∙ answer_in_lem (own_for n) (why_counted s h P key n))

-- of the functions, on the same arguments: `Post` is each one's promise as the check reads it from the source
pub why_ngettext : (κs : Lfts 1) (a : Dens κs ngettext-kinds.ps) (r : Answer) (w : Explained) (x : AtExit (ended_of 1 ngettext-kinds.ps ngettext-kinds.r) κs)
    (y : AtExit (ended_of 1 why-ngettext-kinds.ps why-ngettext-kinds.r) κs) → ngettext.Post κs a r x → why-ngettext-reads.Post κs a w y → r ≡ answer_in (own_for a.1.1.1.1.1.1.1.1.0) w
why_ngettext κs a r w x y p q =
    why_answers a.0.now a.1.0.now (pool a.1.1.0.now a.1.1.1.0.now a.1.1.1.1.0.now)
    (key_of (is_set a.1.1.1.1.1.0) a.1.1.1.1.1.1.0.now a.1.1.1.1.1.1.1.0.now) a.1.1.1.1.1.1.1.1.0 p q
