-- SPEC 14, over the functions that a host links: what `gettext_c_text` writes is read back as the rule that it was written of. Of any record, also
-- one that was altered: `text_again`. Of the record that `gettext_c_load` left, unaltered, it is read back as the very tree that was loaded:
-- `loaded_again`; wherever the text then stands. P are the arrays of the rule, h the head; the buffer was old and is new; w is the answer. Assumes nothing.
use Prim.Native.Nat.{ℕ}
use mathlib.Core.Path.{◌≡◌, refl, sym, ap, ◌∙◌}
use mathlib.Core.List.{List}
use native.Mathlib.Omega.{arith}
use lib.ListN.{length, take}
use Rattle.std.specs.Prelude.{Result, Ok, Err}
use Rattle.refusal.specs.declared.Where.{Where}
use Rattle.rules.specs.Tree.{Tree, default_tree}
use Rattle.rules.specs.Pool.{Pool, tree_of}
use Rattle.rules_text.specs.Writing.{writing_of}
use Rattle.rules_text.specs.declared.Unwritten.{Unwritten}
use Rattle.rules_text.specs.declared.Unwritten.TheVariants as unwritten
use Rattle.reading_rule.specs.Plurals as plurals
use Rattle.reading_rule.specs.Plurals.{Parse, rule, parsed}
use Rattle.reading_rule.specs.declared.Reading.{Reading}
use Rattle.reading_rule.specs.declared.Reading.TheVariants.{Shipped, Standard}
use Rattle.reading_bracketed.specs.Plain.{Plain, Knows}
use Rattle.reading_bracketed.proofs.Bracketed.{plain_known}
use Rattle.reading_bracketed.proofs.Known.{read_known}
use Rattle.reading_bracketed.proofs.Again.{written_again}
use Rattle.container_layout.specs.declared.Tables.{Tables}
use Rattle.container.specs.Catalog.{load, tree_in}
use Rattle.container.specs.Accepts.{Counts, forced, given, absent, headless}
use Rattle.container.specs.declared.Options.{Options}
use Rattle.container.proofs.Exactly.{accepted_exactly}
use Rattle.host.specs.Host as host
use Rattle.host.specs.Host.{nodes_in, root_in}
use Rattle.host.specs.declared.Loaded.{Loaded}
use Rattle.host.specs.declared.Written.{Written}
use Rattle.gettext_c.specs.Record.{Loads, Writes}
use Rattle.gettext_c.proofs.Fresh.{was_accepted, fresh_tree}

-- number 0 beside a length is all that a text has
with_length : (w : Result ℕ Unwritten) → (host.written_of w).number ≡ 0 → w ≡ Ok (host.written_of w).len
with_length (Ok n) e = refl
with_length (Err unwritten.TooLong) e = absurd (omega arith)
with_length (Err unwritten.NoTree) e = absurd (omega arith)

-- any record
module _ {P : Pool} {h old new : List ℕ} {w : Written} (writes : Writes P h old new w) (number_0 : w.number ≡ 0) where
  read_again : (place : Where) (reading : Reading) → Knows reading (tree_of P (root_in h)) → parsed place reading (take w.len new) ≡ rule (tree_of P (root_in h))
  read_again place reading k =
      let x : Result ℕ Unwritten = writing_of P (nodes_in h) (root_in h) (length old) in
      let e : x ≡ Ok w.len = with_length x (ap (λ (r : Written). r.number) (sym writes.answer) ∙ number_0) ∙ ap (λ (r : Written). Ok r.len) (sym writes.answer) in
      ap (λ (s : List ℕ). parsed place reading (take w.len s)) writes.left
      ∙ written_again P place reading (nodes_in h) (root_in h) w.len old k e writes.bounded

  -- by the Standard reading, whatever its operators
  pub text_again : (place : Where) → parsed place Standard (take w.len new) ≡ rule (tree_of P (root_in h))
  text_again place = read_again place Standard tt

  -- by both, if it has no + - * /
  pub text_again_both : Plain (tree_of P (root_in h)) → (place : Where) (reading : Reading) → parsed place reading (take w.len new) ≡ rule (tree_of P (root_in h))
  text_again_both p place reading = read_again place reading (plain_known reading (tree_of P (root_in h)) p)

-- the rule that counts has the operators of the reading that it was loaded in
default_known : (reading : Reading) → Knows reading default_tree
default_known Shipped = (tt, tt, tt)
default_known Standard = tt

rule_known : (place : Where) (reading : Reading) (s : List ℕ) {t : Tree} → parsed place reading s ≡ rule t → Knows reading t
rule_known place reading s {t} e = let z : plurals.tree_in (parsed place reading s) ≡ t = ap plurals.tree_in e in rw z at (read_known place reading s)

counts_known : {o : Options} {f s : List ℕ} {t : Tables} {r : Tree} → Counts o f s t r → Knows o.reading r
counts_known {o} (forced c e) = rule_known _ o.reading _ e
counts_known {o} (given c i d e) = rule_known _ o.reading _ e
counts_known {o} (absent c i d e) = rw e (default_known o.reading)
counts_known {o} (headless c n e) = rw e (default_known o.reading)

-- the record that an accepted load left, unaltered
module _ (o : Options) (f s : List ℕ) {Q : Pool} {r : Loaded} (loads : Loads (load o f s) Q r) (number_0 : r.number ≡ 0)
    {old new : List ℕ} {w : Written} (writes : Writes Q r.head old new w) (written : w.number ≡ 0) where
  loaded_known : Knows o.reading (tree_in (load o f s))
  loaded_known = counts_known ((accepted_exactly o f s _ _ _).0 (was_accepted o f s loads number_0)).sound.counts

  -- by the reading that it was loaded in
  pub loaded_again : (place : Where) → parsed place o.reading (take w.len new) ≡ rule (tree_in (load o f s))
  loaded_again place = rw (fresh_tree o f s loads) at (read_again writes written place o.reading (rw (fresh_tree o f s loads) loaded_known))

  pub loaded_again_standard : (place : Where) → parsed place Standard (take w.len new) ≡ rule (tree_in (load o f s))
  loaded_again_standard place = rw (fresh_tree o f s loads) at (text_again writes written place)

  pub loaded_again_both : Plain (tree_in (load o f s)) → (place : Where) (reading : Reading) → parsed place reading (take w.len new) ≡ rule (tree_in (load o f s))
  loaded_again_both p place reading = rw (fresh_tree o f s loads) at (text_again_both writes written (rw (fresh_tree o f s loads) p) place reading)
