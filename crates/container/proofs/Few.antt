-- The rule of an answer has at most 512 nodes, whichever it is: each that is read has (`at_most_512_nodes`), and the default has three.
-- Assumes nothing.
use Prim.Native.Nat.{ℕ, zero, suc, ◌≤◌}
use mathlib.Core.Path.{◌≡◌}
use mathlib.Core.Bool.{Bool, true, false}
use mathlib.Core.List.{List}
use native.Mathlib.Omega.{arith}
use lib.ListN.{take, drop}
use Rattle.text.proofs.Tests.{taken, left, by_test}
use Rattle.refusal.specs.Places.{at}
use Rattle.refusal.specs.declared.Error.TheVariants.{NotFit}
use Rattle.refusal.specs.declared.Where.TheVariants.{File}
use Rattle.rules.specs.Tree.{Tree, default_tree}
use Rattle.rules.specs.Store.{size}
use Rattle.refusal.specs.Places.{in_rule}
use Rattle.refusal.specs.declared.Where.TheVariants.{Forced}
use Rattle.reading_rule.specs.Plurals as plurals
use Rattle.reading_rule.specs.Plurals.{Parse, rule, norule}
use Rattle.reading_rule.specs.declared.Reading.{Reading}
use Rattle.reading_rule.proofs.Nodes.{at_most_512_nodes}
use Rattle.std.specs.Prelude.{Option, Some, None, Result, Ok, Err}
use Rattle.refusal.specs.declared.Error.{Error}
use Rattle.refusal.specs.declared.Refusal.{Refusal}
use Rattle.text.specs.declared.Stretch.{Stretch}
use Rattle.container_layout.specs.Mo.{segments}
use Rattle.container_layout.specs.declared.Tables.{Tables}
use Rattle.container_messages.specs.Messages.{read_at}
use Rattle.container_messages.specs.declared.Read.{Read}
use Rattle.container_messages.specs.declared.Read.TheVariants as read
use Rattle.container_head.specs.Head.{head_of}
use Rattle.container_rule.specs.Rule.{forced_rule, rule_at, segment0, rule_by, rule_in, file_forms}
use Rattle.container_rule.specs.declared.First.{First}
use Rattle.container.specs.Catalog.{and_then, header, entry_step, entries_from, Answer, accepted, refused, answered, catalog, load_with, opened, fits, fitted, load, tree_in}
use Rattle.container.specs.declared.Options.{Options}

abbrev Few : Tree → Type 0
Few t = size t ≤ 512

few_default : Few default_tree
unfolding size
few_default = omega arith

abbrev FewIn : Parse → Type 0
FewIn p = Few (plurals.tree_in p)

few_forced : (forced : Bool) (reading : Reading) (f : List ℕ) → FewIn (forced_rule forced reading f)
few_forced true reading f = at_most_512_nodes Forced reading f
few_forced false reading f = few_default

few_rule : (reading : Reading) (s : List ℕ) (r : Tree) → Few r → (p : Result First Refusal) → FewIn (rule_in reading s r p)
few_rule reading s r h (Ok f) = by_place f.rule
  where
    by_place : (p : Option Stretch) → FewIn (rule_by reading s r p)
    by_place (Some p) = at_most_512_nodes in_rule reading (take p.len (drop p.start s))
    by_place None = h
few_rule reading s r h (Err e) = few_default

module _ (o : Options) (s : List ℕ) where
  few_entry : (r : Tree) → Few r → (q : Result Read Refusal) → FewIn (entry_step o s r q)
  unfolding entry_step header
  few_entry r h (Err e) = few_default
  few_entry r h (Ok read.Message) = h
  few_entry r h (Ok (read.Header p)) = few_rule o.reading (segment0 (segments s p.start p.len)) r h (rule_at o.forced o.utf8 (segment0 (segments s p.start p.len)))

  few_then : (p : Parse) → FewIn p → (f : Tree → Parse) → ((r : Tree) → Few r → FewIn (f r)) → FewIn (and_then p f)
  few_then (rule r) h f g = g r h
  few_then (norule e) h f g = h

  few_entries : (t : Tables) (k i : ℕ) (r : Tree) → Few r → FewIn (entries_from o s t k i r)
  unfolding entries_from
  few_entries t zero i r h = h
  few_entries t (suc k) i r h =
      few_then (entry_step o s r (read_at s t i)) (few_entry r h (read_at s t i)) (entries_from o s t k (suc i)) (λ u g. few_entries t k (suc i) u g)

  few_answered : (t : Tables) (n : Option ℕ) (p : Parse) → FewIn p → Few (tree_in (answered t n p))
  few_answered t n (rule r) h = h
  few_answered t n (norule e) h = few_default

  few_catalog : (r : Tree) → Few r → (h : Result Tables Error) → Few (tree_in (catalog o s r h))
  few_catalog r g (Ok t) = few_answered t (file_forms s t) (entries_from o s t t.count 0 r) (few_entries t t.count 0 r g)
  few_catalog r g (Err e) = few_default

  few_with : (p : Parse) → FewIn p → Few (tree_in (load_with o s p))
  few_with (rule r) h = few_catalog r h (head_of s)
  few_with (norule e) h = few_default

pub few_opened : (o : Options) (f s : List ℕ) → size (tree_in (opened o f s)) ≤ 512
unfolding opened
few_opened o f s = few_with o s (forced_rule o.forced o.reading f) (few_forced o.forced o.reading f)

few_fitted : (b : Bool) (a : Answer) → Few (tree_in a) → Few (tree_in (fitted b a))
few_fitted true (accepted t r n) h =
    by_test (Few (tree_in (fitted true (accepted t r n)))) (fits r n)
    (λ e. let z : fitted true (accepted t r n) ≡ accepted t r n = taken _ _ e in rw z h)
    (λ e. let z : fitted true (accepted t r n) ≡ refused (at File NotFit) = left _ _ e in rw z few_default)
few_fitted true (refused e) h = h
few_fitted false a h = h

pub few : (o : Options) (f s : List ℕ) → size (tree_in (load o f s)) ≤ 512
unfolding load
few o f s = few_fitted o.fit (opened o f s) (few_opened o f s)
