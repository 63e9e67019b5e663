-- Forgetting the place and the count gives the answer of before, where no fit is asked for: the same numbers in the same order, the same
-- tables and the same rule. Assumes nothing.
use Prim.Native.Nat.{ℕ, zero, suc}
use mathlib.Core.Path.{◌≡◌, refl, ap, ◌∙◌}
use mathlib.Core.Bool.{Bool, true, false, ◌||◌}
use mathlib.Core.List.{List}
use lib.ListN.{length, take, drop}
use lib.Dec.{ltb}
use Rattle.text.specs.Bytes.{all}
use Rattle.text_trim.specs.Trim.{trim, white_space}
use Rattle.refusal.specs.Numbers.{number_of, outcome_number}
use Rattle.refusal.specs.Places.{at, in_header, in_rule}
use Rattle.refusal.specs.declared.Where.{Where}
use Rattle.refusal.specs.declared.Where.TheVariants.{Forced}
use Rattle.refusal.specs.declared.Error.TheVariants.{PluralParsing, UnknownEncoding, RuleTooLong}
use Rattle.rules.specs.Tree as tree
use Rattle.rules.specs.Tree.{Tree, default_tree}
use Rattle.reading_rule.specs.Plurals as plurals
use Rattle.reading_rule.specs.Plurals.{Parse, rule, norule, read_as, is_ascii}
use Rattle.reading_rule.specs.declared.Reading.{Reading}
use Rattle.text.specs.declared.Stretch.{Stretch}
use Rattle.header.specs.Header.{metadata}
use Rattle.header.specs.declared.Metadata.{Metadata}
use Rattle.std.specs.Prelude.{Option, Some, None, Result, Ok, Err}
use Rattle.refusal.specs.declared.Error.{Error}
use Rattle.refusal.specs.declared.Refusal.{Refusal}
use Rattle.container_layout.specs.Mo.{segments}
use Rattle.container_layout.specs.declared.Tables.{Tables}
use Rattle.container_messages.specs.Messages.{read_at}
use Rattle.container_messages.specs.declared.Read.{Read}
use Rattle.container_messages.specs.declared.Read.TheVariants as read
use Rattle.container_messages.proofs.Before.{forget_read, read_forgotten}
use Rattle.container_head.specs.Head.{head_of}
use Rattle.container_rule.specs.Rule as choice
use Rattle.container_rule.specs.Rule.{label_ok, segment0, rule_at, rule_by, rule_in, forced_rule, file_forms}
use Rattle.container.specs.Catalog as catalog
use Rattle.container.specs.Catalog.{header, entry_step}
use Rattle.container.specs.Promise.{outcome_of}
use Rattle.container.specs.Before.{Stage, hands, stops, and_then, made, tested, parsed, ruled, headed, entry_of, entries_from, Answer, accepted, refused, load}
use Rattle.container.specs.Before as before
use Rattle.container.specs.declared.Options.{Options}

-- a stage and an answer, the place forgotten
abbrev pub forget : Parse → Stage
forget (rule t) = hands t
forget (norule r) = stops r.error

abbrev pub forgetting : catalog.Answer → Answer
forgetting (catalog.accepted t r n) = accepted t r
forgetting (catalog.refused r) = refused r.error

by_cases : (b : Bool) (x y : Parse) → forget (elim b [ true ↦ x | false ↦ y ]) ≡ elim b [ true ↦ forget x | false ↦ forget y ]
by_cases true x y = refl
by_cases false x y = refl

made_same : (w : Where) (o : tree.Reading) → forget (plurals.made w o) ≡ made o
unfolding plurals.made
made_same w (tree.tree t) = refl
made_same w tree.none = refl

-- a rule's text, wherever it stands
parsed_same : (w : Where) (reading : Reading) (s : List ℕ) → forget (plurals.parsed w reading s) ≡ parsed reading s
unfolding plurals.parsed plurals.tested
parsed_same w reading s =
    let t = trim white_space s in
    by_cases (ltb 512 (length t)) (norule (at w RuleTooLong)) (elim (all is_ascii t) [ true ↦ plurals.made w (read_as reading t) | false ↦ norule (at w PluralParsing) ])
    ∙ ap (λ (x : Stage). elim (ltb 512 (length t)) [ true ↦ stops RuleTooLong | false ↦ x ])
    (by_cases (all is_ascii t) (plurals.made w (read_as reading t)) (norule (at w PluralParsing))
    ∙ ap (λ (x : Stage). elim (all is_ascii t) [ true ↦ x | false ↦ stops PluralParsing ]) (made_same w (read_as reading t)))

module _ (o : Options) where
  ruled_same : (h : List ℕ) (r : Tree) (p : Option Stretch) → forget (rule_by o.reading h r p) ≡ ruled o h r p
  ruled_same h r (Some p) = parsed_same in_rule o.reading (take p.len (drop p.start h))
  ruled_same h r None = refl

  known_same : (h : List ℕ) (r : Tree) (b : Bool) (p : Option Stretch) (n : Option ℕ)
      → forget (rule_in o.reading h r (elim b [ true ↦ Ok (record { rule = p; forms = n }) | false ↦ Err (at in_header UnknownEncoding) ])) ≡ elim b [ true ↦ ruled o h r p | false ↦ stops UnknownEncoding ]
  known_same h r true p n = ruled_same h r p
  known_same h r false p n = refl

  headed_same : (h : List ℕ) (r : Tree) (m : Option Metadata) → forget (rule_in o.reading h r (choice.headed o.forced o.utf8 h m)) ≡ headed o h r m
  headed_same h r None = refl
  headed_same h r (Some m) = known_same h r (o.utf8 || label_ok h m.charset) (elim o.forced [ true ↦ None | false ↦ m.rule ]) m.forms

  entry_same : (s : List ℕ) (r : Tree) (q : Result Read Refusal) → forget (entry_step o s r q) ≡ entry_of o s r (forget_read q)
  unfolding entry_step header rule_at
  entry_same s r (Err e) = refl
  entry_same s r (Ok read.Message) = refl
  entry_same s r (Ok (read.Header p)) = let h = segment0 (segments s p.start p.len) in headed_same h r (metadata h)

  then_same : (p : Parse) (f : Tree → Parse) (g : Tree → Stage) → ((t : Tree) → forget (f t) ≡ g t) → forget (catalog.and_then p f) ≡ and_then (forget p) g
  then_same (rule t) f g h = h t
  then_same (norule e) f g h = refl

  entries_same : (s : List ℕ) (t : Tables) (k i : ℕ) (r : Tree) → forget (catalog.entries_from o s t k i r) ≡ entries_from o s t k i r
  unfolding catalog.entries_from entries_from
  entries_same s t zero i r = refl
  entries_same s t (suc k) i r =
      then_same (entry_step o s r (read_at s t i)) (catalog.entries_from o s t k (suc i)) (entries_from o s t k (suc i)) (entries_same s t k (suc i))
      ∙ ap (λ (q : Stage). and_then q (entries_from o s t k (suc i))) (entry_same s r (read_at s t i) ∙ ap (entry_of o s r) (read_forgotten s t i))

  answered_same : (t : Tables) (n : Option ℕ) (p : Parse) → forgetting (catalog.answered t n p) ≡ before.answered t (forget p)
  answered_same t n (rule r) = refl
  answered_same t n (norule e) = refl

  catalog_same : (s : List ℕ) (r : Tree) (h : Result Tables Error) → forgetting (catalog.catalog o s r h) ≡ before.catalog o s r h
  catalog_same s r (Ok t) = answered_same t (file_forms s t) (catalog.entries_from o s t t.count 0 r) ∙ ap (before.answered t) (entries_same s t t.count 0 r)
  catalog_same s r (Err e) = refl

  with_same : (s : List ℕ) (p : Parse) → forgetting (catalog.load_with o s p) ≡ before.load_with o s (forget p)
  with_same s (rule r) = catalog_same s r (head_of s)
  with_same s (norule e) = refl

  forced_same : (f : List ℕ) → forget (forced_rule o.forced o.reading f) ≡ elim o.forced [ true ↦ parsed o.reading f | false ↦ hands default_tree ]
  forced_same f =
      by_cases o.forced (plurals.parsed Forced o.reading f) (rule default_tree)
      ∙ ap (λ (x : Stage). elim o.forced [ true ↦ x | false ↦ hands default_tree ]) (parsed_same Forced o.reading f)

  opened_same : (f s : List ℕ) → forgetting (catalog.opened o f s) ≡ load o f s
  unfolding catalog.opened load
  opened_same f s = with_same s (forced_rule o.forced o.reading f) ∙ ap (before.load_with o s) (forced_same f)

  -- with the option off the last test is none
  pub forgotten : o.fit ≡ false → (f s : List ℕ) → forgetting (catalog.load o f s) ≡ load o f s
  unfolding catalog.load
  forgotten e f s = ap (λ (b : Bool). forgetting (catalog.fitted b (catalog.opened o f s))) e ∙ opened_same f s

-- the number of an answer of before, and so of every load: what a host is told is what it was told
abbrev pub number_in : Answer → ℕ
number_in (accepted t r) = 0
number_in (refused e) = number_of e

number_forgets : (a : catalog.Answer) → outcome_number (outcome_of a) ≡ number_in (forgetting a)
number_forgets (catalog.accepted t r n) = refl
number_forgets (catalog.refused r) = refl

pub same_number : (o : Options) → o.fit ≡ false → (f s : List ℕ) → outcome_number (outcome_of (catalog.load o f s)) ≡ number_in (load o f s)
same_number o e f s = number_forgets (catalog.load o f s) ∙ ap number_in (forgotten o e f s)
