-- The last test, as the code makes it: on the rule in the arrays and the count beside it. Assumes nothing.
use Prim.Native.Nat.{ℕ, ◌<◌, ◌≤◌}
use mathlib.Core.Path.{◌≡◌, refl, sym, ap, ◌∙◌}
use mathlib.Core.Bool.{Bool, true, false}
use mathlib.Core.List.{List}
use native.Mathlib.Omega.{arith}
use Rattle.text.proofs.Tests.{taken, left}
use Rattle.refusal.specs.Places.{at}
use Rattle.refusal.specs.declared.Error.TheVariants.{NotFit}
use Rattle.refusal.specs.declared.Refusal.{Refusal}
use Rattle.refusal.specs.declared.Where.TheVariants.{File}
use Rattle.rules.specs.Tree.{Tree}
use Rattle.rules.specs.Range.{rate_tree, fits_range}
use Rattle.rules.specs.Store.{size}
use Rattle.rules.specs.Pool.{Pool}
use Rattle.rules.specs.Pack.{packed_size, packed}
use Rattle.rules.specs.Answer.{fitting}
use Rattle.std.specs.Prelude.{Option, Some, None, Result, Ok, Err}
use Rattle.reading_rule.proofs.Joined.{held_fits}
use Rattle.container.specs.Catalog.{Answer, accepted, refused, opened, fits, fitted, load, tree_in}
use Rattle.container.specs.Private.{is_yes, fits_in, Gives}
use Rattle.container.specs.declared.Options.{Options}
use Rattle.container.specs.declared.Opened.{Opened}
use Rattle.container.proofs.Few.{few_opened}
use Rattle.container.proofs.Stages.{refusing, some_nodes}

-- the rule in the arrays fits as its tree does
told_fits : (b : Bool) → is_yes (fitting b) ≡ b
told_fits true = refl
told_fits false = refl

held : (t : Tree) → size t ≤ 512 → {Q : Pool} {k : ℕ} → Q ≡ packed t → k ≡ packed_size t → (n : Option ℕ) → fits_in Q k n ≡ fits t n
held t few e g (Some m) = ap is_yes (held_fits t few e g m) ∙ told_fits (fits_range (rate_tree t) m)
held t few e g None = refl

-- an answer that was not refused
record Was (a : Answer) (Q : Pool) (x : Opened) : Type 0 where
  is : a ≡ accepted x.tables (tree_in a) x.forms
  nodes : x.nodes ≡ packed_size (tree_in a)
  stored : Q ≡ packed (tree_in a)

was : (a : Answer) {Q : Pool} {r : Result Opened Refusal} {x : Opened} → Gives a Q r → r ≡ Ok x → Was a Q x
was (accepted t u n) {x = x} w e =
    let q : record { tables = t; nodes = packed_size u; forms = n } ≡ x = cc (sym w.given_is ∙ e) in
    rw (← q) (record { is = refl; nodes = refl; stored = w.stored })
was (refused y) w e = absurd (let p = w.given_is in let z : ◌≡◌ {A = ℕ} 0 1 = cc in omega arith)

still : (b : Bool) (a : Answer) {P Q : Pool} {r y : Result Opened Refusal} {x : Refusal} → Gives a P r → r ≡ Err x → y ≡ Err x → Gives (fitted b a) Q y
still b (accepted t u n) w e g = absurd (let p = w.given_is in let z : ◌≡◌ {A = ℕ} 0 1 = cc in omega arith)
still true (refused z) {x = x} w e g = let q : z ≡ x = cc (sym w.given_is ∙ e) in rw q (record { given_is = g; stored = tt })
still false (refused z) {x = x} w e g = let q : z ≡ x = cc (sym w.given_is ∙ e) in rw q (record { given_is = g; stored = tt })

module _ (o : Options) (f s : List ℕ) {Q : Pool} {r : Result Opened Refusal} (w : Gives (opened o f s) Q r) where
  -- the load was refused before
  pub stays_refused : {x : Refusal} {R : Pool} {y : Result Opened Refusal} → r ≡ Err x → y ≡ Err x → Gives (load o f s) R y
  unfolding load
  stays_refused e g = still o.fit (opened o f s) w e g

  module _ {x : Opened} (e : r ≡ Ok x) where
    as_accepted : opened o f s ≡ accepted x.tables (tree_in (opened o f s)) x.forms
    as_accepted = (was (opened o f s) w e).is

    kept : (a : Answer) → a ≡ opened o f s → Gives a Q (Ok x)
    kept a g = rw g (record { given_is = sym e ∙ w.given_is; stored = w.stored })

    -- the test is off
    pub not_asked : o.fit ≡ false → Gives (load o f s) Q (Ok x)
    unfolding load
    not_asked h = kept (load o f s) (ap (λ (b : Bool). fitted b (opened o f s)) h)

    pub has_nodes : 0 < x.nodes
    has_nodes = some_nodes (tree_in (opened o f s)) (was (opened o f s) w e).nodes

    module _ {P : Pool} (d : P ≡ Q) {b : Bool} (g : b ≡ fits_in P x.nodes x.forms) where
      fits_so : {c : Bool} → b ≡ c → fits (tree_in (opened o f s)) x.forms ≡ c
      fits_so h = let k = was (opened o f s) w e in sym (held (tree_in (opened o f s)) (few_opened o f s) (d ∙ k.stored) k.nodes x.forms) ∙ sym g ∙ h

      at_last : {c : Bool} → o.fit ≡ c → load o f s ≡ fitted c (accepted x.tables (tree_in (opened o f s)) x.forms)
      unfolding load
      at_last {c} p = ap (λ (b : Bool). fitted b (opened o f s)) p ∙ ap (fitted c) as_accepted

      pub does_fit : o.fit ≡ true → b ≡ true → Gives (load o f s) Q (Ok x)
      does_fit p h = kept (load o f s) (at_last p ∙ taken _ _ (fits_so h) ∙ sym as_accepted)

      pub does_not : o.fit ≡ true → b ≡ false → {R : Pool} {y : Refusal} → y ≡ at File NotFit → Gives (load o f s) R (Err y)
      does_not p h i = refusing (load o f s) (at_last p ∙ left _ _ (fits_so h)) (ap Err i)
