-- What an accepted file is: its tables are words of the file, every index below the count is an entry, and its segments are UTF-8. Assumes
-- nothing.
use Prim.Native.Nat.{ℕ, zero, suc, ◌+◌, ◌<◌, ◌≤◌}
use mathlib.Core.Path.{◌≡◌, refl, sym, ap, ◌∙◌}
use mathlib.Core.Bool.{Bool, true, false}
use mathlib.Core.List.{List}
use native.Mathlib.Omega.{arith}
use lib.ListN.{length}
use lib.Dec.{eqb}
use borrow.Author.Tests.{eqb-true, eqb-false}
use Rattle.text_utf8.specs.Utf8.{utf8}
use Rattle.text.specs.Cut.{every}
use Rattle.text.proofs.Tests.{never, taken, left, by_test}
use Rattle.refusal.specs.declared.Refusal.{Refusal}
use Rattle.refusal.specs.Places.{at}
use Rattle.refusal.specs.declared.Error.TheVariants.{NotFit}
use Rattle.refusal.specs.declared.Where.TheVariants.{File}
use Rattle.rules.specs.Tree.{Tree}
use Rattle.rules.specs.Pool.{Pool}
use Rattle.reading_rule.specs.Plurals.{Parse, rule, norule}
use Rattle.std.specs.Prelude.{Option, Some, Result, Ok, Err}
use Rattle.refusal.specs.declared.Error.{Error}
use Rattle.container_layout.specs.declared.Entry.{Entry}
use Rattle.container_layout.specs.Mo.{entry, segments}
use Rattle.container_layout.specs.declared.Tables.{Tables}
use Rattle.container_messages.specs.Messages.{read_at}
use Rattle.container_messages.specs.declared.Read.{Read}
use Rattle.container_messages.specs.declared.Read.TheVariants as read
use Rattle.container_messages.proofs.Entries.{IsEntry, read_entry, read_right}
use Rattle.container_head.specs.Head.{head_of}
use Rattle.container_head.proofs.Words.{Words, head_words}
use Rattle.container_rule.specs.Rule.{forced_rule, file_forms}
use Rattle.container.specs.Catalog.{and_then, entry_step, entries_from, Answer, accepted, refused, answered, catalog, load_with, opened, fits, fitted, load, tree_in}
use Rattle.container.specs.Promise.{Loads}
use Rattle.container.specs.declared.Options.{Options}
use Rattle.container.specs.declared.Loading.{Loading}

-- a load that says so was accepted
pub loaded_accepted : (a : Answer) {Q : Pool} {r : Loading} → Loads a Q r → r.outcome ≡ Ok tt → a ≡ accepted r.tables (tree_in a) r.forms
loaded_accepted (accepted t u n) h e = rw (h.tables_are, h.forms_are)
loaded_accepted (refused x) h e = absurd (let p = h.outcome_is in let z : ◌≡◌ {A = ℕ} 0 1 = cc in omega arith)

-- an entry that is not refused
abbrev Passes : Result Read Refusal → Type 0
Passes q = (x : Refusal) → q ≡ Err x → ⊥

-- stages that end well, each did
record Through (q : Result Read Refusal) (f : Tree → Parse) (u : Tree) : Type 0 where
  passes : Passes q
  from : Tree
  rest : f from ≡ rule u

module _ (o : Options) (s : List ℕ) (t : Tables) where
  passed : (r : Tree) (q : Result Read Refusal) (a : Parse) → entry_step o s r q ≡ a → (f : Tree → Parse) (u : Tree) → and_then a f ≡ rule u → Through q f u
  unfolding entry_step
  passed r (Err x) (rule v) e f u g = absurd (let z : ◌≡◌ {A = ℕ} 0 1 = cc in omega arith)
  passed r (Ok read.Message) (rule v) e f u g = record { passes = λ x q. let z : ◌≡◌ {A = ℕ} 0 1 = cc in omega arith; from = v; rest = g }
  passed r (Ok (read.Header p)) (rule v) e f u g = record { passes = λ x q. let z : ◌≡◌ {A = ℕ} 0 1 = cc in omega arith; from = v; rest = g }
  passed r q (norule x) e f u g = absurd (let z : ◌≡◌ {A = ℕ} 0 1 = cc in omega arith)

  all_passed : (k j : ℕ) (r u : Tree) → entries_from o s t k j r ≡ rule u → (i : ℕ) → j ≤ i → i < j + k → Passes (read_at s t i)
  unfolding entries_from
  all_passed zero j r u e i h l = absurd (omega arith)
  all_passed (suc k) j r u e i h l =
      let p = passed r (read_at s t j) (entry_step o s r (read_at s t j)) refl (entries_from o s t k (suc j)) u e in
      by_test (Passes (read_at s t i)) (eqb i j)
      (λ q. rw (eqb-true i j q) p.passes)
      (λ q. all_passed k (suc j) p.from u p.rest i (omega (arith, eqb-false i j q)) (omega arith))

-- where an accepted answer comes from: the head, the rule before the entries, the entries, and the count
pub record Whole (o : Options) (f s : List ℕ) (t : Tables) (r : Tree) (n : Option ℕ) : Type 0 where
  pub head_is : head_of s ≡ Ok t
  pub before : Tree
  pub forced_is : forced_rule o.forced o.reading f ≡ rule before
  pub entries_are : entries_from o s t t.count 0 before ≡ rule r
  pub forms_are : file_forms s t ≡ n

module _ (o : Options) (f s : List ℕ) {t : Tables} {r : Tree} {n : Option ℕ} where
  from_step : (w : Tree) → forced_rule o.forced o.reading f ≡ rule w → (u : Tables) → head_of s ≡ Ok u → (a : Parse) → entries_from o s u u.count 0 w ≡ a
      → answered u (file_forms s u) a ≡ accepted t r n → Whole o f s t r n
  from_step w p u h (rule v) e g =
      let q : u ≡ t = cc in
      let z : v ≡ r = cc in
      let m : file_forms s u ≡ n = cc in
      record { head_is = rw (← q) h; before = w; forced_is = p; entries_are = rw (← q, ← z) e; forms_are = rw (← q) m }
  from_step w p u h (norule x) e g = absurd (let z : ◌≡◌ {A = ℕ} 0 1 = cc in omega arith)

  from_head : (w : Tree) → forced_rule o.forced o.reading f ≡ rule w → (h : Result Tables Error) → head_of s ≡ h → catalog o s w h ≡ accepted t r n → Whole o f s t r n
  from_head w p (Ok u) e g = from_step w p u e (entries_from o s u u.count 0 w) refl g
  from_head w p (Err x) e g = absurd (let z : ◌≡◌ {A = ℕ} 0 1 = cc in omega arith)

  from_rule : (a : Parse) → forced_rule o.forced o.reading f ≡ a → load_with o s a ≡ accepted t r n → Whole o f s t r n
  from_rule (rule w) p g = from_head w p (head_of s) refl g
  from_rule (norule x) p g = absurd (let z : ◌≡◌ {A = ℕ} 0 1 = cc in omega arith)

  pub accepted_whole : opened o f s ≡ accepted t r n → Whole o f s t r n
  unfolding opened
  accepted_whole e = from_rule (forced_rule o.forced o.reading f) refl e

  pub opened_passed : opened o f s ≡ accepted t r n → (i : ℕ) → i < t.count → Passes (read_at s t i)
  opened_passed e i l =
      let w = accepted_whole e in
      all_passed o s t t.count 0 w.before r w.entries_are i (omega arith) (omega arith)

-- the last test: an answer that passed it, and that it was passed
pub record Fitted (b : Bool) (a : Answer) (t : Tables) (r : Tree) (n : Option ℕ) : Type 0 where
  pub is : a ≡ accepted t r n
  pub fitting : b ≡ true → fits r n ≡ true

pub was_fitted : (b : Bool) (a : Answer) {t : Tables} {r : Tree} {n : Option ℕ} → fitted b a ≡ accepted t r n → Fitted b a t r n
was_fitted true (accepted u v m) {t} {r} {n} e =
    by_test (Fitted true (accepted u v m) t r n) (fits v m)
    (λ q.
    let z : accepted u v m ≡ accepted t r n = sym (taken _ _ q) ∙ e in
    let x : v ≡ r = cc in
    let y : m ≡ n = cc in
    record { is = z; fitting = λ p. rw (← x, ← y) q })
    (λ q. absurd (let z : refused (at File NotFit) ≡ accepted t r n = sym (left _ _ q) ∙ e in let x : ◌≡◌ {A = ℕ} 0 1 = cc in omega arith))
was_fitted true (refused x) e = absurd (let z : ◌≡◌ {A = ℕ} 0 1 = cc in omega arith)
was_fitted false a e = record { is = e; fitting = λ p. absurd (never p) }

-- of an accepted file
module _ (o : Options) (f s : List ℕ) {t : Tables} {r : Tree} {n : Option ℕ} (e : load o f s ≡ accepted t r n) where
  pub accepted_fitted : Fitted o.fit (opened o f s) t r n
  unfolding load
  accepted_fitted = was_fitted o.fit (opened o f s) e

  -- the tables are words of the file, in its byte order
  pub accepted_words : Words s t
  accepted_words = head_words s (accepted_whole o f s accepted_fitted.is).head_is

  pub accepted_length : t.length ≡ length s
  accepted_length = ap (λ (x : Tables). x.length) accepted_words.is

  pub every_passed : (i : ℕ) → i < t.count → Passes (read_at s t i)
  every_passed i l = opened_passed o f s accepted_fitted.is i l

  -- every index below the count is an entry
  pub every_entry : (i : ℕ) → i < t.count → IsEntry (entry s t i)
  every_entry i l = read_entry s t i (every_passed i l)

  -- and every segment of its translation is UTF-8
  pub every_right : (i : ℕ) → i < t.count → {a : Entry} → entry s t i ≡ Some a → every utf8 (segments s a.start a.len) ≡ true
  every_right i l g = read_right s t i (every_passed i l) g
