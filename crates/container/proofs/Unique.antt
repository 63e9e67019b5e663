-- Each public function's promise fixes its result: any two results that it allows on the same input are equal, refusals, every field of a
-- record and what is left in lent arrays counted in. `Post` is the promise as the check reads it from the source. Assumes nothing.
use Prim.Native.Nat.{ℕ}
use mathlib.Core.Path.{◌≡◌, sym, ap₂, ◌∙◌}
use contract.Lifetimes.{Lfts}
use denote.Triple.Clauses.{AtExit}
use borrow.Fn.Kinds.{ended_of}
use Rattle.promise.proofs.One.{One, OneLeft}
use Rattle.std.specs.Prelude.{Option, Result}
use Rattle.refusal.specs.declared.Refusal.{Refusal}
use Rattle.rules.specs.Tree.{Tree}
use Rattle.rules.specs.Pool.{Pool, pool}
use Rattle.container_layout.specs.declared.Tables.{Tables}
use Rattle.container.specs.Catalog.{Answer}
use Rattle.container.specs.Promise.{Holds, Loads}
use Rattle.container.specs.declared.Record.{Record}
use Rattle.container.specs.declared.Loading.{Loading}
use Rattle.container.specs.declared.Loaded as loaded
use Rattle.container.proofs.empty.Reads as empty
use Rattle.container.proofs.empty.Kinds as empty-kinds
use Rattle.container.proofs.empty_into.Reads as empty-into
use Rattle.container.proofs.empty_into.Kinds as empty-into-kinds
use Rattle.container.proofs.load_into.Reads as load-into
use Rattle.container.proofs.load_into.Kinds as load-into-kinds
use Rattle.container.proofs.load.Reads as load
use Rattle.container.proofs.load.Kinds as load-kinds

abbrev made : Tables → Pool → ℕ → ℕ → Option ℕ → Record
made t P k r x = record { tables = t; codes = P.codes; places = P.places; values = P.values; nodes = k; root = r; forms = x }

same : {t u : Tables} {P Q : Pool} {j k m n : ℕ} {x y : Option ℕ} → t ≡ u → P ≡ Q → j ≡ k → m ≡ n → x ≡ y → made t P j m x ≡ made u Q k n y
same e f g h i = rw (e, f, g, h, i)

pub holds_one : {t : Tables} {r : Tree} {n : Option ℕ} (u v : Record) → Holds t r n u → Holds t r n v → u ≡ v
holds_one u v p q =
    same (p.tables_are ∙ sym q.tables_are) (p.rule_is ∙ sym q.rule_is) (p.nodes_are ∙ sym q.nodes_are) (p.root_is ∙ sym q.root_is)
    (p.forms_are ∙ sym q.forms_are)

pub empty_one : One 0 empty-kinds.ps empty-kinds.r empty.Post
empty_one κs a u v x y p q = holds_one u v p q

abbrev told : Result Unit Refusal → Tables → ℕ → Option ℕ → Loading
told o t k n = record { outcome = o; tables = t; nodes = k; forms = n }

same_loading : {o p : Result Unit Refusal} {t u : Tables} {j k : ℕ} {m n : Option ℕ} → o ≡ p → t ≡ u → j ≡ k → m ≡ n → told o t j m ≡ told p u k n
same_loading e f g h = rw (e, f, g, h)

abbrev empty_left : (κs : Lfts 3) → AtExit (ended_of 3 empty-into-kinds.ps empty-into-kinds.r) κs → Pool
empty_left κs x = pool x.1.0.now x.1.1.0.now x.1.1.1.0.now

pub empty_into_one : OneLeft 3 empty-into-kinds.ps empty-into-kinds.r empty-into.Post empty_left
empty_into_one κs a u v x y p q = (
  same_loading (p.outcome_is ∙ sym q.outcome_is) (p.tables_are ∙ sym q.tables_are) (p.nodes_are ∙ sym q.nodes_are) (p.forms_are ∙ sym q.forms_are),
  p.rule_is ∙ sym q.rule_is,
)

pub loads_one : (a : Answer) {P Q : Pool} (u v : Loading) → Loads a P u → Loads a Q v → (u ≡ v) × (P ≡ Q)
loads_one a u v p q = (
  same_loading (p.outcome_is ∙ sym q.outcome_is) (p.tables_are ∙ sym q.tables_are) (p.nodes_are ∙ sym q.nodes_are) (p.forms_are ∙ sym q.forms_are),
  p.rule_is ∙ sym q.rule_is,
)

abbrev load_left : (κs : Lfts 4) → AtExit (ended_of 4 load-into-kinds.ps load-into-kinds.r) κs → Pool
load_left κs x = pool x.1.1.1.0.now x.1.1.1.1.0.now x.1.1.1.1.1.0.now

pub load_into_one : OneLeft 4 load-into-kinds.ps load-into-kinds.r load-into.Post load_left
load_into_one κs a u v x y p q = loads_one _ u v p q

abbrev beside : Result Unit Refusal → Record → loaded.Loaded
beside o r = record { outcome = o; «record» = r }

pub load_one : One 1 load-kinds.ps load-kinds.r load.Post
load_one κs a u v x y p q = ap₂ beside (p.outcome_is ∙ sym q.outcome_is) (holds_one u.record v.record p.holds q.holds)
