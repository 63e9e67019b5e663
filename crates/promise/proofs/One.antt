-- A promise allows one result: any two that it allows on the same input are equal. `Post` is a function's promise as the check
-- reads it from the source, over the lifetimes, the arguments, the result, and what lent memory holds at exit. Assumes nothing.
use Prim.Native.Nat.{ℕ}
use mathlib.Core.Path.{◌≡◌}
use mathlib.Core.List.{List}
use contract.Lifetimes.{Lfts}
use denote.Triple.Clauses.{AtExit}
use borrow.Fn.Kinds.{ParamKind, ResultKind, Out, Dens, res_t, ended_of}

abbrev pub One : (n : ℕ) (ps : List (ParamKind n)) (r : ResultKind n) → Out n ps r → Type 0
One n ps r Post =
    (κs : Lfts n) (a : Dens κs ps) (u v : (res_t r κs).Denot) (x y : AtExit (ended_of n ps r) κs) → Post κs a u x → Post κs a v y → u ≡ v

-- the same of a function that writes: the result, and what `left` reads off lent memory at exit
abbrev pub OneLeft : (n : ℕ) (ps : List (ParamKind n)) (r : ResultKind n) → Out n ps r → {T : Type 0} → ((κs : Lfts n) → AtExit (ended_of n ps r) κs → T) → Type 0
OneLeft n ps r Post left =
    (κs : Lfts n) (a : Dens κs ps) (u v : (res_t r κs).Denot) (x y : AtExit (ended_of n ps r) κs) → Post κs a u x → Post κs a v y
    → (u ≡ v) × (left κs x ≡ left κs y)
