-- A reason in numbers tells the lookup's answer, which is so a function of it. Assumes nothing.
use Prim.Native.Nat.{ℕ}
use mathlib.Core.Path.{◌≡◌, refl}
use Rattle.lookup_why.specs.Why.{reason_of}
use Rattle.lookup_why.specs.declared.Why.{Why}
use Rattle.lookup_why.specs.declared.Why.TheVariants.{StaleLength, NoTree, ZeroDivisor, NoEntry, TooFewSegments, Answered}
use Rattle.host.specs.Host.{answer_of}
use Rattle.host.specs.Explained.{explained_of, answer_in}

pub answer_in_lem : (own : ℕ) (w : Why) → answer_in own (explained_of own w) ≡ answer_of own (reason_of w)
answer_in_lem own StaleLength = refl
answer_in_lem own NoTree = refl
answer_in_lem own (ZeroDivisor node) = refl
answer_in_lem own NoEntry = refl
answer_in_lem own (TooFewSegments i k form) = refl
answer_in_lem own (Answered i form start len) = refl
