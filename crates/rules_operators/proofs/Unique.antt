-- Each public function's promise fixes its result: any two results that it allows on the same input are equal. `Post` is the promise
-- as the check reads it from the source; the flag that `apply` is lent counts as its
-- result, and its operator is one of the table.
use Rattle.std.proofs.Common.{◌≡◌, sym, ◌∙◌}
use contract.Lifetimes.{Lfts}
use denote.Triple.Clauses.{AtExit}
use borrow.Fn.Kinds.{Dens, res_t, ended_of}
use Rattle.promise.proofs.One.{One}
use Rattle.rules_operators.proofs.Given.{one_applied}
use Rattle.rules_operators.proofs.truth.Reads as truth
use Rattle.rules_operators.proofs.truth.Kinds as truth-kinds
use Rattle.rules_operators.proofs.settles.Reads as settles
use Rattle.rules_operators.proofs.settles.Kinds as settles-kinds
use Rattle.rules_operators.proofs.apply.Reads as apply
use Rattle.rules_operators.proofs.apply.Kinds as apply-kinds

pub truth_one : One 0 truth-kinds.ps truth-kinds.r truth.Post
truth_one κs a u v x y p q = p ∙ sym q

pub settles_one : One 0 settles-kinds.ps settles-kinds.r settles.Post
settles_one κs a u v x y p q = p ∙ sym q

pub apply_one : (κs : Lfts 1) (a : Dens κs apply-kinds.ps) (u v : (res_t apply-kinds.r κs).Denot) (x y : AtExit (ended_of 1 apply-kinds.ps apply-kinds.r) κs)
    → apply.Pre κs a → apply.Post κs a u x → apply.Post κs a v y → (u ≡ v) × (x.1.1.1.0.now ≡ y.1.1.1.0.now)
apply_one κs a u v x y n p q = one_applied n p q
