-- `rules_value::resolve` meets its contract: the tree test comes first, and a walk from the root brings the value.
use mathlib.Core.Path.{◌≡◌, refl, sym, ap, ◌∙◌}
use Prim.Native.Nat.{ℕ}
use Rattle.std.specs.Prelude.{Option, Some, None}
use Rattle.std.specs.Option.{ok_or}
use Rattle.rules.specs.Pool.{pool_in}
use Rattle.rules.proofs.Trees.{sound, told}
use Rattle.rules.specs.declared.NoForm.TheVariants as no_form
use Rattle.rules.specs.Answer.{form_of}
use Rattle.rules.proofs.Answers.{resolved_none, resolved_tree}
use Rattle.rules_value.proofs.resolve.Goals as goal

form_lem : (v : Option ℕ) → ok_or v no_form.ZeroModulus ≡ form_of v
form_lem (Some x) = refl
form_lem None = refl

pub returns-then-not-is_tree : goal.returns-then-not-is_tree
returns-then-not-is_tree c = sym (resolved_none (pool_in c.args.rule.nodes) c.args.rule.count c.args.rule.root c.args.n (told (pool_in c.args.rule.nodes) c.args.rule.count c.args.rule.root c.is_tree.ensures c.if-not-is_tree.true))

pub value_at-requires : goal.value_at-requires
value_at-requires c = sound (pool_in c.args.rule.nodes) c.args.rule.count c.args.rule.root (told (pool_in c.args.rule.nodes) c.args.rule.count c.args.rule.root c.is_tree.ensures c.if-not-is_tree.false)

pub returns : goal.returns
returns c =
    c.ok_or.ensures.value
    ∙ form_lem _
    ∙ ap form_of c.value_at.ensures
    ∙ sym (resolved_tree (pool_in c.args.rule.nodes) c.args.rule.count c.args.rule.root c.args.n (told (pool_in c.args.rule.nodes) c.args.rule.count c.args.rule.root c.is_tree.ensures c.if-not-is_tree.false))
