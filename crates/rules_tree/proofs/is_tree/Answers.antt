-- `rules_tree::is_tree` meets its contract: the counts are tested here, the nodes by `passes`, whose marks are cleared.
use mathlib.Core.List.{[]}
use native.Mathlib.Omega.{arith}
use Rattle.rules.specs.Pool.{pool}
use Rattle.rules_tree.proofs.Marks.{too_many, no_root, tested, cleared}
use Rattle.rules_tree.proofs.is_tree.Goals as goal

pub returns-then-count-gt-MOST : goal.returns-then-count-gt-MOST
returns-then-count-gt-MOST c = too_many (pool c.args.codes.now c.args.places.now []) c.args.count c.args.root c.if-count-gt-MOST.true

pub returns-then-count-root : goal.returns-then-count-root
returns-then-count-root c = no_root (pool c.args.codes.now c.args.places.now []) c.args.count c.args.root c.if-count-gt-MOST.false c.if-count-root.true

pub passes-requires : goal.passes-requires
passes-requires c = (omega arith, omega arith, cleared 64)

pub returns-then-count-le-FEW : goal.returns-then-count-le-FEW
returns-then-count-le-FEW c = tested (pool c.args.codes.now c.args.places.now []) c.args.count c.args.root c.if-count-gt-MOST.false c.if-count-root.false c.passes.ensures

pub passes-requires-2 : goal.passes-requires-2
passes-requires-2 c = (omega arith, omega arith, cleared 512)

pub returns : goal.returns
returns c = tested (pool c.args.codes.now c.args.places.now []) c.args.count c.args.root c.if-count-gt-MOST.false c.if-count-root.false c.passes-2.ensures
