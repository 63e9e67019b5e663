-- `all` tests the bytes as the definition does.
use Rattle.std.proofs.Common.{rules, tests}
use Rattle.std.proofs.lemmas.Iterator.{YieldsList-from_slice}
use Rattle.std.proofs.lemmas.Iterator.Search.{all_from_yields_List}
use Rattle.reading_rule.specs.Plurals.{is_ascii}
use Rattle.reading_rule.proofs.Steps.{ascii_all}
use Rattle.reading_rule.proofs.ascii.Goals as goal

pub returns : goal.returns
returns c =
    ascii_all _ (all_from_yields_List is_ascii _ _ _ c.all.ensures.ran (YieldsList-from_slice c.args.s.now cc) (λ x b q k. search (rules, tests)))
