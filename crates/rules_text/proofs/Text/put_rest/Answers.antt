-- `rules_text::put_rest` meets its contract: its bytes are put one after the other.
use Rattle.rules_text.proofs.Texts.{rest_put}
use Rattle.rules_text.proofs.Text.put_rest.Goals as goal

pub returns : goal.returns
returns c = rest_put c.args.m c.put.ensures c.put-2.ensures c.put-3.ensures c.put_number.ensures c.put-4.ensures
