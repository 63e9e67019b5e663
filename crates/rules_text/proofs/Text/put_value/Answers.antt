-- `rules_text::put_value` meets its contract: its parts are put one after the other.
use Rattle.rules_text.proofs.Texts.{value_put}
use Rattle.rules_text.proofs.Text.put_value.Goals as goal

pub returns : goal.returns
returns c = value_put c.args.op c.args.v c.put_sign.ensures c.put_number.ensures c.put.ensures
