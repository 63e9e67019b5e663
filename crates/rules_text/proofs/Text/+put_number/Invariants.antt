-- `rules_text::put_number` meets its contract: the digits before the last are those of the tenth part, and the number is the measure.
use Rattle.rules_text.proofs.Text.+put_number.Given as goal

abbrev pub decreases-put_number : goal.decreases-put_number
decreases-put_number l = l.v
