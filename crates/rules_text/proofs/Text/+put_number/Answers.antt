use mathlib.Core.Path.{refl}
use native.Mathlib.Omega.{arith}
use Rattle.rules_text.proofs.Laid.{number_short, number_long}
use Rattle.rules_text.proofs.Text.+put_number.Goals as goal

pub returns-then-v-lt10 : goal.returns-then-v-lt10
returns-then-v-lt10 t c = number_short c.args.v c.args.self.now.end c.ranges.v.fits (omega arith) refl c.put.ensures

pub returns : goal.returns
returns t c = number_long c.args.v c.args.self.now.end c.ranges.v.fits (omega arith) c.put_number.ensures refl c.put-2.ensures
