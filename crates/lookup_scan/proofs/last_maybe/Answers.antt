use mathlib.Core.Path.{refl}
use Rattle.lookup_scan.proofs.Scan.{down_first}
use Rattle.lookup_scan.proofs.last_maybe.Goals as goal

pub loop-i-init : goal.loop-i-init
loop-i-init c = down_first _ _ _ _ refl
