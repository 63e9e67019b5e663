-- What is found in the value starts further on in the header. Assumes nothing.
use Prim.Native.Nat.{◌+◌}
use native.Mathlib.Omega.{arith}
use Rattle.header_fields.proofs.Places.{piece_fits}
use Rattle.header.specs.Header.{plural}
use Rattle.header.proofs.Parts.{plural_end}
use Rattle.header.proofs.plural_at.Goals as goal

pub moved-requires : goal.moved-requires
moved-requires c =
    let l = rw c.in_ok-p.was at c.requires in
    omega (arith, piece_fits plural plural_end c.args.h.now c.in_ok-p.p.start (c.in_ok-p.p.start + c.in_ok-p.p.len) c.plural_in.ensures (omega arith) (omega arith))
