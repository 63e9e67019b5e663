-- What is found in the value starts further on in the header. Assumes nothing.
use Prim.Native.Nat.{◌+◌}
use native.Mathlib.Omega.{arith}
use Rattle.header_fields.proofs.Places.{piece_fits}
use Rattle.header.specs.Header.{charset}
use Rattle.header.proofs.Parts.{charset_end}
use Rattle.header.proofs.charset_at.Goals as goal

pub moved-requires : goal.moved-requires
moved-requires c =
    let l = rw c.in_ok-p.was at c.requires in
    omega (arith, piece_fits charset charset_end c.args.h.now c.in_ok-p.p.start (c.in_ok-p.p.start + c.in_ok-p.p.len) c.charset_in.ensures (omega arith) (omega arith))
