-- An original of bytes from 5 on with a NUL after it ends there; of any other the marks tell. Assumes nothing.
use native.Mathlib.Omega.{arith}
use Rattle.lookup_index.proofs.Keyed.{end_plain, ended_at}
use Rattle.lookup_index.proofs.key_in.Goals as goal

pub returns-then-hash : goal.returns-then-hash
returns-then-hash c = let h = c.hash_plain-hash.ensures in
    ended_at _ _ c.requires (end_plain _ _ c.requires c.if-file-end-eq0.true h.plain c.if-hash.true) (omega arith) h.value
