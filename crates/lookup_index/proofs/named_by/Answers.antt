-- An empty slot, no entry, or an entry with the key or another. Assumes nothing.
use Rattle.lookup_scan.specs.Keys.{bytes_of}
use Rattle.lookup_index.proofs.Searched.{named_empty, named_above, named_below}
use Rattle.lookup_index.proofs.named_by.Goals as goal

pub returns-then-x-eq0 : goal.returns-then-x-eq0
returns-then-x-eq0 c = named_empty c.args.file.now c.args.t (bytes_of c.args.key) c.if-x-eq0.true

pub returns-then-t-x : goal.returns-then-t-x
returns-then-t-x c = named_above c.args.file.now c.args.t (bytes_of c.args.key) c.args.x c.if-t-x.true

pub returns : goal.returns
returns c = named_below c.args.file.now c.args.t (bytes_of c.args.key) c.args.x c.if-x-eq0.false c.wide-i.ensures.0 c.if-t-x.false c.hit_at.ensures
