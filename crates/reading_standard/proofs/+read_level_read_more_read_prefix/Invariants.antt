-- The cycle of the reader: its measures, and the loop over the levels. The measure is the text that is left, times more than the levels there
-- are, plus the level: a call at the same position goes to a tighter level, and every other call is further on.
use Prim.Native.Nat.{◌-◌, ◌+◌, ◌*◌}
use Rattle.reading_grammar.specs.Grammar.{full}
use Rattle.reading_standard.specs.Private.{Climbs}
use Rattle.rules.specs.Lent.{Keeps, pool_left}
use lib.ListN.{length}
use Rattle.reading_standard.proofs.+read_level_read_more_read_prefix.Given as goal

abbrev pub decreases-read_level : goal.decreases-read_level
decreases-read_level l = (full + 2) * (length l.s.now - l.at) + l.l + 1

abbrev pub decreases-read_more : goal.decreases-read_more
decreases-read_more l = (full + 2) * (length l.s.now - l.at)

abbrev pub decreases-read_prefix : goal.decreases-read_prefix
decreases-read_prefix l = (full + 2) * (length l.s.now - l.at)

abbrev pub invariant-read_level-loop-j : goal.invariant-read_level-loop-j
invariant-read_level-loop-j l = record {
  lent : Keeps l.initial.lent l.lent;
  read : Climbs l.s l.at l.k (pool_left l.initial.lent) l.initial.m l.initial.q l.j (pool_left l.lent) l.m l.q;
}
