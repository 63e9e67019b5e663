-- What the reader's answer says of the reading settles each case; what it left can be packed. Assumes nothing.
use Rattle.rules.proofs.Stored.{blank_is}
use Rattle.reading_rule.proofs.Steps.{parses, none_made, found, some_nodes, can_pack, has_room, held}
use Rattle.reading_rule.proofs.rule_of.Goals as goal

pub returns-in_default-clause-parsed : goal.returns-in_default-clause-parsed
returns-in_default-clause-parsed c = parses (none_made c.args.place _ c.in_default.ensures.read) (rw c.at.ensures at c.refuse.ensures.parsed)

pub overflow_sub-count : goal.overflow_sub-count
overflow_sub-count c = some_nodes (found _ c.in-Some.ensures.read) blank_is c.requires

pub pack-requires : goal.pack-requires
pack-requires c = let f = found _ c.in-Some.ensures.read in rw c.nodes.ensures (record { plain = can_pack f blank_is c.requires; room = has_room f blank_is c.requires })

pub returns-clause-parsed : goal.returns-clause-parsed
returns-clause-parsed c = held (found _ c.in-Some.ensures.read) blank_is c.requires c.args.place (rw c.nodes.ensures at c.pack.ensures.nodes) (rw c.nodes.ensures at c.pack.ensures.count)
