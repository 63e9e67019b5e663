-- What has no key is passed over; an entry goes where the search for its key stops. Assumes nothing.
use mathlib.Core.Path.{refl}
use native.Mathlib.Omega.{arith}
use Rattle.lookup_index.proofs.Keyed.{not_keyed, keyed_at}
use Rattle.lookup_index.proofs.Filled.{put_key, put_at, put_full}
use Rattle.lookup_index.proofs.put.Goals as goal

pub returns-in_default : goal.returns-in_default
returns-in_default c = put_key _ _ _ _ (not_keyed _ _ _ c.requires.i_lt_count c.key_at.ensures c.in_default.is)

pub overflow_add-end : goal.overflow_add-end
overflow_add-end c = let k = keyed_at _ _ _ c.requires.i_lt_count c.key_at.ensures c.in-Some.is in
    omega (arith, k.inside)

pub slice_bounds-key-end : goal.slice_bounds-key-end
slice_bounds-key-end c = let k = keyed_at _ _ _ c.requires.i_lt_count c.key_at.ensures c.in-Some.is in
    omega (arith, k.inside)

pub returns-then-stop-slots : goal.returns-then-stop-slots
returns-then-stop-slots c = let k = keyed_at _ _ _ c.requires.i_lt_count c.key_at.ensures c.in-Some.is in
    put_at _ _ _ _ k.is c.search-stop.ensures.place_is refl

pub returns-else-stop-slots : goal.returns-else-stop-slots
returns-else-stop-slots c = let k = keyed_at _ _ _ c.requires.i_lt_count c.key_at.ensures c.in-Some.is in
    put_full _ _ _ _ k.is c.search-stop.ensures.place_is c.if-stop-slots.false
