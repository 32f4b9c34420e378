-- `put` meets its contract: the rounds go on until t is found, and then the steps are followed from it.
-- Assumes nothing.
use borrow.Author.Rules.{rules}
use Rattle.why.proofs.SoughtLaws.{sought_none, sought_more, sought_fewer, sought_le, sought_less}
use Rattle.why.proofs.SoughtLaws.{low_steps, way_lent, way_no_room, way_put}
use Rattle.why.proofs.ways.put.Goals as goal

pub loop-rows-init : goal.loop-rows-init
loop-rows-init c = (search rules, sought_none _ _ _ _ _ (search rules))

pub nearer-near-requires : goal.nearer-near-requires
nearer-near-requires c = (search rules, search rules, search rules)

pub overflow_add-rounds : goal.overflow_add-rounds
overflow_add-rounds c = search (rules, sought_fewer)

pub loop-rows-smaller : goal.loop-rows-smaller
loop-rows-smaller c = search (rules, sought_less)

pub loop-rows-preserved : goal.loop-rows-preserved
loop-rows-preserved c = (search (rules, sought_le), search (rules, sought_more))

pub returns-then-out-size : goal.returns-then-out-size
returns-then-out-size c = search (rules, way_no_room)

pub slice_bounds-follow-end-3 : goal.slice_bounds-follow-end-3
slice_bounds-follow-end-3 c = search (rules, way_lent)

pub follow-requires : goal.follow-requires
follow-requires c = (search (rules, low_steps), search rules)

pub returns : goal.returns
returns c = search (rules, way_put)
