-- What `reach::Moves::moved` keeps at each turn: the moves from the members that are left, added to what there is, come to what those of all come to.
-- Assumes nothing.
use mathlib.Core.Path.{◌≡◌}
use Rattle.rule.specs.Reach.{moved_below}
use Rattle.reach.proofs.Moves.moved.Given as goal

abbrev pub invariant-loop-rest : goal.invariant-loop-rest
invariant-loop-rest l =
    let t = l.self.table.now in
    let k = l.self.events in
    moved_below t k l.rest l.out l.self.states ≡ moved_below t k l.initial.rest l.initial.out l.self.states

abbrev pub decreases-loop-rest : goal.decreases-loop-rest
decreases-loop-rest l = l.rest
