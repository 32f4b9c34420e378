-- What `put` keeps at each turn: the rounds go on until t is found, and then the steps are followed from it.
-- Assumes nothing.
use Prim.Native.Nat.{◌≤◌, ◌-◌}
use Rattle.why.proofs.SoughtLaws.{Sought}
use Rattle.why.proofs.ways.put.Given as goal

abbrev pub invariant-loop-rows : goal.invariant-loop-rows
invariant-loop-rows l = (l.rounds ≤ l.moves.states) × Sought l.moves.table.now l.moves.states l.moves.events l.goal l.t.0 l.steps l.near l.rounds

abbrev pub decreases-loop-rows : goal.decreases-loop-rows
decreases-loop-rows l = l.moves.states - l.rounds
