-- What `nearer` keeps at each turn: one state at a time, in the set and in the array of steps.
-- Assumes nothing.
use mathlib.Core.Path.{◌≡◌}
use Prim.Native.Nat.{◌≤◌, ◌-◌}
use lib.ListN.{length}
use Rattle.rule.specs.Reach.{target}
use Rattle.rule.specs.Ways.{nearer_below}
use Rattle.why.specs.Steps.{steps_below}
use Rattle.why.proofs.ways.nearer.Given as goal

abbrev pub invariant-loop-s : goal.invariant-loop-s
invariant-loop-s l = (l.s ≤ l.moves.states) × (length l.steps ≡ length l.initial.steps)
    × (l.out ≡ nearer_below (target l.moves.table.now l.moves.events) l.moves.events l.set l.s) × (l.steps ≡ steps_below (target l.moves.table.now l.moves.events) l.moves.events l.set l.initial.steps l.s)

abbrev pub decreases-loop-s : goal.decreases-loop-s
decreases-loop-s l = l.moves.states - l.s
