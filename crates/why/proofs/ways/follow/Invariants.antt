-- What `follow` keeps at each turn. Assumes nothing.
use mathlib.Core.Path.{◌≡◌}
use mathlib.Core.List.{◌++◌}
use Prim.Native.Nat.{◌-◌, ◌<◌}
use lib.ListN.{length, take}
use Rattle.rule.specs.Reach.{target}
use Rattle.why.specs.Steps.{followed}
use Rattle.why.proofs.ways.follow.Given as goal

abbrev pub invariant-loop-step : goal.invariant-loop-step
invariant-loop-step l = (l.s.0 < length l.steps)
    × (take l.step-index l.step-items ++ followed (target l.moves.table.now l.moves.events) l.steps (length l.fn.out - l.step-index) l.s.0
    ≡ followed (target l.moves.table.now l.moves.events) l.steps (length l.fn.out) l.fn.t.0)
