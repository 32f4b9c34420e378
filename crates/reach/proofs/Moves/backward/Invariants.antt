-- What `reach::Moves::backward` keeps at each turn: sweeps until one adds nothing. Each that adds something leaves fewer states outside the set.
-- Assumes nothing.
use Prim.Native.Nat.{◌-◌, ◌^◌, ◌<◌}
use Rattle.rule.specs.Reach.{target}
use Rattle.rule.proofs.CountLaws.{count}
use Rattle.rule.proofs.BackwardLaws.{Grown}
use Rattle.reach.proofs.Moves.backward.Given as goal

abbrev pub invariant-loop-back : goal.invariant-loop-back
invariant-loop-back l = (l.back < 2 ^ 64) × Grown (target l.self.table.now l.self.events) l.self.states l.self.events l.set l.back

abbrev pub decreases-loop-back : goal.decreases-loop-back
decreases-loop-back l = 64 - count l.back 64
