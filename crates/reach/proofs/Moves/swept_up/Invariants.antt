-- What `reach::Moves::swept_up` keeps at each turn: the states below s were tried. Assumes nothing.
use mathlib.Core.Path.{◌≡◌}
use Rattle.rule.specs.Backward.{swept_up}
use Rattle.rule.specs.Reach.{target}
use Rattle.reach.proofs.Moves.swept_up.Given as goal

abbrev pub invariant-loop-s : goal.invariant-loop-s
invariant-loop-s l = l.out ≡ swept_up (target l.self.table.now l.self.events) l.self.events l.set l.s
