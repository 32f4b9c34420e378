-- What `reach::Moves::swept_down` keeps at each turn: a sweep from here down comes to what it comes to from the start. Assumes nothing.
use mathlib.Core.Path.{◌≡◌}
use Rattle.rule.specs.Backward.{swept_down}
use Rattle.rule.specs.Reach.{target}
use Rattle.reach.proofs.Moves.swept_down.Given as goal

abbrev pub invariant-loop-s : goal.invariant-loop-s
invariant-loop-s l =
    let next = target l.self.table.now l.self.events in
    swept_down next l.self.events l.out l.s ≡ swept_down next l.self.events l.set l.self.states
