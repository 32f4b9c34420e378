-- What `each` keeps at each turn. Assumes nothing.
use Rattle.monitor.proofs.EveningLaws.{Going}
use Rattle.monitor.proofs.steps.Opened.each.Given as goal

abbrev pub invariant-loop-passed : goal.invariant-loop-passed
invariant-loop-passed l = Going l.self.sheet.now l.log l.initial.memory l.initial.output l.fn.run l.memory l.output l.passed l.evening
