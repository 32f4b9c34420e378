-- `goal_set` meets its contract, by the mode. Assumes nothing.
use borrow.Author.Rules.{rules}
use Rattle.why.proofs.JudgeLaws.{goal_together, goal_alone}
use Rattle.why.proofs.grounds.Judged.goal_set.Goals as goal

pub returns-then-body-eq-JOINT : goal.returns-then-body-eq-JOINT
returns-then-body-eq-JOINT c = search (rules, goal_together)

pub returns : goal.returns
returns c = search (rules, goal_alone)
