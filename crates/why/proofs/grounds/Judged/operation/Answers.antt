-- `operation` meets its contract, by the mode. Assumes nothing.
use borrow.Author.Rules.{rules}
use Rattle.why.proofs.JudgeLaws.{by_all, by_pairs}
use Rattle.why.proofs.grounds.Judged.operation.Goals as goal

pub returns-then-body-eq-JOINT : goal.returns-then-body-eq-JOINT
returns-then-body-eq-JOINT c = search (rules, by_all)

pub returns : goal.returns
returns c = search (rules, by_pairs)
