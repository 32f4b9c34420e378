-- `wanted` meets its contract, by the mode. Assumes nothing.
use borrow.Author.Rules.{rules}
use Rattle.why.proofs.JudgeLaws.{wanted_all, wanted_unmet}
use Rattle.why.proofs.grounds.Judged.wanted.Goals as goal

pub returns-then-shape-eq-JOINT : goal.returns-then-shape-eq-JOINT
returns-then-shape-eq-JOINT c = search (rules, wanted_all)

pub returns : goal.returns
returns c = search (rules, wanted_unmet)
