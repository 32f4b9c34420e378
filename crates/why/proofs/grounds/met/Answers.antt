-- `met` meets its contract. Assumes nothing.
use borrow.Author.Rules.{rules}
use Rattle.why.proofs.PickLaws.{met_is}
use Rattle.why.proofs.grounds.met.Goals as goal

pub returns : goal.returns
returns c = search (rules, met_is)
