-- `dump` meets its contract: the held events are copied, and this one follows them. Assumes nothing.
use borrow.Author.Rules.{rules}
use Rattle.effects.proofs.DumpLaws.{dumped}
use Rattle.effects.proofs.dump.Goals as goal

pub returns : goal.returns
returns c = search (rules, dumped)
