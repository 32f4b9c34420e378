-- `put_moved` keeps this. Assumes nothing.
use borrow.Author.Rules.{rules}
use Rattle.book.proofs.GrowthLaws.{moved_more}
use Rattle.book.proofs.growth.put_moved.Goals as goal

pub loop-i-preserved : goal.loop-i-preserved
loop-i-preserved c = search (rules, moved_more)
