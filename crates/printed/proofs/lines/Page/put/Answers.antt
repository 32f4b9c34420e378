-- `printed::lines::Page::put` meets its contract: the header, the cells and the stopping states.
-- Assumes nothing.
use borrow.Author.Rules.{rules}
use Rattle.printed.proofs.PrintLaws.{page_put}
use Rattle.printed.proofs.lines.Page.put.Goals as goal

pub returns : goal.returns
returns c = search (rules, page_put)
