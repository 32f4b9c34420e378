-- `printed::lines::Page::put_cell` meets its contract.
-- Assumes nothing.
use borrow.Author.Rules.{rules}
use Rattle.printed.proofs.LineLaws.{cell_put}
use Rattle.printed.proofs.lines.Page.put_cell.Goals as goal

pub returns : goal.returns
returns c = search (rules, cell_put)
