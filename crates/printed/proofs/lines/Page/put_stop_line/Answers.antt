-- `printed::lines::Page::put_stop_line` meets its contract: where no state was put, the line has `-`.
-- Assumes nothing.
use borrow.Author.Rules.{rules}
use Rattle.printed.proofs.StopLaws.{none_put, some_put}
use Rattle.printed.proofs.lines.Page.put_stop_line.Goals as goal

pub returns-then-text-words : goal.returns-then-text-words
returns-then-text-words c = search (rules, none_put)

pub returns-else-text-words : goal.returns-else-text-words
returns-else-text-words c = search (rules, some_put)
