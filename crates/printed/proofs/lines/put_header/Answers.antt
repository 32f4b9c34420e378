-- `printed::lines::put_header` meets its contract.
-- Assumes nothing.
use borrow.Author.Rules.{rules}
use Rattle.printed.proofs.LineLaws.{header_put}
use Rattle.printed.proofs.lines.put_header.Goals as goal

pub returns : goal.returns
returns c = search (rules, header_put)
