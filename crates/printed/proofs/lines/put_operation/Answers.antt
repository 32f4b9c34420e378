-- `printed::lines::put_operation` meets its contract: in each arm.
-- Assumes nothing.
use borrow.Author.Rules.{rules}
use Rattle.printed.proofs.LineLaws.{end_put}
use Rattle.printed.proofs.lines.put_operation.Goals as goal

pub returns-in-Halt : goal.returns-in-Halt
returns-in-Halt c = search (rules, end_put)

pub returns-in-Store : goal.returns-in-Store
returns-in-Store c = search (rules, end_put)

pub returns-in-Dump : goal.returns-in-Dump
returns-in-Dump c = search (rules, end_put)
