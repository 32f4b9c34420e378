-- `printed::lines::put_refusal` meets its contract.
-- Assumes nothing.
use borrow.Author.Rules.{rules}
use Rattle.printed.proofs.LineLaws.{refusal_put}
use Rattle.printed.proofs.lines.put_refusal.Goals as goal

pub returns : goal.returns
returns c = search (rules, refusal_put)
