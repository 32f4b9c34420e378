-- `printed::text::Text::put_two` meets its contract.
-- Assumes nothing.
use borrow.Author.Rules.{rules}
use Rattle.printed.proofs.LineLaws.{two_put}
use Rattle.printed.proofs.text.Text.put_two.Goals as goal

pub returns : goal.returns
returns c = search (rules, two_put)
