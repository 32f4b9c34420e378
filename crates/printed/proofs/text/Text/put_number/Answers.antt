-- `printed::text::Text::put_number` meets its contract: the digits that the number has.
-- Assumes nothing.
use borrow.Author.Rules.{rules}
use Rattle.printed.proofs.TextLaws.{number_one, number_two, number_three}
use Rattle.printed.proofs.text.Text.put_number.Goals as goal

pub returns-then-n-lt10 : goal.returns-then-n-lt10
returns-then-n-lt10 c = search (rules, number_one)

pub returns-then-n-lt100 : goal.returns-then-n-lt100
returns-then-n-lt100 c = search (rules, number_two)

pub returns-else-n-lt100 : goal.returns-else-n-lt100
returns-else-n-lt100 c = search (rules, number_three)
