-- `printed::print` meets its contract: the text is measured, and put where it fits.
-- Assumes nothing.
use mathlib.Core.Path.{refl}
use borrow.Author.Rules.{rules}
use Rattle.printed.proofs.PrintLaws.{print_no_room, print_put}
use Rattle.printed.proofs.print.Goals as goal

pub returns-then-out-measure : goal.returns-then-out-measure
returns-then-out-measure c = print_no_room _ _ c.found_in-found.ensures _ refl refl c.put_found.ensures c.if-out-measure.true

pub returns : goal.returns
returns c =
    print_put _ _ c.found_in-found.ensures _ refl refl c.put_found.ensures c.if-out-measure.false refl refl c.put_found-2.ensures (search rules)
