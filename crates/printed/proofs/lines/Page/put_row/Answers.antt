-- `printed::lines::Page::put_row` meets its contract: the loop puts cell after cell.
-- Assumes nothing.
use native.Mathlib.Omega.{arith}
use borrow.Author.Rules.{rules}
use Rattle.printed.specs.Printing.{row_lines}
use Rattle.printed.proofs.LoopLaws.{flat_none, flat_more, flat_all}
use Rattle.printed.proofs.lines.Page.put_row.Goals as goal

pub loop-e-init : goal.loop-e-init
loop-e-init c = (omega arith, flat_none _ _ (omega arith) (omega arith))

pub loop-e-preserved : goal.loop-e-preserved
loop-e-preserved c = search (rules, flat_more)

pub returns : goal.returns
unfolding row_lines
returns c = search (rules, flat_all)
