-- `printed::lines::Page::put_cells` meets its contract: the loop puts row after row.
-- Assumes nothing.
use native.Mathlib.Omega.{arith}
use borrow.Author.Rules.{rules}
use Rattle.printed.specs.Printing.{cell_lines}
use Rattle.printed.proofs.LoopLaws.{flat_none, flat_more, flat_all}
use Rattle.printed.proofs.lines.Page.put_cells.Goals as goal

pub loop-s-init : goal.loop-s-init
loop-s-init c = (omega arith, flat_none _ _ (omega arith) (omega arith))

pub loop-s-preserved : goal.loop-s-preserved
loop-s-preserved c = search (rules, flat_more)

pub returns : goal.returns
unfolding cell_lines
returns c = search (rules, flat_all)
