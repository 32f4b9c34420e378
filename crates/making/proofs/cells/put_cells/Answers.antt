-- `put_cells` meets its contract: the table is copied, and each of its bytes gets its operation. Assumes nothing.
use native.Mathlib.Omega.{arith}
use mathlib.Core.Path.{sym, ◌∙◌}
use borrow.Author.Rules.{rules}
use Rattle.octets.proofs.CopyLaws.{copied_full}
use Rattle.making.proofs.CellLaws.{cells_none, mark_fits, cell_fits, cells_more, cells_all}
use Rattle.making.proofs.cells.put_cells.Goals as goal

pub loop-cell-init : goal.loop-cell-init
loop-cell-init c = cells_none c.args.marks c.args.table.now (c.copy.ensures ∙ copied_full c.args.table.now c.args.out.now (sym c.requires.0))

pub overflow_mul-cell : goal.overflow_mul-cell
overflow_mul-cell c = search (rules, mark_fits)

pub overflow_add-cell : goal.overflow_add-cell
overflow_add-cell c =
    let l = c.loop-cell in
    cell_fits c.args.marks c.args.table.now l.cell-items l.cell-index l.invariant (omega (arith, c.requires.0)) c.requires.1 c.at.result c.mark.ensures

pub loop-cell-preserved : goal.loop-cell-preserved
loop-cell-preserved c = search (rules, cells_more)

pub returns : goal.returns
returns c = cells_all c.args.marks c.args.table.now c.loop-cell.cell-items c.loop-cell.cell-index c.loop-cell.invariant (search rules)
