-- `put` meets its contract: no room, or the cells and then the end. Assumes nothing.
use Rattle.making.proofs.CellLaws.{cells_lent, lent_cells, low_64, sheet_no_room, sheet_put}
use borrow.Author.Rules.{rules}
use Rattle.making.proofs.cells.put.Goals as goal

pub returns-then-out-size : goal.returns-then-out-size
returns-then-out-size c = search (rules, sheet_no_room)

pub slice_bounds-put_cells-end-2 : goal.slice_bounds-put_cells-end-2
slice_bounds-put_cells-end-2 c = search (rules, lent_cells)

pub put_cells-requires : goal.put_cells-requires
put_cells-requires c = (search (rules, cells_lent), search (rules, low_64))

pub returns : goal.returns
returns c = search (rules, sheet_put)
