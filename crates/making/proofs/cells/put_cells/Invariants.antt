-- What `put_cells` keeps at each turn: the cells below the index stand at the front, and the rest of the table after them. Assumes nothing.
use mathlib.Core.Path.{◌≡◌}
use mathlib.Core.List.{map, ◌++◌}
use lib.ListN.{take, drop}
use Rattle.making.proofs.CellLaws.{with_mark}
use Rattle.making.proofs.cells.put_cells.Given as goal

abbrev pub invariant-loop-cell : goal.invariant-loop-cell
invariant-loop-cell l = l.cell-items ≡ map (with_mark l.marks) (take l.cell-index l.table) ++ drop l.cell-index l.table
