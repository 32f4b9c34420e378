-- What `printed::lines::Page::put_cells` keeps at each turn: the loop puts row after row.
-- Assumes nothing.
use Prim.Native.Nat.{◌-◌, ◌≤◌}
use Rattle.rule.specs.Reach.{target}
use Rattle.rulefile.specs.Layout.{flat_up_to}
use Rattle.printed.specs.Printing.{row_lines}
use Rattle.printed.specs.Writing.{Puts}
use Rattle.operations.specs.Marks.{operation_in}
use Rattle.printed.proofs.lines.Page.put_cells.Given as goal

abbrev pub invariant-loop-s : goal.invariant-loop-s
invariant-loop-s l = (l.s ≤ l.self.moves.states) × Puts l.initial.text l.text (flat_up_to (row_lines (target l.self.moves.table.now l.self.moves.events) (operation_in l.self.marks) l.self.moves.events) l.s)

abbrev pub decreases-loop-s : goal.decreases-loop-s
decreases-loop-s l = l.self.moves.states - l.s
