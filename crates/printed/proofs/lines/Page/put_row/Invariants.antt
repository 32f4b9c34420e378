-- What `printed::lines::Page::put_row` keeps at each turn: the loop puts cell after cell.
-- Assumes nothing.
use Prim.Native.Nat.{◌-◌, ◌≤◌}
use Rattle.rule.specs.Reach.{target}
use Rattle.rulefile.specs.Layout.{flat_up_to}
use Rattle.printed.specs.Printing.{cell_of}
use Rattle.printed.specs.Writing.{Puts}
use Rattle.operations.specs.Marks.{operation_in}
use Rattle.printed.proofs.lines.Page.put_row.Given as goal

abbrev pub invariant-loop-e : goal.invariant-loop-e
invariant-loop-e l = (l.e ≤ l.self.moves.events) × Puts l.initial.text l.text (flat_up_to (cell_of (target l.self.moves.table.now l.self.moves.events) (operation_in l.self.marks) l.s.0) l.e)

abbrev pub decreases-loop-e : goal.decreases-loop-e
decreases-loop-e l = l.self.moves.events - l.e
