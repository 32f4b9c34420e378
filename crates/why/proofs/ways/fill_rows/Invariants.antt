-- What `fill_rows` keeps at each turn: the slice has the moves of each state below s.
-- Assumes nothing.
use mathlib.Core.Path.{◌≡◌}
use Prim.Native.Nat.{◌≤◌, ◌-◌}
use lib.ListN.{length}
use Rattle.why.specs.Steps.{rows_of}
use Rattle.why.proofs.ways.fill_rows.Given as goal

abbrev pub invariant-loop-s : goal.invariant-loop-s
invariant-loop-s l = (l.s ≤ l.moves.states) × (l.rows ≡ rows_of l.moves.table.now l.moves.events l.initial.rows l.s) × (length l.rows ≡ length l.initial.rows)

abbrev pub decreases-loop-s : goal.decreases-loop-s
decreases-loop-s l = l.moves.states - l.s
