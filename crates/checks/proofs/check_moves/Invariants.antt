-- What `checks::check_moves` keeps at each turn: the cells passed are sound, in this row and in the rows before.
-- Assumes nothing.
use Rattle.std.proofs.Common.{◌≡◌, Ok}
use Rattle.rule.specs.Drawing.{drawing_of, events}
use Rattle.rule.specs.Refusals.{first_below, first_cell, move_at}
use Rattle.checks.proofs.check_moves.Given as goal

abbrev pub invariant-rows : goal.invariant-rows
invariant-rows l = let d = drawing_of l.body in (l.verdict ≡ Ok tt) × (first_cell (move_at d) l.s (events d) ≡ Ok tt)

abbrev pub invariant-loop-e : goal.invariant-loop-e
invariant-loop-e l = (l.verdict ≡ Ok tt) × (first_below (move_at (drawing_of l.body) l.s) l.e ≡ Ok tt)
