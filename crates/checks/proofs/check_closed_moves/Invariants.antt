-- What `checks::check_closed_moves` keeps at each turn: the rows passed are sound.
-- Assumes nothing.
use Rattle.std.proofs.Common.{◌≡◌, Ok}
use Rattle.rule.specs.Drawing.{drawing_of, events}
use Rattle.rule.specs.Refusals.{first_cell, move_at}
use Rattle.checks.proofs.check_closed_moves.Given as goal

abbrev pub invariant-loop-s : goal.invariant-loop-s
invariant-loop-s l = let d = drawing_of l.body in first_cell (move_at d) l.s (events d) ≡ Ok tt
