-- What `checks::check_entries` keeps at each turn: the cells passed are sound, in this row and in the rows before.
-- Assumes nothing.
use Rattle.std.proofs.Common.{◌≡◌, Ok}
use Rattle.rule.specs.Drawing.{drawing_of}
use Rattle.rule.specs.Refusals.{first_below, first_cell, entry_at}
use Rattle.checks.proofs.check_entries.Given as goal

abbrev pub invariant-cells : goal.invariant-cells
invariant-cells l = (l.verdict ≡ Ok tt) × (first_cell (entry_at (drawing_of l.body)) l.s l.events ≡ Ok tt)

abbrev pub invariant-loop-e : goal.invariant-loop-e
invariant-loop-e l = (l.verdict ≡ Ok tt) × (first_below (entry_at (drawing_of l.body) l.s) l.e ≡ Ok tt)
