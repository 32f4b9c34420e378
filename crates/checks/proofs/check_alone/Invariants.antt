-- What `checks::check_alone` keeps at each turn: the pairs passed are sound.
-- Assumes nothing.
use Rattle.std.proofs.Common.{◌≡◌, Ok}
use Rattle.rule.specs.Drawing.{drawing_of}
use Rattle.rule.specs.Refusals.{first_below, stop_at}
use Rattle.checks.proofs.check_alone.Given as goal

abbrev pub invariant-loop-i : goal.invariant-loop-i
invariant-loop-i l = first_below (stop_at (drawing_of l.body)) l.i ≡ Ok tt
